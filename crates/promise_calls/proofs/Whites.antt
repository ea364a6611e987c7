-- Min lies in the first bin, Max in the last, and the mapping of Max's bin is Max: of a film's mappings with clip off or a factor above one, whichever call made them.
-- A name with ' is lent memory at the end.
-- Assumes nothing.
use Prim.Native.Nat.{ℕ, ◌+◌, ◌-◌, ◌*◌, ◌<◌}
use mathlib.Core.Bool.{false}
use mathlib.Core.List.{List}
use mathlib.Core.Path.{◌≡◌, sym, ap, subst, ◌∙◌}
use native.Mathlib.Omega.{arith}
use lib.ListN.{get_or}
use Rattle.base_rows.specs.Refuse.{accepted}
use Rattle.tile_bin.specs.Binning.{bin_of}
use Rattle.tile_bin.proofs.Bins.{bin_first, bin_last}
use Rattle.tile_count.specs.Tally.{greys_of}
use Rattle.tile_map.specs.Tile.{mapped_of, Holds}
use Rattle.tile_map.proofs.Tiles.{get_or_tile_mapping, tile_mapping_last}
use Rattle.film_settings.specs.declared.Settings.{Settings}
use Rattle.film_settings.specs.declared.MapRecord.{MapRecord}
use Rattle.film_settings.specs.declared.Footer.{Footer}
use Rattle.film_settings.specs.Settings.{bins_of, clip_one_of}
use Rattle.film_tiles.specs.Tiles.{tile_of, Work, TilesReady}
use Rattle.film_tiles.proofs.Tiles.{length_tile_greys, tile_pixels_some}
use Rattle.film_tiles.proofs.Films.{tile_holds, tile_greys}
use Rattle.promise_films.specs.Films.{clipped_counts, divides_in}
use Rattle.promise_films.proofs.Accepted.{prepare_work}
use Rattle.promise_films.proofs.Ended.{Rendered}
use Rattle.promise_films.proofs.Runs.{EnhanceCall}
use Rattle.promise_calls.specs.Calls.{WhitesReach}
use Rattle.promise_films.proofs.Made.{Made, made_by_rule}
use Rattle.promise_films.proofs.Whole.{whole_work, whole_mapped_by_rule}

-- ---- a film

-- whose map entries are the mapped values of each tile's own counts
film_whites : {w h : ℕ} {pic : List ℕ} {s : Settings} {room scratch : ℕ} → Work w h pic s room scratch → clip_one_of s.clip ≡ false → (m : List ℕ)
    → ((k b : ℕ) → k < s.across * s.down → b < bins_of s → get_or m (k * bins_of s + b) 0 ≡ mapped_of s.min s.max (divides_in w h pic s k) (clipped_counts w h pic s k) b)
    → WhitesReach s m
film_whites {w} {h} {pic} {s} {room} {scratch} work one m own =
    record { black = bin_first s.min s.max (bins_of s); white = last; reach = λ k l. ap (λ b. get_or m (k * bins_of s + b) 0) last ∙ whites k l }
  where
    some : 0 < bins_of s
    some = omega (arith, work.ready.tiled.bins)

    last : bin_of s.min s.max (bins_of s) s.max ≡ bins_of s - 1
    last = bin_last s.min s.max (bins_of s) some work.ready.tiled.reach

    asks : TilesReady w h pic s room scratch
    asks = record { work = work; changes = one }

    whites : (k : ℕ) → k < s.across * s.down → get_or m (k * bins_of s + (bins_of s - 1)) 0 ≡ s.max
    whites k l =
        let pixels = length_tile_greys w h pic s k in
        own k (bins_of s - 1) l (omega arith)
        ∙ sym (get_or_tile_mapping s.min s.max (bins_of s) s.edition s.clip (greys_of pic w (tile_of w h s k)) (bins_of s - 1) (omega arith))
        ∙ tile_mapping_last s.min s.max (bins_of s) s.edition s.clip (greys_of pic w (tile_of w h s k)) (tile_greys asks l) some (omega (arith, work.ready.tiled.min))
        (omega (arith, pixels, tile_pixels_some work.ready.tiled l)) (subst (λ n. Holds s.clip n (bins_of s)) (sym pixels) (tile_holds asks k))

-- so of what was made of a film, whichever call made it, and of a film that was rendered whole
pub made_whites : {film w h : ℕ} {pic : List ℕ} {s : Settings} {r : MapRecord} {foot : Footer} {left : List ℕ} → Made film w h pic s r foot left → clip_one_of s.clip ≡ false → WhitesReach s left
made_whites {film} {w} {h} {pic} {s} made one = film_whites (prepare_work film w h pic s _ _ _ made.accepts) one _ (made_by_rule made one)

pub whole_whites : (e : EnhanceCall) {foot : Footer} → Rendered e → e.answer ≡ accepted foot → clip_one_of e.settings.clip ≡ false → WhitesReach e.settings e.map'
whole_whites e ends done one = film_whites (whole_work e ends done) one e.map' (whole_mapped_by_rule e ends done one)
