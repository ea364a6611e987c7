-- Document 00, demand 3, of mapping: of counts that counting left, mapping is prepare; of any counts that it accepts the footer shows what it shows after prepare. And order 2: the limits, and that no clip refusal is given.
-- Promises alone: of every run of the calls by their contracts (Runs), each listed in docs/PROMISES.md. A name with ' is lent memory at the end.
-- Assumes nothing.
use Prim.Native.Nat.{ℕ}
use mathlib.Core.List.{List}
use mathlib.Core.Path.{◌≡◌, ◌∙◌, sym, subst}
use lib.Ieee.{Float}
use mathlib.Core.Logic.{◌≢◌}
use lib.ListN.{length}
use Rattle.base_rows.specs.Refuse.{accepted, refused}
use Rattle.tile_limit.specs.declared.Edition.TheVariants.{Ours}
use Rattle.film_settings.specs.declared.MapRecord.{MapRecord}
use Rattle.film_settings.specs.declared.Footer.{Footer}
use Rattle.film_settings.specs.Settings.{bins_of}
use Rattle.film_tiles.specs.Tiles.{pixels_in}
use Rattle.promise_films.specs.Films.{ClippingOn, FooterShows, FilmSound, limit_in, LimitFits}
use Rattle.promise_films.proofs.Sound.{foot_shows, tiled_limit_fits}
use Rattle.promise_counts.proofs.Runs.{MapCall, Maps, CountCall, Counts}
use Rattle.promise_counts.proofs.Ways.{CountedAs}
use Rattle.promise_films.proofs.Accepted.{says_refused}
use Rattle.promise_counts.proofs.Order5.{count_says, map_says}
use Rattle.promise_counts.proofs.Tables.{count_rows_never_14, map_rows_never_14, map_told, mapped_asks}
use Rattle.promise_counts.proofs.Ended.{counted_made}
use Rattle.promise_films.proofs.Made.{made_footer, made_tiles_sound}

-- ---- of counts that counting left

module _ {pic : List ℕ} {d : MapCall} {r : MapRecord} {foot : Footer} (by : CountedAs d.width d.height pic d.settings d.counts) (ran : Maps d)
    (mapped : d.answer ≡ accepted (r, foot)) where
  -- what the footer shows, by the clip setting
  pub mapped_footer : FooterShows d.settings.clip (pixels_in d.width d.height d.settings 0) (bins_of d.settings) foot
  mapped_footer = made_footer (counted_made by ran mapped)

  -- and every tile, with its own limit, in our edition
  pub mapped_tiles_sound : {f : Float} → ClippingOn d.settings.clip f → d.settings.edition ≡ Ours → FilmSound d.width d.height pic d.settings f d.map'
  mapped_tiles_sound on ours = made_tiles_sound (counted_made by ran mapped) on ours

-- ---- of any counts

module _ {d : MapCall} {r : MapRecord} {foot : Footer} (ran : Maps d) (mapped : d.answer ≡ accepted (r, foot)) where
  -- what the footer shows, by the clip setting
  pub mapped_footer_any : FooterShows d.settings.clip (pixels_in d.width d.height d.settings 0) (bins_of d.settings) foot
  mapped_footer_any = subst (FooterShows d.settings.clip (pixels_in d.width d.height d.settings 0) (bins_of d.settings)) (map_told ran mapped).2 (foot_shows (mapped_asks ran mapped))

  -- order 2: L x B is never below N, and L is the least that can hold the tile where the factor would give less, of each tile and its own limit
  pub mapped_limit_fits : {f : Float} → ClippingOn d.settings.clip f → (k : ℕ)
      → LimitFits f (pixels_in d.width d.height d.settings k) (bins_of d.settings) (limit_in d.width d.height d.settings f k)
  mapped_limit_fits {f} on k = tiled_limit_fits (mapped_asks ran mapped).tiled f k

-- ---- the clip refusal

-- order 2: "a clip refusal never occurs"
pub count_never_14 : {c : CountCall} → Counts c → c.answer ≢ refused 14
count_never_14 {c} ran q = count_rows_never_14 c.width c.height c.pixels c.settings (length c.counts) (says_refused _ _ (sym (count_says ran) ∙ q))

-- nor by mapping
pub map_never_14 : {d : MapCall} → Maps d → d.answer ≢ refused 14
map_never_14 {d} ran q = map_rows_never_14 d.width d.height d.settings d.counts (length d.map) (length d.scratch) (length d.list) (says_refused _ _ (sym (map_says ran) ∙ q))
