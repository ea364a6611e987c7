-- What a film's record and mappings were made by, whichever call made them: prepare, prepare on bytes, or mapping of what counting left; and a window drawn from them by draw, or by
-- draw on bytes. One law for all of them; of each call it is said where the call's contract is (Calls, and in the crates of bytes, counts and the calls for C).
-- Assumes nothing.
use Prim.Native.Nat.{ℕ, ◌+◌, ◌*◌, ◌≤◌, ◌<◌}
use mathlib.Core.Bool.{true, false}
use mathlib.Core.List.{List}
use mathlib.Core.Path.{◌≡◌, refl, sym, ap, ap₂, subst, ◌∙◌}
use lib.ListN.{length, get_or, take}
use lib.Ieee.{Float}
use Rattle.base_rows.specs.Refuse.{accepted}
use Rattle.film_settings.specs.declared.Settings.{Settings}
use Rattle.film_settings.specs.declared.MapRecord.{MapRecord}
use Rattle.film_settings.specs.declared.Footer.{Footer}
use Rattle.film_settings.specs.Settings.{bins_of, entries_of, kept_of, clip_one_of, Tiled}
use Rattle.film_settings.proofs.Records.{record_film}
use Rattle.film_prepare.specs.Prepare.{PrepareOut, prepare_of, EnhanceOut, enhance_leaves, enhance_of}
use Rattle.film_prepare.proofs.Like.{enhance_kept}
use Rattle.film_draw.specs.Draw.{DrawOut, draw_leaves, draw_of}
use Rattle.pixel_rule.specs.Rule.{rule_grey}
use Rattle.promise_films.specs.Films.{HandedOn, clipped_counts, divides_in, ClippingOn, ClipCase, FooterShows, limit_in, FilmSound, LimitFits, BinsReached}
use Rattle.promise_films.proofs.Accepted.{prepare_record, prepare_work, ended_none, draw_table}
use Rattle.promise_films.proofs.Reuse.{left_settings}
use Rattle.promise_films.proofs.Rendering.{enhance_agrees, draw_agrees, divides_pixels, divides_pixels_off, counts_raw_off, own_mapping}
use Rattle.promise_films.proofs.Windows.{accepted_handed, accepted_by_rule, accepted_as_film, accepted_as_enhanced}
use Rattle.promise_films.proofs.Runs.{EnhanceCall, DrawCall, PrepareCall, Prepares, prepare_ends}
use Rattle.promise_films.proofs.Ways.{drawn_grey, HandedToDraw, DrawnFrom, EnhancesFilm}
use Rattle.promise_films.proofs.Ended.{Shown, Rendered, Ended, ended_accepted, draw_shown}
use Rattle.tile_limit.specs.declared.Clip.TheVariants.{Off}
use Rattle.tile_limit.specs.declared.Edition.TheVariants.{Ours, Of1986}
use Rattle.tile_map.specs.Tile.{mapped_of}
use Rattle.film_tiles.specs.Tiles.{pixels_in, FilmFooterAsks}
use Rattle.film_count.specs.Counting.{raw_counts}
use Rattle.promise_films.specs.Older.{FilmOlder}
use Rattle.promise_films.proofs.Sound.{tiles_sound, tiles_older, footer_shows, clip_cases, tiled_limit_fits}
use Rattle.promise_films.proofs.Bins.{tiled_reached}
use Rattle.film_settings.proofs.Ready.{ready}
use Rattle.film_draw.proofs.Tables.{draw_parts}
use Rattle.film_tiles.proofs.Footers.{film_asks}

-- the record r, this footer and the map buffer left are those that prepare's outcome gives for the film of this number, size, pixels and settings, with some buffers
pub record Made (film w h : ℕ) (pic : List ℕ) (s : Settings) (r : MapRecord) (foot : Footer) (left : List ℕ) : Type 0 where
  pub map : List ℕ
  pub scratch : List ℕ
  pub list : List ℕ
  pub accepts : (prepare_of film w h pic s map scratch list).answer ≡ accepted (r, foot)
  pub leaves : left ≡ (prepare_of film w h pic s map scratch list).map

module _ {film w h : ℕ} {pic : List ℕ} {s : Settings} {r : MapRecord} {foot : Footer} {left : List ℕ} (made : Made film w h pic s r foot left) where
  -- the record is of the film's number
  pub made_film : r.film ≡ film
  made_film = ap (λ (z : MapRecord). z.film) (sym (prepare_record film w h pic s _ _ _ made.accepts)) ∙ record_film film w h s

  -- and its settings can be handed on for those that were asked
  pub made_settings : kept_of r.settings ≡ kept_of s
  made_settings = left_settings film w h pic s _ _ _ made.accepts

  -- the film is one that a call accepts
  pub made_tiled : Tiled w h s
  made_tiled = (prepare_work film w h pic s _ _ _ made.accepts).ready.tiled

  -- whose footer the rules give
  pub made_asks : FilmFooterAsks w h s
  made_asks = film_asks (prepare_work film w h pic s _ _ _ made.accepts).ready

  -- each tile's own mapping lies in the map buffer
  pub made_by_rule : clip_one_of s.clip ≡ false → (k b : ℕ) → k < s.across * s.down → b < bins_of s
      → get_or left (k * bins_of s + b) 0 ≡ mapped_of s.min s.max (divides_in w h pic s k) (clipped_counts w h pic s k) b
  made_by_rule one k b l q = ap (λ m. get_or m (k * bins_of s + b) 0) made.leaves ∙ own_mapping film w h pic s _ _ _ made.accepts one k b l q

  -- in our edition over N
  pub made_ours_by_rule : s.edition ≡ Ours → clip_one_of s.clip ≡ false → (k b : ℕ) → k < s.across * s.down → b < bins_of s
      → get_or left (k * bins_of s + b) 0 ≡ mapped_of s.min s.max (pixels_in w h s k) (clipped_counts w h pic s k) b
  made_ours_by_rule ours one k b l q = made_by_rule one k b l q ∙ ap (λ n. mapped_of s.min s.max n (clipped_counts w h pic s k) b) (divides_pixels w h pic s k ours)

  -- with clip off that of the raw counts, over N
  pub made_off_by_rule : s.clip ≡ Off → (k b : ℕ) → k < s.across * s.down → b < bins_of s
      → get_or left (k * bins_of s + b) 0 ≡ mapped_of s.min s.max (pixels_in w h s k) (raw_counts w h pic s k) b
  made_off_by_rule off k b l q =
      made_by_rule (rw off refl) k b l q ∙ ap₂ (λ n cs. mapped_of s.min s.max n cs b) (divides_pixels_off w h pic s k off) (counts_raw_off w h pic s k off)

  -- what the footer shows, by the clip setting, which is one of three
  pub made_footer : FooterShows s.clip (pixels_in w h s 0) (bins_of s) foot
  made_footer = footer_shows film w h pic s _ _ _ made.accepts

  pub made_clip : ClipCase s.clip
  made_clip = clip_cases (prepare_work film w h pic s _ _ _ made.accepts)

  -- demand 3 of every tile, and order 8's facts in its place
  pub made_tiles_sound : {f : Float} → ClippingOn s.clip f → s.edition ≡ Ours → FilmSound w h pic s f left
  made_tiles_sound on ours = rw made.leaves (tiles_sound film w h pic s _ _ _ made.accepts on ours)

  pub made_tiles_older : {f : Float} → ClippingOn s.clip f → s.edition ≡ Of1986 → FilmOlder w h pic s f left
  made_tiles_older on other = rw made.leaves (tiles_older film w h pic s _ _ _ made.accepts on other)

  -- order 2, of each tile's own limit
  pub made_limit_fits : (f : Float) (k : ℕ) → LimitFits f (pixels_in w h s k) (bins_of s) (limit_in w h s f k)
  made_limit_fits f k = tiled_limit_fits made_tiled f k

  -- order 3
  pub made_reached : BinsReached s
  made_reached = tiled_reached made_tiled

-- a call that ended as prepare does, and accepted its film, made them
pub ended_made : (p : PrepareCall) {r : MapRecord} {foot : Footer} → Ended p → p.answer ≡ accepted (r, foot)
    → Made p.film p.width p.height p.pixels p.settings r foot p.map'
ended_made p ends done =
    record { map = p.map; scratch = p.scratch; list = p.list; accepts = ended_accepted p ends done; leaves = ap (λ (z : PrepareOut). z.map) ends }

-- so does prepare itself
pub prepare_made : {p : PrepareCall} {r : MapRecord} {foot : Footer} → Prepares p → p.answer ≡ accepted (r, foot)
    → Made p.film p.width p.height p.pixels p.settings r foot p.map'
prepare_made {p} ran done = ended_made p (prepare_ends ran) done

-- ---- draw

-- draw was handed this film, the mappings that were left, settings that are kept as its own, a window inside it and an output of its area
pub record HandedFilm (no w h : ℕ) (pic : List ℕ) (s : Settings) (left : List ℕ) (d : DrawCall) : Type 0 where
  pub film : d.film ≡ no
  pub width : d.width ≡ w
  pub height : d.height ≡ h
  pub pixels : d.pixels ≡ pic
  pub rest : HandedOn w h s left d.settings d.map d.window (length d.out)

-- with the record it is drawn
pub handed_done : {film w h : ℕ} {pic : List ℕ} {s : Settings} {foot : Footer} {left : List ℕ} {d : DrawCall} → Made film w h pic s d.kept foot left → Shown d
    → HandedFilm film w h pic s left d → d.answer ≡ accepted tt
handed_done {film} {w} {h} {pic} {s} {foot} {left} {d} made shown handed =
    ap (λ (z : DrawOut). z.answer) shown.ends
    ∙ rw (handed.film, handed.width, handed.height, handed.pixels)
    (draw_agrees film w h pic s _ _ _ made.accepts d.settings d.map d.window d.out
    (subst (λ m. HandedOn w h s m d.settings d.map d.window (length d.out)) made.leaves handed.rest))

-- enhance was handed this film, settings that are kept as its own, and buffers that are long enough
pub record EnhancesSame (w h : ℕ) (pic : List ℕ) (s : Settings) (e : EnhanceCall) : Type 0 where
  pub width : e.width ≡ w
  pub height : e.height ≡ h
  pub pixels : e.pixels ≡ pic
  pub like : kept_of e.settings ≡ kept_of s
  pub map : entries_of s ≤ length e.map
  pub scratch : bins_of s ≤ length e.scratch

-- a window that draw accepted, handed the record, the film's pixels and, but at the factor 1.0, the mappings that were left, whatever else
module _ {film w h : ℕ} {pic : List ℕ} {s : Settings} {foot : Footer} {left : List ℕ} {d : DrawCall} (made : Made film w h pic s d.kept foot left) (shown : Shown d)
    (drawn : d.answer ≡ accepted tt) (pixels : d.pixels ≡ pic) (mappings : clip_one_of s.clip ≡ false → take (entries_of s) d.map ≡ take (entries_of s) left) where
  shows : draw_leaves d.answer d.out' ≡ draw_of d.film d.width d.height pic d.settings d.kept d.window d.map d.out
  shows = shown.ends ∙ rw pixels refl

  accepts : (draw_of d.film d.width d.height pic d.settings d.kept d.window d.map d.out).answer ≡ accepted tt
  accepts = sym (ap (λ (z : DrawOut). z.answer) shows) ∙ drawn

  entries : clip_one_of s.clip ≡ false → take (entries_of s) d.map ≡ take (entries_of s) (prepare_of film w h pic s made.map made.scratch made.list).map
  entries one = mappings one ∙ ap (take (entries_of s)) made.leaves

  -- it lies inside the film
  pub shown_inside : (d.window.left + d.window.width ≤ w) × (d.window.top + d.window.height ≤ h)
  shown_inside =
      let handed = accepted_handed film w h pic s _ _ _ made.accepts _ _ _ _ _ d.window _ accepts entries in
      (handed.across, handed.down)

  -- demand 2, "through a window from the record and mappings prepared for those pixels and unchanged since": each pixel is the one of the integer rule
  pub shown_by_rule : clip_one_of s.clip ≡ false → (j i : ℕ) → j < d.window.height → i < d.window.width
      → drawn_grey d i j ≡ rule_grey w h pic s (d.window.left + i) (d.window.top + j)
  shown_by_rule one j i l k =
      ap (λ (z : DrawOut). get_or z.out (j * d.window.width + i) 0) shows
      ∙ accepted_by_rule film w h pic s _ _ _ made.accepts _ _ _ _ _ d.window _ accepts entries one j i l k

  -- at the factor 1.0 the film's own
  pub shown_as_film : clip_one_of s.clip ≡ true → (j i : ℕ) → j < d.window.height → i < d.window.width
      → drawn_grey d i j ≡ get_or pic ((d.window.top + j) * w + (d.window.left + i)) 0
  shown_as_film one j i l k =
      ap (λ (z : DrawOut). get_or z.out (j * d.window.width + i) 0) shows
      ∙ accepted_as_film film w h pic s _ _ _ made.accepts _ _ _ _ _ d.window _ accepts entries one j i l k

  -- and the one in enhance's picture, which enhance renders with the same footer
  pub shown_as_enhanced : {e : EnhanceCall} → Rendered e → EnhancesSame w h pic s e
      → (e.answer ≡ accepted foot)
      × ((j i : ℕ) → j < d.window.height → i < d.window.width → drawn_grey d i j ≡ get_or e.pixels' ((d.window.top + j) * w + (d.window.left + i)) 0)
  shown_as_enhanced {e} rendered too =
      let over : enhance_leaves e.answer e.pixels' e.map' e.scratch' ≡ enhance_of w h pic s e.map e.scratch =
      rendered
      ∙ rw (too.width, too.height, too.pixels)
      (sym (enhance_kept _ _ _ e.settings _ _) ∙ ap (λ x. enhance_of w h pic x e.map e.scratch) too.like ∙ enhance_kept _ _ _ s _ _) in (
        ap (λ (z : EnhanceOut). z.answer) over ∙ enhance_agrees film w h pic s _ _ _ made.accepts _ _ too.map too.scratch,
        λ j i l k. ap (λ (z : DrawOut). get_or z.out (j * d.window.width + i) 0) shows
            ∙ accepted_as_enhanced film w h pic s _ _ _ made.accepts _ _ _ _ _ d.window _ accepts entries e.map e.scratch too.map too.scratch j i l k
            ∙ sym (ap (λ (z : EnhanceOut). get_or z.picture ((d.window.top + j) * w + (d.window.left + i)) 0) over),
      )

-- order 3, of a window that was drawn
pub shown_reached : {d : DrawCall} → Shown d → d.answer ≡ accepted tt → BinsReached d.settings
shown_reached {d} shown drawn =
    tiled_reached
    (ready d.width d.height (length d.pixels) d.settings (length d.map)
    (draw_parts d.film d.width d.height d.pixels d.settings d.kept d.window d.map (length d.out)
    (ended_none (draw_table _ _ _ _ _ _ _ _ _) shown.ends drawn)).0
    ).tiled

-- ---- from what prepare left

-- it is handed on with the film
pub handed_film : {p : PrepareCall} {foot : Footer} {d : DrawCall} → HandedToDraw p foot d → HandedFilm p.film p.width p.height p.pixels p.settings p.map' d
handed_film handed = record { film = handed.film; width = handed.width; height = handed.height; pixels = handed.pixels; rest = handed.rest }

-- and so is the film to enhance
pub enhances_same : {p : PrepareCall} {e : EnhanceCall} → EnhancesFilm p e → EnhancesSame p.width p.height p.pixels p.settings e
enhances_same too = record { width = too.width; height = too.height; pixels = too.pixels; like = too.like; map = too.map; scratch = too.scratch }

-- the window lies inside the film
pub drawn_inside : {p : PrepareCall} {foot : Footer} {d : DrawCall} → DrawnFrom p foot d
    → (d.window.left + d.window.width ≤ p.width) × (d.window.top + d.window.height ≤ p.height)
drawn_inside from = shown_inside (prepare_made from.prepares from.prepared) (draw_shown from.draws) from.drawn from.pixels from.mappings
