-- Document 00, demand 2, of the byte calls: the rendering of every accepted film of bytes is the one that the integer rule gives for its own pixels and settings, whole and through a window; a window drawn with the
-- record of another film is refused.
-- Promises alone: of every run of the calls by their contracts (Runs), each listed in docs/PROMISES.md. A name with ' is lent memory at the end.
-- Assumes nothing.
use Prim.Native.Nat.{ℕ, ◌+◌, ◌*◌, ◌<◌}
use mathlib.Core.Bool.{true, false}
use mathlib.Core.Logic.{◌≢◌, inr}
use mathlib.Core.Path.{◌≡◌, sym, ap, ◌∙◌}
use lib.ListN.{length, get_or}
use Rattle.base_rows.specs.Refuse.{first, accepted, refused, says}
use Rattle.base_rows.proofs.Told.{told_same}
use Rattle.tile_map.specs.Tile.{mapped_of}
use Rattle.film_settings.specs.declared.MapRecord.{MapRecord}
use Rattle.film_settings.specs.declared.Footer.{Footer}
use Rattle.film_settings.specs.Settings.{bins_of, kept_of, clip_one_of}
use Rattle.film_tiles.specs.Tiles.{pixels_in}
use Rattle.film_record.specs.Held.{Held}
use Rattle.film_draw.proofs.Laws.{other_field}
use Rattle.byte_profile.specs.Profile.{byte_rows}
use Rattle.byte_profile.proofs.Profile.{byte_ready, byte_inside, profile_none}
use Rattle.pixel_rule.specs.Rule.{rule_grey}
use Rattle.promise_films.specs.Films.{clipped_counts}
use Rattle.promise_films.proofs.Made.{EnhancesSame, shown_by_rule, shown_as_film, made_ours_by_rule, made_settings, handed_done, shown_as_enhanced}
use Rattle.promise_films.proofs.Accepted.{refused_says, some_says}
use Rattle.promise_films.proofs.Runs.{PrepareCall, EnhanceCall, DrawCall, prepare_read, enhance_read, draw_read}
use Rattle.promise_films.proofs.Ways.{drawn_grey, Refuses}
use Rattle.promise_bytes.proofs.Inside.{draw_rows_inside}
use Rattle.promise_bytes.proofs.Runs.{PreparesBytes, prepare_bytes_ends, EnhancesBytes, enhance_bytes_ends, DrawsBytes, draw_bytes_ends}
use Rattle.promise_bytes.proofs.Demand1.{draw_bytes_says, draw_bytes_refusal_keeps}
use Rattle.byte_draw.specs.Bytes.{byte_draw_rows, byte_draw_of}
use Rattle.promise_bytes.proofs.Ended.{prepare_bytes_held, draw_bytes_shown, drawn_bytes_ready, DrawnFromBytes, prepare_bytes_made, enhance_bytes_as_wide, enhance_bytes_held}
use Rattle.byte_prepare.specs.Bytes.{byte_prepare_of, byte_enhance_of}
use Rattle.promise_bytes.proofs.Either.{prepared_bytes_inside, HandedToDrawBytes, either_rendered, either_shown, kept_inside}
use Rattle.promise_bytes.proofs.Alike.{prepare_bytes_kept, enhance_bytes_kept, draw_bytes_read}
use Rattle.promise_films.proofs.Alike.{draws_alike, enhances_alike, prepares_alike}
use Rattle.promise_films.proofs.Told.{prepared_told}
use Rattle.promise_films.proofs.Whole.{whole_as_film, whole_by_rule, whole_ours_by_rule}

-- ---- what prepare left

module _ {p : PrepareCall} {r : MapRecord} {foot : Footer} (ran : PreparesBytes p) (prepared : p.answer ≡ accepted (r, foot)) where
  -- each tile's own mapping lies in the map buffer
  pub prepared_bytes_by_rule : clip_one_of p.settings.clip ≡ false → (k b : ℕ) → k < p.settings.across * p.settings.down → b < bins_of p.settings
      → get_or p.map' (k * bins_of p.settings + b) 0
      ≡ mapped_of p.settings.min p.settings.max (pixels_in p.width p.height p.settings k) (clipped_counts p.width p.height p.pixels p.settings k) b
  prepared_bytes_by_rule = made_ours_by_rule (prepare_bytes_made ran prepared) (prepare_bytes_held ran prepared).edition

  -- the record's own settings can be handed on for those that were asked
  pub record_bytes_settings : kept_of r.settings ≡ kept_of p.settings
  record_bytes_settings = made_settings (prepare_bytes_made ran prepared)

-- ---- the whole film

module _ {e : EnhanceCall} {foot : Footer} (ran : EnhancesBytes e) (done : e.answer ≡ accepted foot) where
  -- demand 2: each pixel is the rule's
  pub enhanced_bytes_by_rule : clip_one_of e.settings.clip ≡ false → (i j : ℕ) → i < e.width → j < e.height
      → get_or e.pixels' (j * e.width + i) 0 ≡ rule_grey e.width e.height e.pixels e.settings i j
  enhanced_bytes_by_rule = whole_by_rule e (enhance_bytes_as_wide ran done) done

  -- at the factor 1.0 the film is unchanged
  pub enhanced_bytes_as_film : clip_one_of e.settings.clip ≡ true → e.pixels' ≡ e.pixels
  enhanced_bytes_as_film = whole_as_film e (enhance_bytes_as_wide ran done) done

  -- each tile's own mapping lies in the map buffer
  pub enhanced_bytes_mapped_by_rule : clip_one_of e.settings.clip ≡ false → (k b : ℕ) → k < e.settings.across * e.settings.down → b < bins_of e.settings
      → get_or e.map' (k * bins_of e.settings + b) 0
      ≡ mapped_of e.settings.min e.settings.max (pixels_in e.width e.height e.settings k) (clipped_counts e.width e.height e.pixels e.settings k) b
  enhanced_bytes_mapped_by_rule = whole_ours_by_rule e (enhance_bytes_as_wide ran done) done (enhance_bytes_held ran done).edition

-- ---- a window from what prepare left

-- what prepare on bytes left, handed to draw on bytes, is drawn
pub drawn_bytes_done : {p : PrepareCall} {foot : Footer} {d : DrawCall} → HandedToDrawBytes p foot d → d.answer ≡ accepted tt
drawn_bytes_done {p} {foot} {d} x =
    handed_done (prepare_bytes_made x.prepares x.prepared)
    (either_shown (inr x.draws) (kept_inside p.settings d.settings x.handed.rest.like (prepared_bytes_inside x.prepares x.prepared))) x.handed

module _ {p : PrepareCall} {foot : Footer} {d : DrawCall} (from : DrawnFromBytes p foot d) where
  -- demand 2: each drawn pixel is the rule's
  pub drawn_bytes_by_rule : clip_one_of p.settings.clip ≡ false → (j i : ℕ) → j < d.window.height → i < d.window.width
      → drawn_grey d i j ≡ rule_grey p.width p.height p.pixels p.settings (d.window.left + i) (d.window.top + j)
  drawn_bytes_by_rule = shown_by_rule (prepare_bytes_made from.prepares from.prepared) (draw_bytes_shown from.draws from.drawn) from.drawn from.pixels from.mappings

  -- at the factor 1.0 the film's own pixels
  pub drawn_bytes_as_film : clip_one_of p.settings.clip ≡ true → (j i : ℕ) → j < d.window.height → i < d.window.width
      → drawn_grey d i j ≡ get_or p.pixels ((d.window.top + j) * p.width + (d.window.left + i)) 0
  drawn_bytes_as_film = shown_as_film (prepare_bytes_made from.prepares from.prepared) (draw_bytes_shown from.draws from.drawn) from.drawn from.pixels from.mappings

-- the film of p that prepare on bytes accepted, drawn on bytes, is the picture of enhance on bytes, which accepts it with the same footer
pub drawn_bytes_as_enhanced : {p : PrepareCall} {foot : Footer} {d : DrawCall} → DrawnFromBytes p foot d → {e : EnhanceCall} → EnhancesBytes e
    → EnhancesSame p.width p.height p.pixels p.settings e
    → (e.answer ≡ accepted foot)
    × ((j i : ℕ) → j < d.window.height → i < d.window.width → drawn_grey d i j ≡ get_or e.pixels' ((d.window.top + j) * p.width + (d.window.left + i)) 0)
drawn_bytes_as_enhanced {p} {foot} {d} from {e} ran too =
    shown_as_enhanced (prepare_bytes_made from.prepares from.prepared) (draw_bytes_shown from.draws from.drawn) from.drawn from.pixels from.mappings
    (either_rendered (inr ran) (kept_inside p.settings e.settings too.like (prepared_bytes_inside from.prepares from.prepared))) too

-- ---- what is read

-- "Bins B: 2 to 4096. 0 means 128.": prepare on bytes answers and leaves the same for 0 as for 128
pub prepare_bytes_alike : {p q : PrepareCall} (x : PreparesBytes p) (y : PreparesBytes q) → prepare_read p ≡ prepare_read q
    → (x.run.answer ≡ y.run.answer) × (p.answer ≡ q.answer) × (p.map' ≡ q.map') × (p.scratch' ≡ q.scratch') × (p.list' ≡ q.list')
prepare_bytes_alike {p} {q} x y same =
    let e = prepares_alike byte_prepare_of (λ film w h pic s m t n. prepare_bytes_kept w h pic s film m t n) p q (prepare_bytes_ends x) (prepare_bytes_ends y) same in
    (prepared_told (ap (λ (z : PrepareCall). z.answer) x.named) (ap (λ (z : PrepareCall). z.answer) y.named) e.0, e.0, e.1, e.2, e.3)

-- and so does enhance on bytes
pub enhance_bytes_alike : {e f : EnhanceCall} (x : EnhancesBytes e) (y : EnhancesBytes f) → enhance_read e ≡ enhance_read f
    → (x.run.answer ≡ y.run.answer) × (e.answer ≡ f.answer) × (e.pixels' ≡ f.pixels') × (e.map' ≡ f.map') × (e.scratch' ≡ f.scratch')
enhance_bytes_alike {e} {f} x y same =
    let k = enhances_alike byte_enhance_of enhance_bytes_kept e f (enhance_bytes_ends x) (enhance_bytes_ends y) same in
    (told_same (ap (λ (z : EnhanceCall). z.answer) x.named) (ap (λ (z : EnhanceCall). z.answer) y.named) k.0, k.0, k.1, k.2, k.3)

-- and draw on bytes, where the same is so of the record, and of the map buffer nothing is read but the mappings' entries
pub draw_bytes_alike : {d f : DrawCall} (x : DrawsBytes d) (y : DrawsBytes f) → draw_read d ≡ draw_read f
    → (x.run.answer ≡ y.run.answer) × (d.answer ≡ f.answer) × (d.out' ≡ f.out')
draw_bytes_alike {d} {f} x y same =
    let e = draws_alike byte_draw_of (λ film w h pic s r win m out. draw_bytes_read w h pic s film r win m out) d f (draw_bytes_ends x) (draw_bytes_ends y) same in
    (told_same (ap (λ (z : DrawCall). z.answer) x.named) (ap (λ (z : DrawCall). z.answer) y.named) e.0, e.0, e.1)

-- ---- a record of another film

-- "A window drawn with the record of a film of another number is refused.", and so is one whose record differs in whatever field
pub draw_bytes_differing : {d : DrawCall} → DrawsBytes d → (Held d.film d.width d.height d.settings d.kept → ⊥) → d.answer ≢ accepted tt
draw_bytes_differing ran differs done = differs (drawn_bytes_ready ran done).held

-- in the film's number
pub draw_bytes_other_film : {d : DrawCall} → DrawsBytes d → d.film ≢ d.kept.film → d.answer ≢ accepted tt
draw_bytes_other_film ran other = draw_bytes_differing ran (λ held. other held.number)

-- by 15 where none of 1 to 11, 30 and 31 applies, also where "the record's edges or centres aren't those of this rule"
pub draw_bytes_differing_15 : {d : DrawCall} → DrawsBytes d → first (byte_rows d.width d.height (length d.pixels) d.settings (length d.map)) ≡ 0
    → (Held d.film d.width d.height d.settings d.kept → ⊥) → d.answer ≡ refused 15
draw_bytes_differing_15 {d} ran none differs =
    let inside = profile_none d.settings (byte_ready d.width d.height (length d.pixels) d.settings (length d.map) none).profile in
    draw_bytes_says ran
    ∙ refused_says _ tt
    (draw_rows_inside d.film d.width d.height d.pixels d.settings d.kept d.window d.map d.out inside
    ∙ other_field d.film d.width d.height d.pixels d.settings d.kept d.window d.map (length d.out)
    (sym (byte_inside d.width d.height (length d.pixels) d.settings (length d.map) inside) ∙ none) differs)

-- "A window drawn with the record of a film of another number is refused.": draw on bytes says a number above 0 and the output holds what it held, where the record differs in whatever field
pub draw_bytes_differing_refused : {d : DrawCall} → DrawsBytes d → (Held d.film d.width d.height d.settings d.kept → ⊥) → Refuses d
draw_bytes_differing_refused {d} ran other =
    let some = some_says (first (byte_draw_rows d.film d.width d.height d.pixels d.settings d.kept d.window d.map (length d.out))) tt
    (λ e. other (drawn_bytes_ready ran (draw_bytes_says ran ∙ ap (λ n. says n tt) e)).held) in
    let q = draw_bytes_says ran ∙ some.1 in
    (_, some.0, q, draw_bytes_refusal_keeps _ ran q)

-- in the film's number
pub draw_bytes_other_film_refused : {d : DrawCall} → DrawsBytes d → d.film ≢ d.kept.film → Refuses d
draw_bytes_other_film_refused ran other = draw_bytes_differing_refused ran (λ held. other held.number)
