-- Document 00, demand 2, of the C interface, from call to call: what tz_prepare left is what tz_draw reads.
-- Of every run of the calls by their contracts (Runs); a name with ' is lent memory at the end, and 0 is returned where nothing is refused.
-- Assumes nothing.
use Prim.Native.Nat.{ℕ, zero, suc, ◌+◌, ◌*◌, ◌<◌}
use mathlib.Core.Bool.{true, false}
use mathlib.Core.Logic.{◌≢◌}
use mathlib.Core.Path.{◌≡◌, refl, sym, ap, subst, ◌∙◌}
use native.Mathlib.Omega.{arith}
use lib.ListN.{length, get_or}
use Rattle.base_rows.specs.Refuse.{first, accepted, says}
use Rattle.film_settings.specs.declared.MapRecord.{MapRecord}
use Rattle.film_settings.specs.Settings.{record_of, clip_one_of}
use Rattle.film_settings.proofs.Records.{record_film}
use Rattle.film_prepare.specs.Prepare.{prepare_rows, PrepareOut, prepare_of, prepared_of}
use Rattle.film_tiles.specs.Tiles.{foot_of}
use Rattle.film_draw.specs.Draw.{draw_rows, draw_of}
use Rattle.film_draw.proofs.Tables.{draw_ready}
use Rattle.pixel_rule.specs.Rule.{rule_grey}
use Rattle.promise_films.specs.Films.{HandedOn}
use Rattle.promise_films.proofs.Accepted.{table_says, returned_number, prepare_table, draw_table}
use Rattle.promise_films.proofs.Demand2.{draw_agrees, own_window, drawn_is_film}
use Rattle.c_flat.specs.Flat.{returned, clip_factor_of, record_numbers, axes_after, record_from_of}
use Rattle.c_flat.specs.Films.{FlatPrepared, cells_from, cells_after, prepared_as, flat_prepared, foot_after, FlatDrawn, flat_drawn}
use Rattle.c_flat.proofs.Handed.{record_back}
use Rattle.c_films.proofs.Runs.{TzPrepareCall, TzPrepares, tz_prepare_ends, TzDrawCall, TzDraws, tz_draw_ends}
use Rattle.c_films.proofs.Outcomes.{tz_draw_refusal_keeps}

-- what tz_prepare left, handed to tz_draw: tz_prepare returned 0 for the film of p, and tz_draw is handed the same film with the numbers, the factor and the arrays that lie in the record's cells,
-- the settings, the mappings that lie in the map buffer, a window inside the film and an output of its area
pub record TzHandedToDraw (p : TzPrepareCall) (d : TzDrawCall) : Type 0 where
  pub prepares : TzPrepares p
  pub prepared : p.number ≡ 0
  pub draws : TzDraws d
  pub film : d.film ≡ p.film
  pub width : d.width ≡ p.width
  pub height : d.height ≡ p.height
  pub pixels : d.pixels ≡ p.pixels
  pub numbers : d.numbers ≡ p.cells'.numbers
  pub factor : d.factor ≡ p.cells'.factor
  pub axes : d.axes ≡ p.cells'.axes
  pub rest : HandedOn p.width p.height p.settings p.map' d.settings d.map d.window (length d.out)

module _ {p : TzPrepareCall} (ran : TzPrepares p) (prepared : p.number ≡ 0) where
  -- the film's record
  abbrev made : MapRecord
  made = record_of p.film p.width p.height p.settings

  -- what the call beneath gives
  abbrev ended : PrepareOut
  ended = prepare_of p.film p.width p.height p.pixels p.settings p.map p.scratch p.list

  none : first (prepare_rows p.width p.height p.pixels p.settings (length p.map) (length p.scratch) (length p.list)) ≡ 0
  unfolding flat_prepared prepared_of
  none =
      sym (returned_number (prepare_table _ _ _ _ _ _ _ _) (λ e. flat_prepared e p.cells) (λ (z : FlatPrepared). z.number) refl (λ k. refl))
      ∙ sym (ap (λ (z : FlatPrepared). z.number) (tz_prepare_ends ran))
      ∙ prepared

  done : ended.answer ≡ accepted (made, foot_of p.width p.height p.settings)
  done = table_says (prepare_table _ _ _ _ _ _ _ _) ∙ ap (λ n. says n (made, foot_of p.width p.height p.settings)) none

  -- so the cells hold the film's record, and the map buffer what it gives
  left : prepared_as p.number p.map' p.scratch' p.list' p.cells'
      ≡ prepared_as 0 ended.map ended.scratch ended.list
      (cells_from (record_numbers made) (clip_factor_of made.settings.clip) (axes_after made) (foot_after (foot_of p.width p.height p.settings)))
  unfolding flat_prepared
  left = tz_prepare_ends ran ∙ ap (λ x. prepared_as (returned x) ended.map ended.scratch ended.list (cells_after x p.cells)) done

  left_map : p.map' ≡ ended.map
  left_map = ap (λ (z : FlatPrepared). z.map) left

  -- read back, it is that record
  left_record : record_from_of p.cells'.numbers p.cells'.factor p.cells'.axes ≡ made
  left_record = ap (λ (z : FlatPrepared). record_from_of z.cells.numbers z.cells.factor z.cells.axes) left ∙ record_back made

  -- its first number is the film's
  left_film : get_or p.cells'.numbers 0 0 ≡ p.film
  left_film = ap (λ (r : MapRecord). r.film) left_record ∙ record_film _ _ _ p.settings

module _ {p : TzPrepareCall} {d : TzDrawCall} (handed : TzHandedToDraw p d) where
  rest : HandedOn p.width p.height p.settings (ended handed.prepares handed.prepared).map d.settings d.map d.window (length d.out)
  rest =
      subst (λ m. HandedOn p.width p.height p.settings m d.settings d.map d.window (length d.out))
      (left_map handed.prepares handed.prepared) handed.rest

  -- the call beneath is handed that record
  shows : draw_of d.film d.width d.height d.pixels d.settings (record_from_of d.numbers d.factor d.axes) d.window d.map d.out
      ≡ draw_of p.film p.width p.height p.pixels d.settings (record_of p.film p.width p.height p.settings) d.window d.map d.out
  shows = rw (handed.film, handed.width, handed.height, handed.pixels, handed.numbers, handed.factor, handed.axes, left_record handed.prepares handed.prepared) refl

  -- tz_draw refuses nothing
  pub tz_drawn_done : d.number ≡ 0
  unfolding flat_drawn
  tz_drawn_done =
      ap (λ (z : FlatDrawn). z.number) (tz_draw_ends handed.draws ∙ ap flat_drawn shows)
      ∙ ap returned (draw_agrees p.film p.width p.height p.pixels p.settings p.map p.scratch p.list (done handed.prepares handed.prepared) d.settings d.map d.window d.out rest)

  out : d.out' ≡ (draw_of p.film p.width p.height p.pixels d.settings (record_of p.film p.width p.height p.settings) d.window d.map d.out).out
  unfolding flat_drawn
  out = ap (λ (z : FlatDrawn). z.out) (tz_draw_ends handed.draws ∙ ap flat_drawn shows)

  -- "through a window from the record and mappings prepared for those pixels and unchanged since": each drawn pixel is the one of the integer rule
  pub tz_drawn_by_rule : clip_one_of p.settings.clip ≡ false → (j i : ℕ) → j < d.window.height → i < d.window.width
      → get_or d.out' (j * d.window.width + i) 0 ≡ rule_grey p.width p.height p.pixels p.settings (d.window.left + i) (d.window.top + j)
  tz_drawn_by_rule one j i l k =
      ap (λ ys. get_or ys (j * d.window.width + i) 0) out
      ∙ own_window p.film p.width p.height p.pixels p.settings p.map p.scratch p.list (done handed.prepares handed.prepared) d.settings d.map d.window d.out rest one j i l k

  -- at the factor 1.0 the film's own pixels
  pub tz_drawn_as_film : clip_one_of p.settings.clip ≡ true → (j i : ℕ) → j < d.window.height → i < d.window.width
      → get_or d.out' (j * d.window.width + i) 0 ≡ get_or p.pixels ((d.window.top + j) * p.width + (d.window.left + i)) 0
  tz_drawn_as_film one j i l k =
      ap (λ ys. get_or ys (j * d.window.width + i) 0) out
      ∙ drawn_is_film p.film p.width p.height p.pixels p.settings p.map p.scratch p.list (done handed.prepares handed.prepared) d.settings d.map d.window d.out rest one j i l k

-- "A window drawn with the record of a film of another number is refused.": handed the numbers that tz_prepare left and another film's number, whatever else
pub tz_other_film_refused : {p : TzPrepareCall} {d : TzDrawCall} → TzPrepares p → p.number ≡ 0 → TzDraws d → d.numbers ≡ p.cells'.numbers → d.film ≢ p.film
    → (0 < d.number) × (d.out' ≡ d.out)
unfolding flat_drawn
tz_other_film_refused {p} {d} ran prepared drew numbers other = (some, tz_draw_refusal_keeps drew some)
  where
    number : d.number ≡ first (draw_rows d.film d.width d.height d.pixels d.settings (record_from_of d.numbers d.factor d.axes) d.window d.map (length d.out))
    number =
        ap (λ (z : FlatDrawn). z.number) (tz_draw_ends drew)
        ∙ returned_number (draw_table _ _ _ _ _ _ _ _ _) flat_drawn (λ (z : FlatDrawn). z.number) refl (λ k. refl)

    above : (n : ℕ) → d.number ≡ n → 0 < d.number
    above zero e =
        absurd (other ((draw_ready _ _ _ _ _ _ _ _ _ (sym number ∙ e)).held.number ∙ (ap (λ ns. get_or ns 0 0) numbers ∙ left_film ran prepared)))
    above (suc n) e = omega arith

    some : 0 < d.number
    some = above d.number refl
