-- Document 01, "How tight the promises are", of the C interface on films: any two outcomes that a contract allows are equal.
-- Document 00, demand 1: "after a refusal all lent memory holds what it held before", where a refusal is a returned number that is not 0.
-- Of every run of the calls by their contracts (Runs); a name with ' is lent memory at the end.
-- A float's cell is told up to the float in it: the floats here have one NaN without a payload, so which of a NaN's bits stand there is left open.
-- Assumes nothing.
use Prim.Native.Nat.{◌<◌}
use mathlib.Core.Path.{◌≡◌, refl, sym, ap, ◌∙◌}
use Rattle.film_prepare.specs.Prepare.{prepared_of, prepare_of, enhanced_of, enhance_of}
use Rattle.film_draw.specs.Draw.{draw_of}
use Rattle.promise_films.proofs.Accepted.{returned_kept, prepare_table, enhance_table, draw_table}
use Rattle.c_flat.specs.Flat.{record_from_of}
use Rattle.c_flat.specs.Films.{FlatPrepared, flat_prepared, FlatEnhanced, flat_enhanced, FlatDrawn, flat_drawn}
use Rattle.c_films.proofs.Runs.{TzPrepareCall, TzPrepares, tz_prepare_arguments, tz_prepare_ends, TzEnhanceCall, TzEnhances, tz_enhance_arguments, tz_enhance_ends, TzDrawCall, TzDraws, tz_draw_arguments, tz_draw_ends}

-- ---- tz_prepare

-- any two outcomes are equal: its number, map buffer, scratch and list, and the cells: the record's ten numbers, factor and four arrays, and the footer's three
pub tz_prepare_determined : {c k : TzPrepareCall} → TzPrepares c → TzPrepares k → tz_prepare_arguments c ≡ tz_prepare_arguments k
    → (c.number ≡ k.number) × (c.map' ≡ k.map') × (c.scratch' ≡ k.scratch') × (c.list' ≡ k.list') × (c.cells' ≡ k.cells')
tz_prepare_determined x y same =
    let e = tz_prepare_ends x ∙ ap (λ g. flat_prepared (prepare_of g.0 g.1 g.2 g.3 g.4 g.5 g.6 g.7) g.8) same ∙ sym (tz_prepare_ends y) in
    (ap (λ (z : FlatPrepared). z.number) e, ap (λ (z : FlatPrepared). z.map) e, ap (λ (z : FlatPrepared). z.scratch) e, ap (λ (z : FlatPrepared). z.list) e, ap (λ (z : FlatPrepared). z.cells) e)

-- a refusal keeps lent memory
pub tz_prepare_refusal_keeps : {c : TzPrepareCall} → TzPrepares c → 0 < c.number → (c.map' ≡ c.map) × (c.scratch' ≡ c.scratch) × (c.list' ≡ c.list) × (c.cells' ≡ c.cells)
unfolding flat_prepared prepared_of
tz_prepare_refusal_keeps {c} ran l =
    let e = returned_kept (prepare_table _ _ _ _ _ _ _ _) (λ e. flat_prepared e c.cells) (λ (z : FlatPrepared). z.number) refl (λ k. refl) (tz_prepare_ends ran) l in
    (ap (λ (z : FlatPrepared). z.map) e, ap (λ (z : FlatPrepared). z.scratch) e, ap (λ (z : FlatPrepared). z.list) e, ap (λ (z : FlatPrepared). z.cells) e)

-- ---- tz_enhance

-- any two outcomes are equal: its number, picture, map buffer and scratch, and the footer's three cells
pub tz_enhance_determined : {c k : TzEnhanceCall} → TzEnhances c → TzEnhances k → tz_enhance_arguments c ≡ tz_enhance_arguments k
    → (c.number ≡ k.number) × (c.pixels' ≡ k.pixels') × (c.map' ≡ k.map') × (c.scratch' ≡ k.scratch') × (c.foot' ≡ k.foot')
tz_enhance_determined x y same =
    let e = tz_enhance_ends x ∙ ap (λ g. flat_enhanced (enhance_of g.0 g.1 g.2 g.3 g.4 g.5) g.6) same ∙ sym (tz_enhance_ends y) in
    (ap (λ (z : FlatEnhanced). z.number) e, ap (λ (z : FlatEnhanced). z.picture) e, ap (λ (z : FlatEnhanced). z.map) e, ap (λ (z : FlatEnhanced). z.scratch) e, ap (λ (z : FlatEnhanced). z.foot) e)

-- a refusal keeps lent memory
pub tz_enhance_refusal_keeps : {c : TzEnhanceCall} → TzEnhances c → 0 < c.number → (c.pixels' ≡ c.pixels) × (c.map' ≡ c.map) × (c.scratch' ≡ c.scratch) × (c.foot' ≡ c.foot)
unfolding flat_enhanced enhanced_of
tz_enhance_refusal_keeps {c} ran l =
    let e = returned_kept (enhance_table _ _ _ _ _ _) (λ o. flat_enhanced o c.foot) (λ (z : FlatEnhanced). z.number) refl (λ k. refl) (tz_enhance_ends ran) l in
    (ap (λ (z : FlatEnhanced). z.picture) e, ap (λ (z : FlatEnhanced). z.map) e, ap (λ (z : FlatEnhanced). z.scratch) e, ap (λ (z : FlatEnhanced). z.foot) e)

-- ---- tz_draw

-- any two outcomes are equal: its number and output
pub tz_draw_determined : {c k : TzDrawCall} → TzDraws c → TzDraws k → tz_draw_arguments c ≡ tz_draw_arguments k
    → (c.number ≡ k.number) × (c.out' ≡ k.out')
tz_draw_determined x y same =
    let e = tz_draw_ends x ∙ ap (λ g. flat_drawn (draw_of g.0 g.1 g.2 g.3 g.4 (record_from_of g.5 g.6 g.7) g.8 g.9 g.10)) same ∙ sym (tz_draw_ends y) in
    (ap (λ (z : FlatDrawn). z.number) e, ap (λ (z : FlatDrawn). z.out) e)

-- a refusal keeps lent memory
pub tz_draw_refusal_keeps : {c : TzDrawCall} → TzDraws c → 0 < c.number → c.out' ≡ c.out
unfolding flat_drawn
tz_draw_refusal_keeps ran l =
    ap (λ (z : FlatDrawn). z.out) (returned_kept (draw_table _ _ _ _ _ _ _ _ _) flat_drawn (λ (z : FlatDrawn). z.number) refl (λ k. refl) (tz_draw_ends ran) l)
