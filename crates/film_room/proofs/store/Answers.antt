-- `film_room::store` meets its contract.
use Rattle.std.proofs.Common.{length, refl, rules, arith, ap, ◌∙◌}
use Rattle.base_lists.proofs.Parts.{part_back, part_whole}
use Rattle.base_rows.proofs.Given.{said_err, number_some}
use Rattle.film_prepare.specs.Prepare.{prepare_of, prepared_says}
use Rattle.film_sets.specs.Sets.{with_set_of}
use Rattle.film_sets.proofs.Finds.{span_whole}
use Rattle.film_room.proofs.Stores.{entering, store_no, store_done, store_not}
use Rattle.film_room.proofs.store.Goals as goal

pub returns-in_err-place_refusal : goal.returns-in_err-place_refusal
returns-in_err-place_refusal c = rw (said_err _ _ c.from_residual.ensures.1) (store_no _ _ _ _ _ _ _ _ _ c.in_err-place_refusal.ensures (number_some _))

pub span-a-requires : goal.span-a-requires
span-a-requires c = let k = entering c.args.room.now c.args.film (length c.args.map.now) c.in_ok-place_refusal.ensures refl in (omega (arith, k.few), search rules, k.fits)

pub offset_bounds-map-a : goal.offset_bounds-map-a
offset_bounds-map-a c = let k = entering c.args.room.now c.args.film (length c.args.map.now) c.in_ok-place_refusal.ensures refl in omega (arith, c.span-a.ensures, span_whole c.args.room.now c.args.room.now.count (omega arith), k.fits)

pub slice_bounds-prepare-count : goal.slice_bounds-prepare-count
slice_bounds-prepare-count c = let k = entering c.args.room.now c.args.film (length c.args.map.now) c.in_ok-place_refusal.ensures refl in omega (arith, c.span-a.ensures, span_whole c.args.room.now c.args.room.now.count (omega arith), k.fits)

pub slice_bounds-prepare-start : goal.slice_bounds-prepare-start
slice_bounds-prepare-start c = let k = entering c.args.room.now c.args.film (length c.args.map.now) c.in_ok-place_refusal.ensures refl in omega (arith, c.span-a.ensures, span_whole c.args.room.now c.args.room.now.count (omega arith), k.fits)

pub with_set-requires : goal.with_set-requires
with_set-requires c = (entering c.args.room.now c.args.film (length c.args.map.now) c.in_ok-place_refusal.ensures refl).few

pub returns-in-Ok : goal.returns-in-Ok
returns-in-Ok c =
    store_done c.args.room.now c.args.film c.args.width c.args.height c.args.picture.now c.args.s c.args.map.now c.args.scratch.now c.args.looks.now c.in_ok-place_refusal.ensures refl
    (c.span-a.ensures ∙ span_whole c.args.room.now c.args.room.now.count (omega arith))
    (c.prepare-made.ensures ∙ ap (λ d. prepare_of c.args.film c.args.width c.args.height c.args.picture.now c.args.s d c.args.scratch.now c.args.looks.now) (part_whole c.args.map.now c.span-a.result))
    (ap prepared_says c.in-Ok.is) (c.with_set.ensures ∙ ap (with_set_of c.args.room.now) c.set_for-set.ensures) (part_back c.args.map.now c.prepare-made.new.map c.span-a.result)

pub returns-in-Err : goal.returns-in-Err
returns-in-Err c =
    store_not c.args.room.now c.args.film c.args.width c.args.height c.args.picture.now c.args.s c.args.map.now c.args.scratch.now c.args.looks.now c.in_ok-place_refusal.ensures refl
    (c.span-a.ensures ∙ span_whole c.args.room.now c.args.room.now.count (omega arith))
    (c.prepare-made.ensures ∙ ap (λ d. prepare_of c.args.film c.args.width c.args.height c.args.picture.now c.args.s d c.args.scratch.now c.args.looks.now) (part_whole c.args.map.now c.span-a.result))
    (ap prepared_says c.in-Err.is) c.renumbered.ensures (part_back c.args.map.now c.prepare-made.new.map c.span-a.result)
