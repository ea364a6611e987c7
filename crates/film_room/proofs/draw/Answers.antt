-- `film_room::draw` meets its contract.
use Rattle.std.proofs.Common.{length, refl, sym, arith}
use Rattle.base_rows.proofs.Given.{said_err, number_some}
use Rattle.film_settings.proofs.Ready.{setting_tiled}
use Rattle.film_room.proofs.Drops.{dropping}
use Rattle.film_room.proofs.Shows.{part_lies, show_stored, show_own, show_differs, show_done}
use Rattle.film_room.proofs.draw.Goals as goal

pub returns-in_err-stored_refusal : goal.returns-in_err-stored_refusal
returns-in_err-stored_refusal c = rw (said_err _ _ c.from_residual.ensures.1) (show_stored _ _ _ _ _ _ _ _ _ c.in_err-stored_refusal.ensures (number_some _))

pub returns-in_err-setting_refusal : goal.returns-in_err-setting_refusal
returns-in_err-setting_refusal c = rw (said_err _ _ c.from_residual-in_err-setting_refusal.ensures.1) (show_own _ _ _ _ _ _ _ _ _ c.in_ok-stored_refusal.ensures refl c.in_err-setting_refusal.ensures (number_some _))

pub place_of-i-requires : goal.place_of-i-requires
place_of-i-requires c = let k = dropping c.args.room.now c.args.film (length c.args.map.now) c.in_ok-stored_refusal.ensures refl in k.few

pub span-a-requires : goal.span-a-requires
span-a-requires c = let k = dropping c.args.room.now c.args.film (length c.args.map.now) c.in_ok-stored_refusal.ensures refl in (k.few, omega (arith, c.place_of-i.ensures, k.here), k.fits)

pub overflow_add-i : goal.overflow_add-i
overflow_add-i c = let k = dropping c.args.room.now c.args.film (length c.args.map.now) c.in_ok-stored_refusal.ensures refl in omega (arith, c.place_of-i.ensures, k.here, k.few)

pub at-requires : goal.at-requires
at-requires c = let k = dropping c.args.room.now c.args.film (length c.args.map.now) c.in_ok-stored_refusal.ensures refl in omega (arith, c.place_of-i.ensures, k.here, k.few)

pub returns-in_err-set_refusal : goal.returns-in_err-set_refusal
returns-in_err-set_refusal c = rw (said_err _ _ c.from_residual-in_err-set_refusal.ensures.1) (show_differs c.args.room.now c.args.film c.args.width c.args.height c.args.picture.now c.args.s c.args.win c.args.map.now c.args.out.now c.in_ok-stored_refusal.ensures refl c.in_ok-setting_refusal.ensures refl c.place_of-i.ensures c.at.ensures c.in_err-set_refusal.ensures (number_some _))

pub span-e-requires : goal.span-e-requires
span-e-requires c = let k = dropping c.args.room.now c.args.film (length c.args.map.now) c.in_ok-stored_refusal.ensures refl in (k.few, omega (arith, c.place_of-i.ensures, k.here), k.fits)

pub made_for-record-requires : goal.made_for-record-requires
made_for-record-requires c = (setting_tiled _ _ _ _ (sym c.in_ok-setting_refusal.ensures)).0

pub offset_bounds-map-a : goal.offset_bounds-map-a
offset_bounds-map-a c = let k = dropping c.args.room.now c.args.film (length c.args.map.now) c.in_ok-stored_refusal.ensures refl in let l = part_lies k c.place_of-i.ensures c.span-a.ensures c.span-e.ensures in omega (arith, l.0, l.1, c.well_formed.1.1.1.1.1.1.1.0.1)

pub slice_bounds-draw-count : goal.slice_bounds-draw-count
slice_bounds-draw-count c = let k = dropping c.args.room.now c.args.film (length c.args.map.now) c.in_ok-stored_refusal.ensures refl in let l = part_lies k c.place_of-i.ensures c.span-a.ensures c.span-e.ensures in omega (arith, l.0, l.1)

pub slice_bounds-draw-start : goal.slice_bounds-draw-start
slice_bounds-draw-start c = let k = dropping c.args.room.now c.args.film (length c.args.map.now) c.in_ok-stored_refusal.ensures refl in let l = part_lies k c.place_of-i.ensures c.span-a.ensures c.span-e.ensures in omega (arith, l.0, l.1)

pub slice_bounds-draw-end : goal.slice_bounds-draw-end
slice_bounds-draw-end c = let k = dropping c.args.room.now c.args.film (length c.args.map.now) c.in_ok-stored_refusal.ensures refl in let l = part_lies k c.place_of-i.ensures c.span-a.ensures c.span-e.ensures in omega (arith, l.0, l.1)

pub returns : goal.returns
returns c = show_done c.args.room.now c.args.film c.args.width c.args.height c.args.picture.now c.args.s c.args.win c.args.map.now c.args.out.now c.in_ok-stored_refusal.ensures refl c.in_ok-setting_refusal.ensures refl c.place_of-i.ensures c.at.ensures c.in_ok-set_refusal.ensures refl c.span-a.ensures c.span-e.ensures c.made_for-record.ensures c.draw.ensures
