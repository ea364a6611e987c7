-- `film_room::drop_film` meets its contract.
use Rattle.std.proofs.Common.{length, refl, rules, arith}
use Rattle.base_rows.proofs.Given.{said_err, number_some}
use Rattle.film_room.proofs.Drops.{dropping, drop_moves, drop_refused, drop_done}
use Rattle.film_room.proofs.drop_film.Goals as goal

pub returns-in_err-stored_refusal : goal.returns-in_err-stored_refusal
returns-in_err-stored_refusal c = rw (said_err _ _ c.from_residual.ensures.1) (drop_refused _ _ _ c.in_err-stored_refusal.ensures (number_some _))

pub place_of-i-requires : goal.place_of-i-requires
place_of-i-requires c = let k = dropping c.args.room.now c.args.film (length c.args.map.now) c.in_ok-stored_refusal.ensures refl in k.few

pub span-a-requires : goal.span-a-requires
span-a-requires c = let k = dropping c.args.room.now c.args.film (length c.args.map.now) c.in_ok-stored_refusal.ensures refl in (k.few, omega (arith, c.place_of-i.ensures, k.here), k.fits)

pub overflow_add-i : goal.overflow_add-i
overflow_add-i c = let k = dropping c.args.room.now c.args.film (length c.args.map.now) c.in_ok-stored_refusal.ensures refl in omega (arith, c.place_of-i.ensures, k.here, k.few)

pub span-b-requires : goal.span-b-requires
span-b-requires c = let k = dropping c.args.room.now c.args.film (length c.args.map.now) c.in_ok-stored_refusal.ensures refl in (k.few, omega (arith, c.place_of-i.ensures, k.here), k.fits)

pub span-e-requires : goal.span-e-requires
span-e-requires c = let k = dropping c.args.room.now c.args.film (length c.args.map.now) c.in_ok-stored_refusal.ensures refl in (k.few, search rules, k.fits)

pub move_down-requires : goal.move_down-requires
move_down-requires c = let k = dropping c.args.room.now c.args.film (length c.args.map.now) c.in_ok-stored_refusal.ensures refl in drop_moves k c.place_of-i.ensures c.span-a.ensures c.span-b.ensures c.span-e.ensures

pub without_set-requires : goal.without_set-requires
without_set-requires c = let k = dropping c.args.room.now c.args.film (length c.args.map.now) c.in_ok-stored_refusal.ensures refl in (omega (arith, c.place_of-i.ensures, k.here), k.few)

pub returns : goal.returns
returns c = drop_done _ _ _ c.in_ok-stored_refusal.ensures refl c.place_of-i.ensures c.span-a.ensures c.span-b.ensures c.span-e.ensures c.move_down.ensures c.without_set.ensures
