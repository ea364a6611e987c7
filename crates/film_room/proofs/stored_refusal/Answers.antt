-- `film_room::stored_refusal` meets its contract.
use Rattle.std.proofs.Common.{sym, refl, rules}
use Rattle.base_rows.proofs.Given.{refused_front}
use Rattle.film_sets.proofs.Tables.{fit_few}
use Rattle.film_room.specs.Room.{drop_rows}
use Rattle.film_room.proofs.Drops.{drop_here, drop_not}
use Rattle.film_room.proofs.stored_refusal.Goals as goal

pub returns-in_err-room_refusal : goal.returns-in_err-room_refusal
unfolding drop_rows
returns-in_err-room_refusal c = refused_front _ _ _ _ c.in_err-room_refusal.ensures c.from_residual.ensures.1

pub place_of-requires : goal.place_of-requires
place_of-requires c = (fit_few c.args.room.now c.args.size (sym c.in_ok-room_refusal.ensures)).0

pub returns-then-room-place_of : goal.returns-then-room-place_of
returns-then-room-place_of c = drop_not _ _ _ c.in_ok-room_refusal.ensures refl c.place_of.ensures (search rules)

pub returns : goal.returns
returns c = drop_here _ _ _ c.in_ok-room_refusal.ensures refl c.place_of.ensures (search rules)
