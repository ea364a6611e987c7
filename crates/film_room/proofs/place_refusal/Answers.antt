-- `film_room::place_refusal` meets its contract.
use Rattle.std.proofs.Common.{sym, refl, rules}
use Rattle.base_rows.proofs.Given.{refused_front}
use Rattle.film_sets.proofs.Tables.{fit_few}
use Rattle.film_room.specs.Room.{enter_rows}
use Rattle.film_room.proofs.Stores.{enter_35, enter_36, enter_well}
use Rattle.film_room.proofs.place_refusal.Goals as goal

pub returns-in_err-room_refusal : goal.returns-in_err-room_refusal
unfolding enter_rows
returns-in_err-room_refusal c = refused_front _ _ _ _ c.in_err-room_refusal.ensures c.from_residual.ensures.1

pub place_of-requires : goal.place_of-requires
place_of-requires c = (fit_few c.args.room.now c.args.size (sym c.in_ok-room_refusal.ensures)).0

pub returns-then-place_of-room : goal.returns-then-place_of-room
returns-then-place_of-room c = enter_35 _ _ _ c.in_ok-room_refusal.ensures refl c.place_of.ensures (search rules)

pub returns-then-room-eq8 : goal.returns-then-room-eq8
returns-then-room-eq8 c = enter_36 _ _ _ c.in_ok-room_refusal.ensures refl c.place_of.ensures (search rules) c.if-room-eq8.true

pub returns : goal.returns
returns c = enter_well _ _ _ c.in_ok-room_refusal.ensures refl c.place_of.ensures (search rules) c.if-room-eq8.false
