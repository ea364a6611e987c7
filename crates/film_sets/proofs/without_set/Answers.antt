-- `film_sets::without_set` meets its contract: each place holds the set that comes there.
use Rattle.std.proofs.Common.{arith}
use Rattle.film_sets.proofs.Places.{placed}
use Rattle.film_sets.proofs.without_set.Goals as goal

pub returns : goal.returns
returns c =
    let b = c.copy_within.ensures.by_index in
    placed c.args.room.now c.args.i (omega arith) c.requires.0 c.copy_within.ensures.len b.0 b.1 b.2
