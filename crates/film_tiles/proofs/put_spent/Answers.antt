-- `put_spent` lays the two entries of tile k down in the list.
use native.Mathlib.Omega.{arith}
use lib.ListN.{length-set}
use Rattle.base_lists.proofs.Overs.{over_two}
use Rattle.film_tiles.proofs.put_spent.Goals as goal

pub bounds-list-at-2 : goal.bounds-list-at-2
bounds-list-at-2 c = rw length-set (omega arith)

pub returns : goal.returns
returns c = over_two _ _ _ _ (omega arith)
