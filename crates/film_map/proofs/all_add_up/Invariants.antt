-- `all_add_up` gives whether each tile's counts add up to its pixels.
use Rattle.film_map.proofs.Turns.{Adding}
use Rattle.film_map.proofs.all_add_up.Given as goal

abbrev pub invariant-loop-k : goal.invariant-loop-k
invariant-loop-k l = Adding l.width l.height l.s l.counts l.k
