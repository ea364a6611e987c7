-- `count_all` lays the counts of all tiles down.
use Rattle.film_count.proofs.Turns.{Counting}
use Rattle.film_count.proofs.count_all.Given as goal

abbrev pub invariant-loop-k : goal.invariant-loop-k
invariant-loop-k l = Counting l.width l.height l.picture l.s l.initial.counts l.counts l.k
