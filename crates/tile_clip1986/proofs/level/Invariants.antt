-- No number above p up to C levels, and q is a step from p.
use Rattle.tile_clip1986.proofs.Steps.{Sought}
use Rattle.tile_clip1986.proofs.level.Given as goal

abbrev pub invariant-loop-q : goal.invariant-loop-q
invariant-loop-q l = Sought l.limit l.counts l.p l.q

abbrev pub decreases-loop-q : goal.decreases-loop-q
decreases-loop-q l = l.p
