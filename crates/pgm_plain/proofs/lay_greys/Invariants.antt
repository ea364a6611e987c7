-- The greys before the place i are laid down, and those behind it are still to come.
use Rattle.pgm_plain.proofs.Samples.{Laid}
use Rattle.pgm_plain.proofs.lay_greys.Given as goal

abbrev pub invariant-loop-i : goal.invariant-loop-i
invariant-loop-i l = Laid l.count l.maxval l.s l.at l.initial.target l.target l.i l.p
