-- The two bytes of a pair's entry.
use native.Mathlib.Omega.{arith}
use Rattle.pgm_plain_lines.proofs.Pairs.{pairs_room, pairs_at, two_laid}
use Rattle.pgm_plain_lines.proofs.lay_two.Goals as goal

pub bounds-pairs-n : goal.bounds-pairs-n
bounds-pairs-n c = omega (arith, pairs_room c.requires.2 c.requires.0)

pub overflow_cast-out-2 : goal.overflow_cast-out-2
overflow_cast-out-2 c = omega (arith, c.shared_slice_known-1.given c.args.n)

pub returns : goal.returns
returns c = two_laid _ _ _ (pairs_at _ c.requires.2 c.requires.0) c.requires.0 c.requires.1
