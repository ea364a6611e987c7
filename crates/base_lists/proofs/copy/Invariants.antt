-- `copy` lays the entries down in front, one behind the other.
use mathlib.Core.Path.{◌≡◌}
use lib.Seq.{paste}
use Rattle.base_lists.proofs.copy.Given as goal

abbrev pub invariant-loop-i : goal.invariant-loop-i
invariant-loop-i g l = l.dst ≡ paste l.initial.dst 0 l.src l.i
