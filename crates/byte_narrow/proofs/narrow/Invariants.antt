-- `byte_narrow::narrow` meets its contract: the entries passed stand in front, and each is a byte.
use Prim.Native.Nat.{◌≤◌}
use mathlib.Core.Path.{◌≡◌}
use lib.ListN.{length, get_or}
use Rattle.base_lists.specs.Lists.{filled}
use Rattle.byte_narrow.proofs.narrow.Given as goal

abbrev pub invariant-loop-k : goal.invariant-loop-k
invariant-loop-k l = (length l.src ≤ length l.initial.dst) × (length l.dst ≡ length l.initial.dst) × (l.dst ≡ filled (λ i. get_or l.src i 0) l.initial.dst l.k)
