-- `byte_narrow::widen` meets its contract: the bytes passed stand in front.
use Prim.Native.Nat.{◌≤◌}
use mathlib.Core.Path.{◌≡◌}
use lib.ListN.{length, get_or}
use Rattle.base_lists.specs.Lists.{filled}
use Rattle.byte_narrow.proofs.widen.Given as goal

abbrev pub invariant-loop-i : goal.invariant-loop-i
invariant-loop-i l = (length l.src ≤ length l.initial.dst) × (length l.dst ≡ length l.initial.dst) × (l.dst ≡ filled (λ k. get_or l.src k 0) l.initial.dst l.i)
