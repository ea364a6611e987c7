-- `adds_up` gives whether the counts add up to the pixels: the sum so far is that of the counts passed, each below 2^32.
use Prim.Native.Nat.{◌*◌, ◌≤◌}
use mathlib.Core.Path.{◌≡◌}
use lib.ListN.{take}
use Rattle.base_lists.specs.Lists.{total}
use Rattle.film_map.proofs.adds_up.Given as goal

abbrev pub invariant-loop-n : goal.invariant-loop-n
invariant-loop-n l = (l.sum ≡ total (take l.n-index l.counts)) × (l.sum ≤ l.n-index * 4294967295)
