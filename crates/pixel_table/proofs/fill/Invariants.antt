-- `pixel_table::fill` meets its contract: the entries of the bins passed are made, and none leaves 64 bits.
use Prim.Native.Nat.{◌*◌}
use mathlib.Core.Path.{◌≡◌}
use Rattle.pixel_table.specs.Table.{patch_of}
use Rattle.pixel_table.proofs.Tables.{raw_of}
use Rattle.pixel_table.proofs.fill.Given as goal

abbrev pub invariant-loop-k : goal.invariant-loop-k
invariant-loop-k l = l.table ≡ patch_of (raw_of l.span l.upper l.lower l.most l.corners.upper_left.now l.corners.upper_right.now l.corners.lower_left.now l.corners.lower_right.now) l.initial.table (2 * l.low) (2 * l.k)
