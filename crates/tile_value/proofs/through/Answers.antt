use Prim.Native.Nat.{◌+◌}
use mathlib.Core.Path.{refl}
use lib.ListN.{take}
use native.Mathlib.Omega.{arith}
use Rattle.base_lists.specs.Lists.{total}
use Rattle.base_lists.proofs.Tallies.{total_next, total_take_le}
use Rattle.tile_value.proofs.through.Goals as goal

pub loop-count-init : goal.loop-count-init
unfolding total
loop-count-init c = refl

pub overflow_add-sum : goal.overflow_add-sum
overflow_add-sum c =
    omega (
      arith,
      total_next (take (c.args.k + 1) c.args.counts.now) c.loop-count.count-index c.loop-count-test.true,
      total_take_le (c.loop-count.count-index + 1) (take (c.args.k + 1) c.args.counts.now),
      total_take_le (c.args.k + 1) c.args.counts.now,
    )

pub loop-count-preserved : goal.loop-count-preserved
loop-count-preserved c = omega (arith, total_next (take (c.args.k + 1) c.args.counts.now) c.loop-count.count-index c.loop-count-test.true)
