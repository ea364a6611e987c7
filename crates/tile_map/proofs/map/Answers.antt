use mathlib.Core.Path.{refl, ◌∙◌}
use native.Mathlib.Omega.{arith}
use borrow.Author.Rules.{rules}
use Rattle.base_lists.specs.Lists.{total}
use Rattle.base_lists.proofs.Fills.{filled_none, filled_step, filled_end, filled_onto}
use Rattle.tile_map.specs.Tile.{mapping_of}
use Rattle.tile_map.proofs.Mapped.{turn_sum, turn_few, turn_room, turn_most, turn_value}
use Rattle.tile_map.proofs.map.Goals as goal

pub loop-k-init : goal.loop-k-init
unfolding total
loop-k-init c = (refl, filled_none _ _)

pub overflow_add-sum : goal.overflow_add-sum
overflow_add-sum c = omega (arith, turn_few c.requires c.loop-k.invariant.0 c.loop-k-test.true)

pub overflow_mul-out : goal.overflow_mul-out
overflow_mul-out c = omega (arith, turn_room c.requires c.loop-k.invariant.0 c.loop-k-test.true)

pub overflow_cast-out : goal.overflow_cast-out
overflow_cast-out c = omega (arith, turn_most c.requires c.loop-k.invariant.0 c.loop-k-test.true)

pub overflow_add-out : goal.overflow_add-out
overflow_add-out c = omega (arith, turn_most c.requires c.loop-k.invariant.0 c.loop-k-test.true)

pub overflow_cast-out-in-loop-k : goal.overflow_cast-out-in-loop-k
overflow_cast-out-in-loop-k c = omega (arith, turn_most c.requires c.loop-k.invariant.0 c.loop-k-test.true)

pub loop-k-preserved : goal.loop-k-preserved
loop-k-preserved c = (
  turn_sum c.requires c.loop-k.invariant.0 c.loop-k-test.true,
  filled_step _ _ c.loop-k.invariant.1 (search rules) (turn_value c.requires c.loop-k.invariant.0 c.loop-k-test.true),
)

pub returns : goal.returns
unfolding mapping_of
returns c = filled_end _ _ c.loop-k.invariant.1 (search rules) (search rules) ∙ filled_onto _ _ _
