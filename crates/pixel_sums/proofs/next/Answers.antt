-- `pixel_sums::next` meets its contract: the sum moves where the bin is the one before, and is weighed anew where it is not.
use mathlib.Core.Path.{refl, sym}
use native.Mathlib.Omega.{arith}
use Rattle.pixel_sums.proofs.Steps.{pixel_sound, left_small, right_small, pairs_left, pairs_right, step_room, step_holds, step_is, weighed_is, one_moved, none_moved}
use Rattle.pixel_sums.proofs.next.Goals as goal

pub overflow_add-result : goal.overflow_add-result
overflow_add-result c = omega (arith, step_room c.requires.0 (c.requires.2 c.if-k-was.true).0 (c.requires.2 c.if-k-was.true).1)

pub overflow_sub-result : goal.overflow_sub-result
overflow_sub-result c = omega (arith, step_holds c.requires.0 (c.requires.2 c.if-k-was.true).0 (c.requires.2 c.if-k-was.true).1)

pub returns-then-k-was : goal.returns-then-k-was
returns-then-k-was c = (
  record {
    bin = sym c.if-k-was.true;
    left = (c.requires.2 c.if-k-was.true).1.left;
    right = (c.requires.2 c.if-k-was.true).1.right;
    sum = step_is c.requires.0 (c.requires.2 c.if-k-was.true).0 (c.requires.2 c.if-k-was.true).1;
  },
  one_moved _ c.if-k-was.true,
)

pub sides-sum-requires : goal.sides-sum-requires
sides-sum-requires c = (rw c.along.ensures (pixel_sound c.requires.0), left_small c.requires.0 (pairs_left c.requires.0 c.pairs_of-pairs.ensures), right_small c.requires.0 (pairs_right c.requires.0 c.pairs_of-pairs.ensures))

pub returns-else-k-was : goal.returns-else-k-was
returns-else-k-was c = (
  record {
    bin = refl;
    left = pairs_left c.requires.0 c.pairs_of-pairs.ensures;
    right = pairs_right c.requires.0 c.pairs_of-pairs.ensures;
    sum = weighed_is c.along.ensures (pairs_left c.requires.0 c.pairs_of-pairs.ensures) (pairs_right c.requires.0 c.pairs_of-pairs.ensures) c.sides-sum.ensures;
  },
  none_moved _ c.if-k-was.false,
)
