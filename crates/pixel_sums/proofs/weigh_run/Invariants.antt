-- `pixel_sums::weigh_run` meets its contract: the pixels passed are rendered and those ahead hold their bins; the sum is that of the pixel before, and the moves are counted.
use mathlib.Core.Path.{◌≡◌}
use Rattle.base_lists.specs.Lists.{filled}
use Rattle.pixel_sums.proofs.Steps.{blended, Before}
use Rattle.pixel_sums.proofs.weigh_run.Given as goal

abbrev pub invariant-loop-i : goal.invariant-loop-i
invariant-loop-i l = record {
  rendered : l.pixels ≡ filled (blended l.spot.column l.spot.row l.corners.upper_left.now l.corners.upper_right.now l.corners.lower_left.now l.corners.lower_right.now l.initial.pixels) l.initial.pixels l.i;
  before : Before l.spot.column l.spot.row l.corners.upper_left.now l.corners.upper_right.now l.corners.lower_left.now l.corners.lower_right.now l.initial.pixels l.i l.at;
}
