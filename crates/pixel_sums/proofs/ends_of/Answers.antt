use Rattle.pixel_sums.proofs.Choice.{least_none, greatest_none, least_next, greatest_next}
use Rattle.pixel_sums.proofs.ends_of.Goals as goal

pub loop-k-init : goal.loop-k-init
loop-k-init c = (least_none _, greatest_none _)

pub loop-k-preserved : goal.loop-k-preserved
loop-k-preserved c = (least_next _ _ c.loop-k.invariant.0 c.min-low.ensures, greatest_next _ _ c.loop-k.invariant.1 c.max-high.ensures)
