-- `tile_slide::strip` meets its contract.
use native.Mathlib.Omega.{arith}
use Rattle.tile_slide.proofs.Regions.{first_most, end_some}
use Rattle.tile_slide.proofs.strip.Goals as goal

pub overflow_sub-result-2 : goal.overflow_sub-result-2
overflow_sub-result-2 c = omega (arith, c.first_of-top.ensures, c.end_of-bottom.ensures, first_most c.args.side c.args.y, end_some c.args.side c.args.height c.args.y c.requires.down)
