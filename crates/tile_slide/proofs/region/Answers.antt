-- `tile_slide::region` meets its contract: it is the strip between its ends.
use mathlib.Core.Path.{ap₂, ◌∙◌}
use native.Mathlib.Omega.{arith}
use Rattle.tile_slide.specs.Slide.{strip, region_rect}
use Rattle.tile_slide.proofs.Regions.{first_most, end_some}
use Rattle.tile_slide.proofs.region.Goals as goal

pub strip-requires : goal.strip-requires
strip-requires c =
    record {
      few = c.requires.few;
      down = c.requires.down;
      high = c.requires.high;
      order = omega (arith, c.first_of-left.ensures, c.end_of-right.ensures, first_most c.args.side c.args.x, end_some c.args.side c.args.width c.args.x c.requires.across);
    }

pub returns : goal.returns
unfolding region_rect
returns c = c.strip.ensures ∙ ap₂ (λ m n. strip c.args.height c.args.side c.args.y m n) c.first_of-left.ensures c.end_of-right.ensures
