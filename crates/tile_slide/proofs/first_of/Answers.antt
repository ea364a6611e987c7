-- `tile_slide::first_of` meets its contract.
use Rattle.tile_slide.specs.Slide.{first_of}
use Rattle.tile_slide.proofs.first_of.Goals as goal

pub returns : goal.returns
unfolding first_of
returns c = c.saturating_sub.ensures
