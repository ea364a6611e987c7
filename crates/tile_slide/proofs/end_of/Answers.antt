-- `tile_slide::end_of` meets its contract.
use Rattle.tile_slide.specs.Slide.{end_of}
use Rattle.tile_slide.proofs.end_of.Goals as goal

pub returns : goal.returns
unfolding end_of
returns c = c.min.ensures
