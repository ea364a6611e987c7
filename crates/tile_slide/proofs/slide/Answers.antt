-- `tile_slide::slide` meets its contract: "this gives a fresh region's counts".
use Rattle.tile_slide.proofs.Regions.{slide_gains, slide_slid}
use Rattle.tile_slide.proofs.slide.Goals as goal

pub gain-requires : goal.gain-requires
gain-requires c = slide_gains c.requires c.lose.ensures

pub returns : goal.returns
returns c = slide_slid c.requires c.lose.ensures c.gain.ensures
