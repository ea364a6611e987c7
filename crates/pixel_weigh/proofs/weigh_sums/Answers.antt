-- `pixel_weigh::weigh_sums` meets its contract: the mappings of the four tiles lie in the map buffer.
use Rattle.pixel_weigh.proofs.Tiles.{run_tiles, run_summed}
use Rattle.pixel_weigh.proofs.weigh_sums.Goals as goal

pub sum_run-requires : goal.sum_run-requires
sum_run-requires c = run_tiles c.requires c.tile_at.ensures c.tile_at-2.ensures c.tile_at-3.ensures c.tile_at-4.ensures

pub returns : goal.returns
returns c = (run_summed c.requires c.tile_at.ensures c.tile_at-2.ensures c.tile_at-3.ensures c.tile_at-4.ensures c.sum_run.ensures.0, c.sum_run.ensures.1, c.sum_run.ensures.2)
