-- `tile_count::count` meets its contract: by eight ways, by four counts, or by greys added to cleared ones.
use Rattle.tile_count.proofs.Turns.{clear_asks, clear_counts}
use Rattle.tile_count.proofs.count.Goals as goal

pub count_plain-requires : goal.count_plain-requires
count_plain-requires c = clear_asks _ c.requires c.bin_factor-factor.ensures c.clear.ensures

pub returns-then-rect-bins : goal.returns-then-rect-bins
returns-then-rect-bins c = clear_counts _ _ _ _ _ c.clear.ensures c.count_plain.ensures
