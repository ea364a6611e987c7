-- `tile_bin::bin_even` meets its contract: the shift divides by the greys of a bin.
use Rattle.tile_bin.proofs.Bins.{bin_even_lem}
use Rattle.tile_bin.proofs.bin_even.Goals as goal

pub returns : goal.returns
returns c = bin_even_lem _ _ _ _ _ c.requires.2 c.requires.3
