-- `bin_few` gives the bin of a grey, in 32 bits.
use borrow.Author.Rules.{rules}
use Rattle.tile_bin.specs.Binning.{bin_by_of}
use Rattle.tile_bin.proofs.bin_few.Goals as goal

pub returns : goal.returns
unfolding bin_by_of
returns c = search rules
