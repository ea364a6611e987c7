-- `bin_factor` gives what stands for the bins over the greys of the range.
use mathlib.Core.Path.{refl}
use Rattle.tile_bin.specs.Binning.{factor_of}
use Rattle.tile_bin.proofs.bin_factor.Goals as goal

pub returns : goal.returns
unfolding factor_of
returns c = refl
