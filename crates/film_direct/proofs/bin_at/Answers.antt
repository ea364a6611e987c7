-- `bin_at` gives the bin of the grey.
use Rattle.film_direct.proofs.Pixels.{grey_asks, bin_is}
use Rattle.film_direct.proofs.bin_at.Goals as goal

pub bin_by-requires : goal.bin_by-requires
bin_by-requires c = grey_asks c.requires

pub returns : goal.returns
returns c = bin_is c.requires c.bins.ensures c.bin_factor-factor.ensures c.bin_by.ensures
