-- The factor 2.0 as it is written. Assumes nothing.
use mathlib.Core.Path.{refl}
use lib.Ieee.{of_bits}
use Rattle.listing_film.proofs.settings_for.Goals as goal

pub returns : goal.returns
unfolding of_bits
returns c = refl
