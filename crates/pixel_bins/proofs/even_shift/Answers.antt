-- `pixel_bins::even_shift` meets its contract: the product with the power of two in the quotient is tried.
use native.Mathlib.Omega.{arith}
use Rattle.pixel_bins.proofs.Bins.{even_bins}
use Rattle.pixel_bins.proofs.even_shift.Goals as goal

pub returns-then-bins-shift : goal.returns-then-bins-shift
returns-then-bins-shift c = rw c.bins-bins.ensures at (even_bins (omega (arith, c.bins-bins.ensures, c.requires.some)) (omega (arith, c.requires.most)) c.ilog2-shift.ensures.power_le c.if-bins-shift.true)
