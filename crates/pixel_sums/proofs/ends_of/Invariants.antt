-- `pixel_sums::ends_of` meets its contract: the least and the greatest of the bins passed.
use mathlib.Core.Path.{◌≡◌}
use Rattle.pixel_sums.specs.Sums.{least_to, greatest_to}
use Rattle.pixel_sums.proofs.ends_of.Given as goal

abbrev pub invariant-loop-k : goal.invariant-loop-k
invariant-loop-k l = (l.low ≡ least_to l.ks l.k-index) × (l.high ≡ greatest_to l.ks l.k-index)
