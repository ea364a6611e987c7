-- `bin_by` gives the bin of a grey by that factor: by a shift where the factor is one more than a power of two, else by the product.
use Prim.Native.Nat.{◌+◌}
use mathlib.Core.Path.{refl, sym, ap, ◌∙◌}
use native.Mathlib.Omega.{arith}
use Rattle.tile_bin.specs.Binning.{bin_by_of}
use Rattle.tile_bin.proofs.Bins.{one_shifted, bin_power}
use Rattle.tile_bin.proofs.bin_by.Goals as goal

pub returns-then-t-factor : goal.returns-then-t-factor
unfolding bin_by_of
returns-then-t-factor c = bin_power _ _ _ (omega (arith, c.requires.1)) c.if-t-gt11.true c.if-t-lt25.true (ap (λ n. n + 1) (sym (one_shifted _ c.if-t-lt25.true).0) ∙ c.if-t-factor.true)

pub returns-else-t-gt11 : goal.returns-else-t-gt11
unfolding bin_by_of
returns-else-t-gt11 c = refl
