-- `test_set::kept::factor_of` meets its contract: a pattern at most the infinity's, but for its sign, is no NaN's. Assumes nothing.
use Rattle.test_set.proofs.Nans.{low_no_nan}
use Rattle.std.proofs.Common.{refl, le-ltb, lt-ltb}
use lib.Ieee.{div, of_bits}
use Rattle.test_set.specs.Filmset.{float_of}
use Rattle.test_set.proofs.kept.factor_of.Goals as goal

pub returns-then-bits-gt2139095040 : goal.returns-then-bits-gt2139095040
unfolding div of_bits float_of
returns-then-bits-gt2139095040 c = rw (lt-ltb _ _ c.if-bits-gt2139095040.true) refl

pub float_from_bits-result : goal.float_from_bits-result
float_from_bits-result c = low_no_nan _ c.if-bits-gt2139095040.false

pub returns : goal.returns
unfolding float_of
returns c = rw (le-ltb _ _ c.if-bits-gt2139095040.false) refl
