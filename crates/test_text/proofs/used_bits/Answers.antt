-- `test_text::used_bits` meets its contract: what differs from itself is the NaN. Assumes nothing.
use Rattle.test_text.proofs.Nans.{nan_bits, level_no_nan}
use Rattle.test_text.proofs.used_bits.Goals as goal

pub returns-then-x : goal.returns-then-x
returns-then-x c = nan_bits _ _ c.if-x.true

pub float_to_bits-result : goal.float_to_bits-result
float_to_bits-result c = level_no_nan _ c.if-x.false
