-- `test_text::small` meets its contract: a small buffer is listed. Assumes nothing.
use Rattle.test_text.proofs.Lines.{small_listed, small_none}
use Rattle.test_text.proofs.small.Goals as goal

pub returns-then-is_small : goal.returns-then-is_small
returns-then-is_small c = small_listed _ _ _ (cc) (cc)

pub returns : goal.returns
returns c = small_none _ _ _ (cc) c.blank.ensures
