-- `test_text::field` meets its contract: a tab and the fewest digits. Assumes nothing.
use borrow.Author.Rules.{rules}
use Rattle.test_text.specs.Text.{field_of}
use Rattle.test_text.proofs.Digits.{decimal_fewest}
use Rattle.test_text.proofs.field.Goals as goal

pub returns : goal.returns
unfolding field_of
returns c = cc (decimal_fewest 19 _ _ (search rules) c.decimal-count.ensures.len, c.decimal-count.ensures.digits)
