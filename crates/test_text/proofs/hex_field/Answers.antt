-- `test_text::hex_field` meets its contract: a tab and so many digits. Assumes nothing.
use borrow.Author.Rules.{rules}
use Rattle.test_text.specs.Text.{hex_field_of}
use Rattle.test_text.proofs.Digits.{hex_fewest}
use Rattle.test_text.proofs.hex_field.Goals as goal

pub returns : goal.returns
unfolding hex_field_of
returns c = cc (hex_fewest _ _ _ (search rules) (search rules) (search rules) c.hex-all.ensures.len, c.hex-all.ensures.digits)
