-- `test_set::row::digit` meets its contract: digits, capitals and small letters. Assumes nothing.
use Rattle.std.proofs.Common.{◌∙◌, arith}
use Rattle.test_set.proofs.Answers.{digit_low, digit_capital, digit_small}
use Rattle.test_set.proofs.row.digit.Goals as goal

pub returns-then-b-lt65 : goal.returns-then-b-lt65
returns-then-b-lt65 c = c.minus.ensures ∙ digit_low _ (omega arith)

pub returns-then-b-lt97 : goal.returns-then-b-lt97
returns-then-b-lt97 c = digit_capital _ (omega arith) (omega arith)

pub returns : goal.returns
returns c = digit_small _ (omega arith)
