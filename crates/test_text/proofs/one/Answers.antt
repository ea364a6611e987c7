-- `test_text::one` meets its contract: a line with one number. Assumes nothing.
use Rattle.test_text.specs.Text.{run, line_of}
use Rattle.test_text.proofs.one.Goals as goal

pub returns : goal.returns
unfolding run line_of
returns c = cc
