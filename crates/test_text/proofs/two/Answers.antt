-- `test_text::two` meets its contract: a line with two numbers. Assumes nothing.
use Rattle.test_text.specs.Text.{run, line_of}
use Rattle.test_text.proofs.two.Goals as goal

pub returns : goal.returns
unfolding run line_of
returns c = cc
