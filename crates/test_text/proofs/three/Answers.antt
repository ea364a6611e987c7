-- `test_text::three` meets its contract: a line with three numbers. Assumes nothing.
use Rattle.test_text.specs.Text.{run, line_of}
use Rattle.test_text.proofs.three.Goals as goal

pub returns : goal.returns
unfolding run line_of
returns c = cc
