-- `test_text::four` meets its contract: a line with four numbers. Assumes nothing.
use Rattle.test_text.specs.Text.{run, line_of}
use Rattle.test_text.proofs.four.Goals as goal

pub returns : goal.returns
unfolding run line_of
returns c = cc
