-- `test_set::file::sizes_line` meets its contract: the refusal, or 0 and the sizes. Assumes nothing.
use Rattle.std.proofs.Common.{eq-eqb, ne_eqb}
use Rattle.test_text.specs.Text.{line_of}
use Rattle.test_set.specs.Filmset.{sizes_line_of}
use Rattle.test_set.proofs.file.sizes_line.Goals as goal

pub returns-then-f-ne0 : goal.returns-then-f-ne0
unfolding sizes_line_of
returns-then-f-ne0 c = rw (ne_eqb _ _ c.if-f-ne0.true) c.one.ensures

pub returns : goal.returns
unfolding sizes_line_of line_of
returns c = rw (eq-eqb _ _ c.if-f-ne0.false) (cc)
