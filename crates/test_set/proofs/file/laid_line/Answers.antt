-- `test_set::file::laid_line` meets its contract: the refusal, or 0 and the count. Assumes nothing.
use Rattle.std.proofs.Common.{eq-eqb, ne_eqb}
use Rattle.test_set.specs.Filmset.{laid_line_of}
use Rattle.test_set.proofs.file.laid_line.Goals as goal

pub returns-then-laid-ne0 : goal.returns-then-laid-ne0
unfolding laid_line_of
returns-then-laid-ne0 c = rw (ne_eqb _ _ c.if-laid-ne0.true) c.one.ensures

pub returns : goal.returns
unfolding laid_line_of
returns c = rw (eq-eqb _ _ c.if-laid-ne0.false) c.two.ensures
