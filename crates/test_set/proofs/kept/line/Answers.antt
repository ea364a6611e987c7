-- `test_set::kept::line` meets its contract: the answer's line, with more fields where the call accepted. Assumes nothing.
use Rattle.std.proofs.Common.{eq-eqb, ne_eqb}
use Rattle.test_set.specs.Filmset.{answer_line}
use Rattle.test_set.proofs.kept.line.Goals as goal

pub returns-then-letter-eq0 : goal.returns-then-letter-eq0
unfolding answer_line
returns-then-letter-eq0 c = rw (eq-eqb _ _ c.if-letter-eq0.true) c.blank.ensures

pub returns-then-k-ne0 : goal.returns-then-k-ne0
unfolding answer_line
returns-then-k-ne0 c = rw (ne_eqb _ _ c.if-letter-eq0.false, ne_eqb _ _ c.if-k-ne0.true) (cc)

pub returns : goal.returns
unfolding answer_line
returns c = rw (ne_eqb _ _ c.if-letter-eq0.false, eq-eqb _ _ c.if-k-ne0.false) (cc)
