-- `test_set::film::same` meets its contract: no line where a call refused. Assumes nothing.
use Rattle.std.proofs.Common.{eq-eqb, ne_eqb}
use Rattle.test_set.specs.Filmset.{same_line}
use Rattle.test_set.proofs.film.same.Goals as goal

pub returns-then-a-ne0 : goal.returns-then-a-ne0
unfolding same_line
returns-then-a-ne0 c = rw (ne_eqb _ _ c.if-a-ne0.true) c.blank.ensures

pub returns-then-b-ne0 : goal.returns-then-b-ne0
unfolding same_line
returns-then-b-ne0 c = rw (eq-eqb _ _ c.if-a-ne0.false, ne_eqb _ _ c.if-b-ne0.true) c.blank-then-b-ne0.ensures

pub returns-then-a-b : goal.returns-then-a-b
unfolding same_line
returns-then-a-b c = rw (eq-eqb _ _ c.if-a-ne0.false, eq-eqb _ _ c.if-b-ne0.false, eq-eqb _ _ c.if-a-b.true) c.one.ensures

pub returns : goal.returns
unfolding same_line
returns c = rw (eq-eqb _ _ c.if-a-ne0.false, eq-eqb _ _ c.if-b-ne0.false, ne_eqb _ _ c.if-a-b.false) c.one-2.ensures
