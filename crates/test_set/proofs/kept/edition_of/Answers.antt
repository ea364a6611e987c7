-- `test_set::kept::edition_of` meets its contract: 0 is ours, any other number that of 1986. Assumes nothing.
use Rattle.std.proofs.Common.{refl, eq-eqb, ne_eqb}
use Rattle.test_set.specs.Filmset.{edition_of_lem}
use Rattle.test_set.proofs.kept.edition_of.Goals as goal

pub returns-then-t-eq0 : goal.returns-then-t-eq0
unfolding edition_of_lem
returns-then-t-eq0 c = rw (eq-eqb _ _ c.if-t-eq0.true) refl

pub returns : goal.returns
unfolding edition_of_lem
returns c = rw (ne_eqb _ _ c.if-t-eq0.false) refl
