-- `test_set::kept::clip_of` meets its contract: 0 is off, any other number the factor. Assumes nothing.
use Rattle.std.proofs.Common.{refl, eq-eqb, ne_eqb}
use Rattle.test_set.specs.Filmset.{clip_of_lem}
use Rattle.test_set.proofs.kept.clip_of.Goals as goal

pub returns-then-t-eq0 : goal.returns-then-t-eq0
unfolding clip_of_lem
returns-then-t-eq0 c = rw (eq-eqb _ _ c.if-t-eq0.true) refl

pub returns : goal.returns
unfolding clip_of_lem
returns c = rw (ne_eqb _ _ c.if-t-eq0.false) refl
