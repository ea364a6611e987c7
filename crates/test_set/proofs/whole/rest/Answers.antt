-- `test_set::whole::rest` meets its contract: a remainder by 0 is 0. Assumes nothing.
use Rattle.std.proofs.Common.{refl, eq-eqb, ne_eqb}
use Rattle.test_set.specs.Filmset.{rest_of}
use Rattle.test_set.proofs.whole.rest.Goals as goal

pub returns-then-b-eq0 : goal.returns-then-b-eq0
unfolding rest_of
returns-then-b-eq0 c = rw (eq-eqb _ _ c.if-b-eq0.true) refl

pub returns : goal.returns
unfolding rest_of
returns c = rw (ne_eqb _ _ c.if-b-eq0.false) refl
