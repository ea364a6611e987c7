-- `test_set::film::joined` meets its contract: the second call counts where the first accepted. Assumes nothing.
use Rattle.std.proofs.Common.{refl, eq-eqb, ne_eqb}
use Rattle.test_set.specs.Filmset.{joined_of}
use Rattle.test_set.proofs.film.joined.Goals as goal

pub returns-then-number-eq0 : goal.returns-then-number-eq0
unfolding joined_of
returns-then-number-eq0 c = rw (eq-eqb _ _ c.if-number-eq0.true) refl

pub returns : goal.returns
unfolding joined_of
returns c = rw (ne_eqb _ _ c.if-number-eq0.false) refl
