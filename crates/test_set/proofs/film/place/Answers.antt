-- `test_set::film::place` meets its contract: the first three fields stand before the picture's columns. Assumes nothing.
use Rattle.std.proofs.Common.{refl, le-ltb, lt-ltb, eq-eqb, ne_eqb}
use Rattle.test_set.specs.Filmset.{field_column}
use Rattle.test_set.proofs.film.place.Goals as goal

pub returns-then-field-lt3 : goal.returns-then-field-lt3
unfolding field_column
returns-then-field-lt3 c = rw (lt-ltb _ _ c.if-field-lt3.true) refl

pub returns-then-field-eq10 : goal.returns-then-field-eq10
unfolding field_column
returns-then-field-eq10 c = rw (le-ltb _ _ c.if-field-lt3.false, eq-eqb _ _ c.if-field-eq10.true) refl

pub returns : goal.returns
unfolding field_column
returns c = rw (le-ltb _ _ c.if-field-lt3.false, ne_eqb _ _ c.if-field-eq10.false) refl
