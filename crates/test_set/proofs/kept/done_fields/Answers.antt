-- `test_set::kept::done_fields` meets its contract: under the letter P the record follows. Assumes nothing.
use Rattle.std.proofs.Common.{eq-eqb, ne_eqb}
use Rattle.test_set.specs.Filmset.{done_fields_of}
use Rattle.test_set.proofs.kept.done_fields.Goals as goal

pub returns-then-letter-eq80 : goal.returns-then-letter-eq80
unfolding done_fields_of
returns-then-letter-eq80 c = rw (eq-eqb _ _ c.if-letter-eq80.true) (cc)

pub returns : goal.returns
unfolding done_fields_of
returns c = rw (ne_eqb _ _ c.if-letter-eq80.false) (cc)
