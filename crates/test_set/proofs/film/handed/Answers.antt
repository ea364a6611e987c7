-- `test_set::film::handed` meets its contract: the kept record, or the made one with a field changed. Assumes nothing.
use Rattle.test_set.proofs.Answers.{handed_kept, handed_made}
use Rattle.test_set.proofs.film.handed.Goals as goal

pub returns-then-field-ge-FIELDS : goal.returns-then-field-ge-FIELDS
returns-then-field-ge-FIELDS c = handed_kept _ _ _ c.own-field.ensures c.if-field-ge-FIELDS.true (cc)

pub returns : goal.returns
returns c = handed_made _ _ _ c.own-field.ensures c.if-field-ge-FIELDS.false (cc) (cc)
