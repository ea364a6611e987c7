-- `test_set::kept::eleven_fields` meets its contract: nine numbers, the factor and the edition. Assumes nothing.
use Rattle.test_set.specs.Filmset.{eleven_fields_of}
use Rattle.test_set.proofs.kept.eleven_fields.Goals as goal

pub returns : goal.returns
unfolding eleven_fields_of
returns c = cc
