-- `test_set::kept::record` meets its contract: the map record of the eleven, with the axes. Assumes nothing.
use Rattle.std.proofs.Common.{refl}
use Rattle.test_set.specs.Filmset.{kept_map_record}
use Rattle.test_set.proofs.kept.record.Goals as goal

pub returns : goal.returns
unfolding kept_map_record
returns c = rw c.settings-settings.ensures refl
