-- `test_set::kept::settings` meets its contract: the settings among the eleven. Assumes nothing.
use Rattle.test_set.specs.Filmset.{settings_of}
use Rattle.test_set.proofs.kept.settings.Goals as goal

pub returns : goal.returns
unfolding settings_of
returns c = cc
