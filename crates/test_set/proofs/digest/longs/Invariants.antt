-- `test_set::digest::longs` meets its contract: the digest is of what has been taken in. Assumes nothing.
use Rattle.std.proofs.Common.{◌≡◌, take}
use Rattle.test_text.specs.Text.{run}
use Rattle.test_set.specs.Filmset.{mixed}
use Rattle.test_set.proofs.digest.longs.Given as goal

abbrev pub invariant-loop-entry : goal.invariant-loop-entry
invariant-loop-entry l = l.h ≡ run mixed 7 (take l.entry-index l.entries)
