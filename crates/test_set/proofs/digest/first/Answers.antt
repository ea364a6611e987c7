-- `test_set::digest::first` meets its contract: the first n entries, or all where there are no more. Assumes nothing.
use Rattle.std.proofs.Common.{ap, ◌∙◌}
use Rattle.test_set.specs.Filmset.{digest_of}
use Rattle.test_set.proofs.Digests.{take_min}
use Rattle.test_set.proofs.digest.first.Goals as goal

pub returns : goal.returns
returns c = c.greys.ensures ∙ rw c.fitting-end.ensures (ap digest_of (take_min _ _))
