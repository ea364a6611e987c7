use Rattle.std.proofs.Common.{refl, rules}
use Rattle.test_text.proofs.Runs.{run_start, run_turn}
use Rattle.test_set.proofs.Digests.{digest_end}
use Rattle.test_set.proofs.digest.words.Goals as goal

pub loop-entry-init : goal.loop-entry-init
loop-entry-init c = run_start _ refl

pub loop-entry-preserved : goal.loop-entry-preserved
loop-entry-preserved c = run_turn _ _ _ _ c.loop-entry.invariant (search rules) c.taken-h.ensures

pub returns : goal.returns
returns c = digest_end _ _ c.loop-entry.invariant (search rules) c.taken.ensures
