use Rattle.std.proofs.Common.{refl, rules}
use Rattle.test_text.proofs.Runs.{run_start, run_turn, run_all}
use Rattle.test_text.proofs.word_fields.Goals as goal

pub loop-entry-init : goal.loop-entry-init
loop-entry-init c = run_start _ refl

pub loop-entry-preserved : goal.loop-entry-preserved
loop-entry-preserved c = run_turn _ _ _ _ c.loop-entry.invariant (search rules) c.field-line.ensures

pub returns : goal.returns
returns c = run_all _ _ _ _ c.loop-entry.invariant (search rules)
