use Rattle.std.proofs.Common.{refl, rules}
use Rattle.test_text.proofs.Runs.{run_start, run_turn, run_all}
use Rattle.test_text.proofs.puts.Goals as goal

pub loop-b-init : goal.loop-b-init
loop-b-init c = run_start _ refl

pub loop-b-preserved : goal.loop-b-preserved
loop-b-preserved c = run_turn _ _ _ _ c.loop-b.invariant (search rules) c.put-line.ensures

pub returns : goal.returns
returns c = run_all _ _ _ _ c.loop-b.invariant (search rules)
