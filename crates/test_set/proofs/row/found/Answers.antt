use Rattle.std.proofs.Common.{ap, rules}
use Rattle.test_text.proofs.Runs.{run_start, run_turn, run_all}
use Rattle.test_set.specs.declared.row.Line.{Line}
use Rattle.test_set.proofs.row.found.Goals as goal

pub loop-b-init : goal.loop-b-init
loop-b-init c = run_start _ c.fresh-line.ensures

pub loop-b-preserved : goal.loop-b-preserved
loop-b-preserved c = run_turn _ _ _ _ c.loop-b.invariant (search rules) c.looked-line.ensures

pub returns : goal.returns
returns c = ap (λ (l : Line). l.numbers) (run_all _ _ _ _ c.loop-b.invariant (search rules))
