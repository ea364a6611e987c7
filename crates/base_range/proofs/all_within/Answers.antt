use borrow.Author.Rules.{rules}
use Rattle.base_range.proofs.Spans.{spans_none, spans_one, spans_behind}
use Rattle.base_range.proofs.all_within.Goals as goal

pub returns-in_default : goal.returns-in_default
returns-in_default c = spans_none _ _ c.args.greys.now (search rules)

pub loop-v-init : goal.loop-v-init
loop-v-init c = spans_one _ _ _

pub loop-v-preserved : goal.loop-v-preserved
loop-v-preserved c = spans_behind _ _ _ c.in-Some.rest.now c.loop-v.invariant (search rules) (search rules) (search rules)
