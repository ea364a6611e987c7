use Rattle.std.proofs.Common.{sym, ◌∙◌}
use Rattle.film_sets.proofs.Finds.{twice_found, twice_other}
use Rattle.film_sets.proofs.twice.Goals as goal

pub returns-then-among : goal.returns-then-among
returns-then-among c = sym (c.loop-i.invariant ∙ twice_found c.args.sets.now c.loop-i.i _ c.loop-i-test.true c.among.ensures c.if-among.true)

pub loop-i-preserved : goal.loop-i-preserved
loop-i-preserved c = c.loop-i.invariant ∙ twice_other c.args.sets.now c.loop-i.i _ c.loop-i-test.true c.among.ensures c.if-among.false
