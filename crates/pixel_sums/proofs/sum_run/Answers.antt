-- `pixel_sums::sum_run` meets its contract: each of the three ways gives the run, and the room keeps its length.
use Rattle.pixel_sums.proofs.Choice.{pays_within, moved_all, moved_like}
use borrow.Author.Rules.{rules}
use Rattle.pixel_sums.proofs.sum_run.Goals as goal

pub returns-then-not-pays : goal.returns-then-not-pays
returns-then-not-pays c = (c.weigh_run.ensures.0, search rules, moved_like _ _ c.ends_of-ends.ensures.0 c.ends_of-ends.ensures.1 c.pays.ensures c.if-not-pays.true c.weigh_run.ensures.1)

pub large_run-requires : goal.large_run-requires
large_run-requires c = (c.requires, pays_within _ _ c.ends_of-ends.ensures.0 c.ends_of-ends.ensures.1 c.pays.ensures c.if-not-pays.false c.requires.some c.requires.bins)

pub returns-then-spot-gt524288 : goal.returns-then-spot-gt524288
returns-then-spot-gt524288 c = (c.large_run.ensures.0, c.large_run.ensures.1, moved_all _ _ c.ends_of-ends.ensures.0 c.ends_of-ends.ensures.1 c.pays.ensures c.if-not-pays.false c.large_run.ensures.2)

pub table_run-requires : goal.table_run-requires
table_run-requires c = (c.requires, c.if-spot-gt524288.false, pays_within _ _ c.ends_of-ends.ensures.0 c.ends_of-ends.ensures.1 c.pays.ensures c.if-not-pays.false c.requires.some c.requires.bins)

pub returns-else-spot-gt524288 : goal.returns-else-spot-gt524288
returns-else-spot-gt524288 c = (c.table_run.ensures.0, c.table_run.ensures.1, moved_all _ _ c.ends_of-ends.ensures.0 c.ends_of-ends.ensures.1 c.pays.ensures c.if-not-pays.false c.table_run.ensures.2)
