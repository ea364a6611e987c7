use borrow.Author.Rules.{rules}
use Rattle.film_count.proofs.Turns.{counting_first, counting_asks, counting_length, counting_next, counting_end}
use Rattle.film_count.proofs.count_all.Goals as goal

pub loop-k-init : goal.loop-k-init
loop-k-init c = counting_first

pub count_tile-requires : goal.count_tile-requires
count_tile-requires c = counting_asks c.requires c.loop-k.invariant (search rules)

pub loop-k-preserved : goal.loop-k-preserved
loop-k-preserved c = counting_next c.requires c.loop-k.invariant c.count_tile.ensures

pub shape_of-counts : goal.shape_of-counts
shape_of-counts c = counting_length c.requires c.loop-k.invariant (search rules)

pub returns : goal.returns
returns c = counting_end c.requires c.loop-k.invariant (search rules) (search rules)
