-- `test_numbers::mapped` is safe: the counts are as many as the pixels. Assumes nothing.
use borrow.Author.Rules.{rules}
use Rattle.base_lists.specs.Lists.{total}
use Rattle.test_numbers.proofs.mapped.Goals as goal

pub map-requires : goal.map-requires
unfolding total
map-requires c = search rules
