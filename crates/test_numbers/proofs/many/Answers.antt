-- `test_numbers::many` is safe: the pixels are in the grey range. Assumes nothing.
use borrow.Author.Rules.{rules}
use Rattle.base_lists.specs.Lists.{all}
use Rattle.base_range.specs.Scan.{within}
use Rattle.test_numbers.proofs.many.Goals as goal

pub show-requires : goal.show-requires
unfolding all within
show-requires c = search rules
