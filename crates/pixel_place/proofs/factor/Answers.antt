-- `pixel_place::factor` meets its contract.
use Rattle.pixel_place.proofs.Laws.{inverse_large, inverse_small}
use borrow.Author.Rules.{rules}
use Rattle.pixel_place.proofs.factor.Goals as goal

pub returns-then-spans-gt1048576 : goal.returns-then-spans-gt1048576
returns-then-spans-gt1048576 c = (inverse_large _ c.if-spans-gt1048576.true, search rules)

pub returns-else-spans-gt1048576 : goal.returns-else-spans-gt1048576
returns-else-spans-gt1048576 c = (inverse_small _ c.if-spans-gt1048576.false, search rules)
