use borrow.Author.Rules.{rules}
use Rattle.tile_clip1986.proofs.Steps.{sought_end}
use Rattle.tile_clip1986.proofs.level.Goals as goal

pub returns : goal.returns
returns c = sought_end c.loop-q.invariant (search rules)
