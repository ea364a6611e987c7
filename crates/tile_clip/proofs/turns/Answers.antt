use borrow.Author.Rules.{rules}
use Rattle.tile_clip.proofs.Spans.{turning_first, turning_asks, turning_next, turning_end}
use Rattle.tile_clip.proofs.turns.Goals as goal

pub loop-start-init : goal.loop-start-init
loop-start-init c = turning_first _ _ _ _ _ _

pub turn-handed-requires : goal.turn-handed-requires
turn-handed-requires c = turning_asks c.requires c.loop-start.invariant (search rules) (search rules)

pub loop-start-preserved : goal.loop-start-preserved
loop-start-preserved c = turning_next c.requires c.loop-start.invariant (search rules) (search rules) c.turn-handed.ensures

pub returns-after-loop-start : goal.returns-after-loop-start
returns-after-loop-start c = turning_end c.loop-start.invariant

pub returns-then-r-eq0 : goal.returns-then-r-eq0
returns-then-r-eq0 c = turning_end c.loop-start.invariant
