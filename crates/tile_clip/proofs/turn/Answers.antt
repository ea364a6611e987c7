-- `turn` walks the part alone, and counts the places before it and behind it.
use Rattle.tile_clip.proofs.Spans.{turned_under}
use borrow.Author.Rules.{rules}
use borrow.Author.Rules.{rules}
use Rattle.tile_clip.proofs.turn.Goals as goal

pub returns-then-left-met : goal.returns-then-left-met
returns-then-left-met c = turned_under c.args.limit c.step_of-step.ensures c.looks_behind-met.ensures (search rules)
