-- A number, and one byte behind it. Assumes nothing.
use Rattle.base_lists.proofs.Overs.{over_step}
use borrow.Author.Rules.{rules}
use Rattle.pgm_header.proofs.field.Goals as goal

pub returns : goal.returns
returns c = (over_step _ _ _ _ c.decimal-e.ensures.0 c.decimal-e.ensures.1 (search rules), search rules)
