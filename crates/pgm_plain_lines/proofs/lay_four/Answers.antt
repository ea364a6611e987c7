-- Two digits, two more, and LF.
use mathlib.Core.Path.{◌∙◌}
use lib.ListN.{length-set}
use Rattle.pgm_plain_lines.proofs.Pairs.{four_laid}
use borrow.Author.Rules.{rules}
use Rattle.pgm_plain_lines.proofs.lay_four.Goals as goal

pub shape_of-out : goal.shape_of-out
shape_of-out c = simp length-set (c.lay_two-2.auto.out ∙ c.lay_two.auto.out)

pub returns : goal.returns
returns c = (
  four_laid _ _ _ (search rules) (search rules) (search rules) c.lay_two.ensures c.lay_two-2.ensures,
  search rules,
)
