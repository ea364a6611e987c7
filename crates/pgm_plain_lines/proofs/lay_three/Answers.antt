-- The first digit, the two behind it, and LF.
use mathlib.Core.Path.{◌∙◌}
use lib.ListN.{length-set}
use Rattle.pgm_plain_lines.proofs.Pairs.{three_laid}
use borrow.Author.Rules.{rules}
use Rattle.pgm_plain_lines.proofs.lay_three.Goals as goal

pub lay_two-requires : goal.lay_two-requires
lay_two-requires c = (search rules, simp length-set (search rules), search rules)

pub shape_of-out : goal.shape_of-out
shape_of-out c = simp length-set (c.lay_two.auto.out ∙ simp length-set)

pub returns : goal.returns
returns c = (three_laid _ _ _ (search rules) (search rules) (search rules) c.lay_two.ensures, search rules)
