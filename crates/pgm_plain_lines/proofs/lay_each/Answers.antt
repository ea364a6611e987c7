use mathlib.Core.Path.{sym, ap, ◌∙◌}
use lib.ListN.{length}
use native.Mathlib.Omega.{arith}
use borrow.Author.Rules.{rules}
use Rattle.base_lists.specs.Lists.{onto}
use Rattle.base_lists.proofs.Overs.{onto_nil}
use Rattle.pgm_plain_lines.proofs.Lines.{lines_none, length_next, lines_all, lines_room, laid_line}
use Rattle.pgm_plain_lines.proofs.lay_each.Goals as goal

pub loop-grey-init : goal.loop-grey-init
loop-grey-init c = (sym (ap length (lines_none _)), onto_nil _ ∙ ap (onto _) (sym (lines_none _)))

pub lay_line-p-requires : goal.lay_line-p-requires
lay_line-p-requires c =
    let o = c.loop-grey in
    let a = c.args in
    (search rules, search (rules, lines_room a.picture.now o.grey-index (search rules), c.requires.0, o.invariant.0), c.requires.1)

pub loop-grey-preserved : goal.loop-grey-preserved
loop-grey-preserved c =
    let o = c.loop-grey in
    let a = c.args in (
      omega (arith, c.lay_line-p.ensures.1, o.invariant.0, length_next a.picture.now o.grey-index),
      laid_line a.picture.now a.out.now o.grey-index o.invariant.1 o.invariant.0 c.lay_line-p.ensures.0,
    )

pub returns : goal.returns
returns c = (
  c.loop-grey.invariant.1 ∙ ap (onto _) (lines_all _ (search rules) (search rules)),
  c.loop-grey.invariant.0 ∙ ap length (lines_all _ (search rules) (search rules)),
)
