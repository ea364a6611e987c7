use mathlib.Core.Path.{sym, ap, ◌∙◌}
use lib.ListN.{length-set}
use borrow.Author.Rules.{rules}
use Rattle.base_lists.specs.Lists.{over}
use Rattle.pgm_header.proofs.Writing.{fixed, decimal_fixed, digit_laid, digits_laid}
use Rattle.pgm_header.proofs.decimal.Goals as goal

pub loop-k-preserved : goal.loop-k-preserved
loop-k-preserved c = (
  rw length-set (search rules),
  digit_laid c.loop-k.out _ c.loop-k.v c.loop-k.k (search rules) (search rules) ∙ c.loop-k.invariant.1,
)

pub returns : goal.returns
returns c = (
  sym (digits_laid c.loop-k.out _ c.loop-k.v c.loop-k.k (search rules))
      ∙ (c.loop-k.invariant.1
      ∙ ap (over c.args.out.now c.args.at)
      (ap (λ k. fixed k c.args.n) c.decimal_length-count.ensures ∙ sym (decimal_fixed 5 c.args.n))),
  search rules,
)
