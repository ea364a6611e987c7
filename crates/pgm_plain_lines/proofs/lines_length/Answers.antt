use mathlib.Core.Path.{sym, ap, ◌∙◌}
use lib.ListN.{length, get_or}
use native.Mathlib.Omega.{arith}
use borrow.Author.Rules.{rules}
use Rattle.pgm_header.proofs.Writing.{count_most}
use Rattle.pgm_plain_lines.proofs.Lines.{lines_none, length_next, lines_all, lines_small}
use Rattle.pgm_plain_lines.proofs.lines_length.Goals as goal

pub loop-grey-init : goal.loop-grey-init
loop-grey-init c = sym (ap length (lines_none _))

pub overflow_add-sum : goal.overflow_add-sum
overflow_add-sum c =
    let i = c.loop-grey.grey-index in
    omega (arith, c.decimal_length.ensures, count_most 5 (get_or c.args.picture.now i 0))

pub overflow_add-sum-in-loop-grey : goal.overflow_add-sum-in-loop-grey
overflow_add-sum-in-loop-grey c =
    let i = c.loop-grey.grey-index in
    search (rules, c.decimal_length.ensures, count_most 5 (get_or c.args.picture.now i 0), lines_small c.args.picture.now i)

pub loop-grey-preserved : goal.loop-grey-preserved
loop-grey-preserved c = omega (arith, c.loop-grey.invariant, c.decimal_length.ensures, length_next c.args.picture.now c.loop-grey.grey-index)

pub returns : goal.returns
returns c = c.loop-grey.invariant ∙ ap length (lines_all _ (search rules) (search rules))
