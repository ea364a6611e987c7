-- By the number of digits.
use native.Mathlib.Omega.{arith}
use borrow.Author.Rules.{rules}
use Rattle.pgm_header.proofs.Writing.{count_3, count_4}
use Rattle.pgm_plain_lines.proofs.lay_line.Goals as goal

pub lay_three-requires : goal.lay_three-requires
lay_three-requires c =
    let v = c.args.v in
    (search rules, search rules, omega (arith, count_3 v (search rules) (search rules), c.requires.1), search rules)

pub returns-in-100-to-999 : goal.returns-in-100-to-999
returns-in-100-to-999 c =
    let v = c.args.v in
    (c.lay_three.ensures.0, omega (arith, count_3 v (search rules) (search rules), c.lay_three.ensures.1))

pub lay_four-requires : goal.lay_four-requires
lay_four-requires c =
    let v = c.args.v in
    (search rules, search rules, omega (arith, count_4 v (search rules) (search rules), c.requires.1), search rules)

pub returns-in-1000-to-9999 : goal.returns-in-1000-to-9999
returns-in-1000-to-9999 c =
    let v = c.args.v in
    (c.lay_four.ensures.0, omega (arith, count_4 v (search rules) (search rules), c.lay_four.ensures.1))
