-- The count of digits goes by the powers of ten. Assumes nothing.
use borrow.Author.Rules.{rules}
use Rattle.pgm_header.proofs.Writing.{count_1, count_2, count_3, count_4, count_5}
use Rattle.pgm_header.proofs.decimal_length.Goals as goal

pub returns-in-0-to-9 : goal.returns-in-0-to-9
returns-in-0-to-9 c = count_1 _ (search rules)

pub returns-in-10-to-99 : goal.returns-in-10-to-99
returns-in-10-to-99 c = count_2 _ (search rules) (search rules)

pub returns-in-100-to-999 : goal.returns-in-100-to-999
returns-in-100-to-999 c = count_3 _ (search rules) (search rules)

pub returns-in-1000-to-9999 : goal.returns-in-1000-to-9999
returns-in-1000-to-9999 c = count_4 _ (search rules) (search rules)

pub returns-in_default : goal.returns-in_default
returns-in_default c = count_5 _ (search rules) (search rules)
