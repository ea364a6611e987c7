-- `test_set::row::fed` meets its contract: a note, a base, a blank, else a digit. Assumes nothing.
use Rattle.std.proofs.Common.{arith}
use Rattle.test_set.proofs.Answers.{fed_over, fed_note, fed_hex, fed_blank, fed_digit}
use Rattle.test_set.proofs.row.fed.Goals as goal

pub returns-then-count-gt48 : goal.returns-then-count-gt48
returns-then-count-gt48 c = fed_over _ _ c.if-count-gt48.true

pub returns-in-35 : goal.returns-in-35
returns-in-35 c = fed_note _ _ (omega arith) c.in-35.is

pub returns-in-120 : goal.returns-in-120
returns-in-120 c = fed_hex _ _ (omega arith) c.in-120.is

pub returns-in-32 : goal.returns-in-32
returns-in-32 c = fed_blank _ _ (omega arith) c.in-32.is

pub returns-in_default : goal.returns-in_default
returns-in_default c = fed_digit _ _ (omega arith) c.in_default.in_default-own.rest.0.0.1 c.in_default.in_default-own.rest.0.1 c.in_default.in_default-own.rest.1 c.longer.ensures
