-- `test_set::row::looked` meets its contract: another line's end starts a fresh line. Assumes nothing.
use Rattle.std.proofs.Common.{arith}
use Rattle.test_set.proofs.Answers.{looked_fed, looked_letter, looked_number, looked_film}
use Rattle.test_set.proofs.row.looked.Goals as goal

pub returns-then-b-ne10 : goal.returns-then-b-ne10
returns-then-b-ne10 c = looked_fed _ _ _ c.if-b-ne10.true c.fed.ensures

pub returns-then-at-ne-FILM : goal.returns-then-at-ne-FILM
returns-then-at-ne-FILM c = looked_letter _ _ _ (omega arith) (λ e. c.if-at-ne-FILM.true (cc)) c.fresh.ensures

pub returns-then-at-no : goal.returns-then-at-no
returns-then-at-no c = looked_number _ _ _ (omega arith) (cc) (λ e. c.if-at-no.true (cc)) (cc)

pub returns : goal.returns
returns c = looked_film _ _ _ (omega arith) (cc) (cc)
