-- `test_set::film::own` meets its contract: a film has no column of its own here. Assumes nothing.
use Rattle.test_set.proofs.Answers.{own_whole, own_at}
use Rattle.test_set.proofs.film.own.Goals as goal

pub returns-then-is_film : goal.returns-then-is_film
returns-then-is_film c = own_whole _ _ _ (cc)

pub returns : goal.returns
returns c = own_at _ _ _ (cc) c.at.ensures
