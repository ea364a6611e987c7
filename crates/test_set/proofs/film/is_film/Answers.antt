-- `test_set::film::is_film` meets its contract: the letter is F. Assumes nothing.
use Rattle.test_set.proofs.film.is_film.Goals as goal

pub returns : goal.returns
returns c = cc
