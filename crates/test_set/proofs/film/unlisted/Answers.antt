-- `test_set::film::unlisted` meets its contract: no list. Assumes nothing.
use Rattle.test_set.proofs.film.unlisted.Goals as goal

pub returns : goal.returns
returns c = cc
