-- `test_set::film::listed` meets its contract: the list's digest and its line. Assumes nothing.
use Rattle.test_set.proofs.film.listed.Goals as goal

pub returns : goal.returns
returns c = cc
