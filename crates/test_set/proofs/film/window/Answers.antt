-- `test_set::film::window` meets its contract: the window of the row. Assumes nothing.
use Rattle.test_set.specs.Filmset.{window_of}
use Rattle.test_set.proofs.film.window.Goals as goal

pub returns : goal.returns
unfolding window_of
returns c = cc
