-- `found_whole` gives the value by all counts.
use mathlib.Core.Path.{◌∙◌}
use Rattle.film_around.proofs.Twins.{within_twin}
use Rattle.film_around.proofs.Finds.{whole_found}
use Rattle.film_around.proofs.found_whole.Goals as goal

pub returns : goal.returns
returns c = whole_found c.requires (c.copy_within.ensures.after ∙ within_twin _ _ c.requires.room) c.value.ensures
