-- `start` counts the first region of a row.
use mathlib.Core.Path.{refl}
use Rattle.film_around.proofs.Pixels.{start_count, start_held}
use Rattle.film_around.proofs.start.Goals as goal

pub count-requires : goal.count-requires
count-requires c = start_count c.requires c.region-rect.ensures

pub returns : goal.returns
returns c = start_held c.requires c.region-rect.ensures _ refl c.count.ensures
