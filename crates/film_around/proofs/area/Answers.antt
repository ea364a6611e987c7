-- `area` gives the pixels of a region.
use native.Mathlib.Omega.{arith}
use Rattle.film_around.proofs.Pixels.{area_few, area_is}
use Rattle.film_around.proofs.area.Goals as goal

pub overflow_mul-result : goal.overflow_mul-result
overflow_mul-result c = omega (arith, area_few c.requires c.region-rect.ensures)

pub overflow_cast-result : goal.overflow_cast-result
overflow_cast-result c = omega (arith, area_few c.requires c.region-rect.ensures)

pub returns : goal.returns
returns c = area_is c.requires c.region-rect.ensures
