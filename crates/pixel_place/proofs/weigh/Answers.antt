-- `pixel_place::weigh` meets its contract: sound places keep each weighted sum in 64 bits.
use native.Mathlib.Omega.{arith}
use Rattle.pixel_place.proofs.Laws.{weigh_most}
use Rattle.pixel_place.proofs.weigh.Goals as goal

pub overflow_add-result : goal.overflow_add-result
overflow_add-result c = omega (arith, weigh_most c.requires.1 (weigh_most c.requires.0 c.requires.2 c.requires.3) (weigh_most c.requires.0 c.requires.4 c.requires.5))
