-- `pixel_place::quotient` meets its contract: the product with the factor stays in 64 bits, and its quotient is that of the division.
use native.Mathlib.Omega.{arith}
use Rattle.pixel_place.proofs.Laws.{spans_some, factor_room, factor_divides}
use Rattle.pixel_place.proofs.quotient.Goals as goal

pub overflow_mul-result-else-factor-eq0 : goal.overflow_mul-result-else-factor-eq0
overflow_mul-result-else-factor-eq0 c = omega (arith, factor_room _ _ _ c.requires.3 (omega (arith, c.if-factor-eq0.false)) c.requires.2)

pub returns-else-factor-eq0 : goal.returns-else-factor-eq0
returns-else-factor-eq0 c = factor_divides _ _ _ c.requires.3 (spans_some c.requires.0 c.requires.1) (omega (arith, c.if-factor-eq0.false)) c.requires.2
