-- `value_limited` gives the value where the bins of the part tell it.
use native.Mathlib.Omega.{arith}
use Rattle.tile_value.proofs.Values.{limited_span, limited_through, limited_most, limited_product, limited_quotient, limited_given}
use Rattle.tile_value.proofs.value_limited.Goals as goal

pub clip_span-requires : goal.clip_span-requires
clip_span-requires c = limited_span c.requires

pub through-requires : goal.through-requires
through-requires c = limited_through c.requires c.in-Some.ensures

pub overflow_add-sum : goal.overflow_add-sum
overflow_add-sum c = omega (arith, limited_most c.requires c.in-Some.ensures c.through.ensures, c.requires.counted.few_pixels)

pub overflow_mul-result : goal.overflow_mul-result
overflow_mul-result c = omega (arith, limited_product c.requires c.in-Some.ensures c.through.ensures)

pub overflow_cast-result-2 : goal.overflow_cast-result-2
overflow_cast-result-2 c = omega (arith, limited_quotient c.requires c.in-Some.ensures c.through.ensures, c.requires.top)

pub overflow_add-result : goal.overflow_add-result
overflow_add-result c = omega (arith, limited_quotient c.requires c.in-Some.ensures c.through.ensures, c.requires.top, c.requires.order)

pub returns : goal.returns
returns c = limited_given c.requires c.in-Some.ensures c.through.ensures
