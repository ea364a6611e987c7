-- `value` meets its contract: the counts are clipped, and the sum up to the bin is mapped.
use native.Mathlib.Omega.{arith}
use Rattle.tile_value.proofs.Values.{value_some, value_sum_asks, value_product, value_quotient, value_given}
use Rattle.tile_value.proofs.value.Goals as goal

pub through-sum-requires : goal.through-sum-requires
through-sum-requires c = value_sum_asks _ c.requires c.clip_by-whole.ensures

pub overflow_mul-result : goal.overflow_mul-result
overflow_mul-result c = omega (arith, value_product _ c.requires c.clip_by-whole.ensures c.through-sum.ensures)

pub nonzero_div-result : goal.nonzero_div-result
nonzero_div-result c = omega (arith, value_some _ c.requires c.clip_by-whole.ensures)

pub overflow_cast-result-2 : goal.overflow_cast-result-2
overflow_cast-result-2 c = omega (arith, value_quotient _ c.requires c.clip_by-whole.ensures c.through-sum.ensures)

pub overflow_add-result : goal.overflow_add-result
overflow_add-result c = omega (arith, value_quotient _ c.requires c.clip_by-whole.ensures c.through-sum.ensures, c.requires.order, c.requires.most)

pub returns : goal.returns
returns c = value_given _ c.requires c.clip_by-whole.ensures c.through-sum.ensures
