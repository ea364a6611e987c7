-- `value_ours` gives the value by the limit of the setting.
use native.Mathlib.Omega.{arith}
use Rattle.tile_value.proofs.Values.{span_bins, span_limit, span_limited, span_ours}
use Rattle.tile_value.proofs.value_ours.Goals as goal

pub overflow_cast-bins : goal.overflow_cast-bins
overflow_cast-bins c = omega (arith, span_bins c.requires c.in-Factor.is)

pub limit-most-requires : goal.limit-most-requires
limit-most-requires c = span_limit c.requires c.in-Factor.is

pub value_limited-requires : goal.value_limited-requires
value_limited-requires c = span_limited c.requires c.in-Factor.is c.limit-most.ensures

pub returns-in-Factor : goal.returns-in-Factor
returns-in-Factor c = span_ours c.requires c.in-Factor.is c.limit-most.ensures c.value_limited.ensures
