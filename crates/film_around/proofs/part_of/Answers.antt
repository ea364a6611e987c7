-- `part_of` gives the part of the film around 64 pixels of a row.
use native.Mathlib.Omega.{arith}
use Rattle.film_around.proofs.Parts.{part_is}
use Rattle.film_around.proofs.part_of.Goals as goal

pub overflow_add-right : goal.overflow_add-right
overflow_add-right c = omega (arith, part_is c.requires c.last_of.ensures c.region-first.ensures c.region-last.ensures)

pub overflow_cast-result : goal.overflow_cast-result
overflow_cast-result c = omega (arith, part_is c.requires c.last_of.ensures c.region-first.ensures c.region-last.ensures)

pub overflow_cast-result-2 : goal.overflow_cast-result-2
overflow_cast-result-2 c = omega (arith, part_is c.requires c.last_of.ensures c.region-first.ensures c.region-last.ensures)

pub overflow_sub-result : goal.overflow_sub-result
overflow_sub-result c = omega (arith, part_is c.requires c.last_of.ensures c.region-first.ensures c.region-last.ensures)

pub overflow_cast-result-3 : goal.overflow_cast-result-3
overflow_cast-result-3 c = omega (arith, part_is c.requires c.last_of.ensures c.region-first.ensures c.region-last.ensures)

pub overflow_cast-result-4 : goal.overflow_cast-result-4
overflow_cast-result-4 c = omega (arith, part_is c.requires c.last_of.ensures c.region-first.ensures c.region-last.ensures)

pub returns : goal.returns
returns c = let p = part_is c.requires c.last_of.ensures c.region-first.ensures c.region-last.ensures in record { left = p.0; top = p.1; right = omega (arith, p); bottom = omega (arith, p) }
