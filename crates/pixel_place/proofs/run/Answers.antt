-- `pixel_place::run` meets its contract: one law for each of its three runs.
use native.Mathlib.Omega.{arith}
use Rattle.pixel_place.proofs.Places.{place_sound, run_two, run_last, run_first, length_two, length_last, length_first}
use Rattle.pixel_place.proofs.run.Goals as goal

pub returns-then-place : goal.returns-then-place
returns-then-place c = (length_two _ _ _ _ c.if-place.true, run_two c.requires.0 c.requires.1 c.requires.2 c.if-place.true)

pub overflow_add-place : goal.overflow_add-place
overflow_add-place c = rw c.requires.2 (omega (arith, (place_sound c.requires.0 c.requires.1).lower))

pub returns-then-place-grid : goal.returns-then-place-grid
returns-then-place-grid c = (length_last _ _ _ _ c.if-place.false c.if-place-grid.true, run_last c.requires.0 c.requires.1 c.requires.2 c.if-place.false c.if-place-grid.true)

pub overflow_sub-result-else-place-grid : goal.overflow_sub-result-else-place-grid
overflow_sub-result-else-place-grid c = omega (arith, c.centre.ensures, (run_first c.requires.0 c.requires.1 c.requires.2 c.if-place.false c.if-place-grid.false).0)

pub returns-else-place-grid : goal.returns-else-place-grid
returns-else-place-grid c = rw c.centre.ensures (length_first _ _ _ _ c.if-place.false c.if-place-grid.false, (run_first c.requires.0 c.requires.1 c.requires.2 c.if-place.false c.if-place-grid.false).1)
