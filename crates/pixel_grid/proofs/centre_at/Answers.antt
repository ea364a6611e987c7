-- `pixel_grid::centre_at` meets its contract: 0 behind the last centre.
use mathlib.Core.Path.{refl}
use borrow.Author.Tests.{lt-ltb, le-ltb}
use Rattle.pixel_grid.specs.Grid.{centre_at_of}
use Rattle.pixel_grid.proofs.centre_at.Goals as goal

pub returns-then-i-grid : goal.returns-then-i-grid
unfolding centre_at_of
returns-then-i-grid c = rw (lt-ltb _ _ c.if-i-grid.true) c.centre.ensures

pub returns-else-i-grid : goal.returns-else-i-grid
unfolding centre_at_of
returns-else-i-grid c = rw (le-ltb _ _ c.if-i-grid.false) refl
