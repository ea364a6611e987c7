-- `pixel_grid::edge_at` meets its contract: 0 behind the last edge.
use mathlib.Core.Path.{refl}
use borrow.Author.Tests.{le-leb, lt-leb}
use Rattle.pixel_grid.specs.Grid.{edge_at_of}
use Rattle.pixel_grid.proofs.edge_at.Goals as goal

pub returns-then-i-grid : goal.returns-then-i-grid
unfolding edge_at_of
returns-then-i-grid c = rw (le-leb _ _ c.if-i-grid.true) c.edge.ensures

pub returns-else-i-grid : goal.returns-else-i-grid
unfolding edge_at_of
returns-else-i-grid c = rw (lt-leb _ _ c.if-i-grid.false) refl
