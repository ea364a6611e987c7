-- `pixel_grid::edge` meets its contract: a grid of 8 is divided by as such.
use Prim.Native.Nat.{◌*◌, ◌/◌}
use mathlib.Core.Path.{refl, sym, ap}
use Rattle.pixel_grid.specs.Grid.{edge_of}
use Rattle.pixel_grid.proofs.edge.Goals as goal

pub returns-then-grid-eq8 : goal.returns-then-grid-eq8
unfolding edge_of
returns-then-grid-eq8 c = ap (λ n. c.args.i * c.args.side / n) (sym c.if-grid-eq8.true)

pub returns-else-grid-eq8 : goal.returns-else-grid-eq8
unfolding edge_of
returns-else-grid-eq8 c = refl
