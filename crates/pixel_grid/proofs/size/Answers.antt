-- `pixel_grid::size` meets its contract: edges rise.
use Prim.Native.Nat.{◌-◌}
use mathlib.Core.Path.{ap₂}
use native.Mathlib.Omega.{arith}
use Rattle.pixel_grid.specs.Grid.{size_of}
use Rattle.pixel_grid.proofs.Edges.{edge_rises}
use Rattle.pixel_grid.proofs.size.Goals as goal

pub overflow_sub-result : goal.overflow_sub-result
overflow_sub-result c = omega (arith, c.edge.ensures, c.edge-first.ensures, edge_rises c.requires.0 c.args.i)

pub returns : goal.returns
unfolding size_of
returns c = ap₂ (λ x y. y - x) c.edge-first.ensures c.edge.ensures
