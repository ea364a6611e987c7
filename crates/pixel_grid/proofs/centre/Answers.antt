-- `pixel_grid::centre` meets its contract: edges are small enough that their sum fits.
use Prim.Native.Nat.{◌+◌, ◌/◌}
use mathlib.Core.Path.{ap₂}
use native.Mathlib.Omega.{arith}
use Rattle.pixel_grid.specs.Grid.{centre_of}
use Rattle.pixel_grid.proofs.Edges.{edge_most}
use Rattle.pixel_grid.proofs.centre.Goals as goal

pub overflow_add-result : goal.overflow_add-result
overflow_add-result c = omega (arith, c.edge-behind.ensures, c.edge-first.ensures, edge_most c.requires.0 c.args.i (omega arith), edge_most c.requires.0 (c.args.i + 1) (omega arith))

pub returns : goal.returns
unfolding centre_of
returns c = ap₂ (λ x y. (x + y) / 2) c.edge-first.ensures c.edge-behind.ensures
