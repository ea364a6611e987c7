-- `pixel_grid::axis_for` meets its contract: each entry is the answer for its index.
use mathlib.Core.Path.{ap₂}
use borrow.Author.Rules.{rules}
use Rattle.pixel_grid.specs.Grid.{edge_at_of, centre_at_of, axis_of}
use Rattle.pixel_grid.proofs.Made.{made_tab}
use Rattle.pixel_grid.proofs.axis_for.Goals as goal

pub returns : goal.returns
unfolding axis_of
returns c = ap₂ (λ x y. record { edges = x; centres = y }) (made_tab _ (edge_at_of c.args.side c.args.grid) (λ x r f' k. (search rules, search rules)) c.from_fn.ensures.items) (made_tab _ (centre_at_of c.args.side c.args.grid) (λ x r f' k. (search rules, search rules)) c.from_fn-2.ensures.items)
