-- `tile_count::places_even` meets its contract: the entries passed hold the places.
use mathlib.Core.Path.{◌≡◌}
use mathlib.Core.List.{map}
use lib.ListN.{get_or}
use Rattle.base_lists.specs.Lists.{filled}
use Rattle.tile_count.specs.Tally.{place_in}
use Rattle.tile_count.proofs.places_even.Given as goal

abbrev pub invariant-loop-x : goal.invariant-loop-x
invariant-loop-x g l = l.line ≡ filled (λ i. place_in l.by (get_or (map g.T.Grey.value l.row) i 0)) l.initial.line l.x
