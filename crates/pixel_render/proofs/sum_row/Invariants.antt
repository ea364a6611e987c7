-- `pixel_render::sum_row` meets its contract: the pixels passed are rendered, those ahead hold their bins.
use Prim.Native.Nat.{◌≤◌, ◌-◌}
use mathlib.Core.Path.{◌≡◌}
use lib.ListN.{length}
use Rattle.base_lists.specs.Lists.{filled}
use Rattle.pixel_render.proofs.Counts.{Moving}
use Rattle.pixel_render.proofs.Summing.{weighs}
use Rattle.pixel_render.proofs.sum_row.Given as goal

abbrev pub invariant-loop-at : goal.invariant-loop-at
invariant-loop-at l =
    (l.at ≤ length l.initial.pixels)
    × (l.pixels ≡ filled (weighs l.width l.s l.map l.left l.row l.initial.pixels) l.initial.pixels l.at)
    × Moving l.width l.s l.left (length l.initial.table) l.initial.pixels l.at l.moved

abbrev pub decreases-loop-at : goal.decreases-loop-at
decreases-loop-at l = length l.initial.pixels - l.at
