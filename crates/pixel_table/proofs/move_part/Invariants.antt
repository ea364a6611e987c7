-- `pixel_table::move_part` meets its contract: the pixels passed are rendered, those ahead hold their bins.
use mathlib.Core.Path.{◌≡◌}
use Rattle.pixel_table.specs.Table.{patch_of, moved_by}
use Rattle.pixel_table.proofs.move_part.Given as goal

abbrev pub invariant-loop-i : goal.invariant-loop-i
invariant-loop-i g l = l.pixels ≡ patch_of (moved_by (g.D.Divide.by l.divide) l.table l.from l.most) l.initial.pixels l.at l.i
