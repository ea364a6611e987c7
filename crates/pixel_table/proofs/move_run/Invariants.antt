-- `pixel_table::move_run` meets its contract: the pixels passed are rendered, those ahead hold their bins.
use Prim.Native.Nat.{◌*◌}
use mathlib.Core.Path.{◌≡◌}
use Rattle.base_lists.specs.Lists.{filled}
use Rattle.pixel_table.proofs.Turns.{moved_on_lem}
use Rattle.pixel_table.proofs.move_run.Given as goal

abbrev pub invariant-loop-n : goal.invariant-loop-n
invariant-loop-n g l = l.pixels ≡ filled (moved_on_lem (g.D.Divide.by l.divide) l.table l.from l.most l.initial.pixels) l.initial.pixels (l.n * 4)
