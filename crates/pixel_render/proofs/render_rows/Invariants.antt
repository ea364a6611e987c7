-- `pixel_render::render_rows` meets its contract: the rows passed are rendered, those ahead are as they were.
use Prim.Native.Nat.{◌*◌, ◌≤◌}
use mathlib.Core.Path.{◌≡◌}
use lib.ListN.{length}
use Rattle.base_lists.specs.Lists.{sum, blocks}
use Rattle.pixel_render.proofs.Strips.{strip, strip_moves}
use Rattle.pixel_render.proofs.render_rows.Given as goal

abbrev pub invariant-loop-j : goal.invariant-loop-j
invariant-loop-j l =
    (l.pixels ≡ blocks l.win.width (strip l.width l.height l.s l.map l.win l.initial.pixels) l.initial.pixels l.j)
    × (l.moved ≡ sum l.j (strip_moves l.width l.s l.win (length l.initial.table) l.initial.pixels))
    × (l.moved ≤ l.j * l.win.width)
