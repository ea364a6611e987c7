-- `byte_render::render` meets its contract: the rows passed are rendered, those ahead are as they were.
use mathlib.Core.Path.{◌≡◌}
use lib.ListN.{length}
use Rattle.base_lists.specs.Lists.{blocks}
use Rattle.pixel_render.proofs.Strips.{strip}
use Rattle.byte_render.proofs.render.Given as goal

abbrev pub invariant-loop-j : goal.invariant-loop-j
invariant-loop-j l = (length l.pixels ≡ length l.initial.pixels) × (length l.line ≡ length l.initial.line) × (length l.table ≡ length l.initial.table) × (l.pixels ≡ blocks l.win.width (strip l.width l.height l.s l.map l.win l.initial.pixels) l.initial.pixels l.j)
