-- The part behind the header, its bytes and its place. Assumes nothing.
use mathlib.Core.Path.{refl, sym, ◌∙◌}
use native.Mathlib.Nat.{zero-add}
use Rattle.pgm_raster.proofs.Tables.{part_tail}
use Rattle.pgm_read.proofs.Tables.{read_within}
use Rattle.pgm_read.proofs.read_raster.Goals as goal

pub slice_bounds-result-count : goal.slice_bounds-result-count
slice_bounds-result-count c = read_within _ (sym c.in-Ok.ensures)

pub slice_bounds-result-start : goal.slice_bounds-result-start
slice_bounds-result-start c = read_within _ (sym c.in-Ok.ensures)

pub returns-in-Ok : goal.returns-in-Ok
returns-in-Ok c = rw (← c.in-Ok.ensures) (part_tail c.args.bytes.now _, refl)

pub returns-in-Err : goal.returns-in-Err
returns-in-Err c = rw (← c.in-Err.ensures, zero-add) (refl, refl)
