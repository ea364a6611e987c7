-- `keep` copies the part around 64 pixels of a row.
use native.Mathlib.Omega.{arith}
use Rattle.film_around.proofs.Parts.{part_room, copy_size, copy_asks, kept_size, copy_long, part_kept}
use Rattle.film_around.proofs.keep.Goals as goal

pub slice_bounds-copy_window-end : goal.slice_bounds-copy_window-end
slice_bounds-copy_window-end c = omega (arith, part_room c.requires.0.region c.part_of-win.ensures, c.requires.1)

pub slice_bounds-copy_window-end-2 : goal.slice_bounds-copy_window-end-2
slice_bounds-copy_window-end-2 c = copy_size c.args.picture.now c.requires.0 c.part_of-win.ensures c.args.part.now c.requires.1

pub copy_window-requires : goal.copy_window-requires
copy_window-requires c = copy_asks c.args.picture.now c.requires.0 c.part_of-win.ensures c.args.part.now c.requires.1

pub slice_bounds-span_of-end : goal.slice_bounds-span_of-end
slice_bounds-span_of-end c = omega (arith, part_room c.requires.0.region c.part_of-win.ensures, c.requires.1)

pub slice_bounds-span_of-end-2 : goal.slice_bounds-span_of-end-2
slice_bounds-span_of-end-2 c = kept_size c.args.picture.now c.requires.0 c.part_of-win.ensures c.args.part.now c.requires.1 c.copy_window.ensures

pub returns : goal.returns
returns c = (part_kept c.args.picture.now c.requires.0 c.part_of-win.ensures c.args.part.now c.requires.1 c.copy_window.ensures c.requires.2, copy_long c.args.picture.now c.requires.0 c.part_of-win.ensures c.args.part.now c.requires.1 c.copy_window.ensures)
