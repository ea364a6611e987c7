-- The header at the front, and the raster in the part that is lent behind it. Assumes nothing.
use mathlib.Core.Path.{sym}
use Rattle.pgm_write.proofs.Tables.{length_file}
use Rattle.pgm_write.proofs.Parts.{file_fits, file_room, file_laid}
use borrow.Author.Rules.{rules}
use Rattle.pgm_write.proofs.lay_file.Goals as goal

pub write_header-header-requires : goal.write_header-header-requires
write_header-header-requires c = search (rules, file_fits c.requires)

pub slice_bounds-pack-count : goal.slice_bounds-pack-count
slice_bounds-pack-count c = search (rules, file_fits c.requires)

pub slice_bounds-pack-start : goal.slice_bounds-pack-start
slice_bounds-pack-start c = search (rules, file_fits c.requires)

pub pack-requires : goal.pack-requires
pack-requires c = file_room c.write_header-header.new.out _ _ _ _ c.requires c.write_header-header.auto.out c.write_header-header.ensures.1

pub overflow_add-result : goal.overflow_add-result
overflow_add-result c = search (rules, file_fits c.requires)

pub returns : goal.returns
returns c = (file_laid _ _ _ _ _ c.write_header-header.ensures.0 c.write_header-header.ensures.1 c.pack.ensures, rw (c.write_header-header.ensures.1, c.raster_size.ensures) (sym (length_file _ _ _ _ c.requires.film.whole)))
