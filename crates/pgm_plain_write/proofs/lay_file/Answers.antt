-- The header at the front, and the lines in the part that is lent behind it. Assumes nothing.
use mathlib.Core.Path.{sym}
use Rattle.pgm_plain_write.proofs.Parts.{length_file, file_fits, file_room, file_laid}
use borrow.Author.Rules.{rules}
use Rattle.pgm_plain_write.proofs.lay_file.Goals as goal

pub lay_plain_head-header-requires : goal.lay_plain_head-header-requires
lay_plain_head-header-requires c = search (rules, file_fits c.requires)

pub slice_bounds-lay_lines-count : goal.slice_bounds-lay_lines-count
slice_bounds-lay_lines-count c = search (rules, file_fits c.requires)

pub slice_bounds-lay_lines-start : goal.slice_bounds-lay_lines-start
slice_bounds-lay_lines-start c = search (rules, file_fits c.requires)

pub lay_lines-lines-requires : goal.lay_lines-lines-requires
lay_lines-lines-requires c = file_room c.lay_plain_head-header.new.out _ _ _ _ c.requires c.lay_plain_head-header.auto.out c.lay_plain_head-header.ensures.1

pub overflow_add-result : goal.overflow_add-result
overflow_add-result c = search (rules, file_fits c.requires)

pub returns : goal.returns
returns c = (
  file_laid _ _ _ _ _ c.lay_plain_head-header.ensures.0 c.lay_plain_head-header.ensures.1 c.lay_lines-lines.ensures.0,
  rw (c.lay_plain_head-header.ensures.1, c.lay_lines-lines.ensures.1) (sym (length_file _ _ _ _)),
)
