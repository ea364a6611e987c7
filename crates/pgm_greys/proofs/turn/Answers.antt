-- The raster's part of the bytes, handed on to the unpacker. Assumes nothing.
use mathlib.Core.Path.{ap, ◌∙◌}
use Rattle.base_lists.specs.Lists.{onto}
use Rattle.pgm_greys.proofs.Parts.{part_length, part_greys}
use Rattle.pgm_greys.proofs.turn.Goals as goal

pub unpack-requires : goal.unpack-requires
unpack-requires c = record { exact = part_length _ _ _ _ _ c.requires.raster c.is_wide-wide.ensures c.raster_size.ensures; room = c.requires.fitting }

pub returns : goal.returns
returns c = c.unpack.ensures ∙ ap (onto _) (part_greys _ _ _ _ _ c.requires.raster c.is_wide-wide.ensures c.raster_size.ensures)
