-- `pixel` gives the grey of a pixel by the rule.
use mathlib.Core.Path.{refl, ◌∙◌}
use Rattle.film_direct.proofs.Pixels.{behind_next, upper_left, upper_right, lower_left, lower_right, blend_asks, pixel_is}
use Rattle.film_direct.proofs.pixel.Goals as goal

pub tile_value-a-requires : goal.tile_value-a-requires
tile_value-a-requires c = upper_left c.requires c.locate-column.ensures c.locate-row.ensures c.bin_at-k.ensures refl

pub tile_value-b-requires : goal.tile_value-b-requires
tile_value-b-requires c = upper_right c.requires c.locate-column.ensures c.locate-row.ensures c.bin_at-k.ensures c.tile_value-a.ensures.0.size

pub tile_value-c-requires : goal.tile_value-c-requires
tile_value-c-requires c = lower_left c.requires c.locate-column.ensures c.locate-row.ensures c.bin_at-k.ensures (c.tile_value-b.ensures.0.size ∙ c.tile_value-a.ensures.0.size)

pub tile_value-d-requires : goal.tile_value-d-requires
tile_value-d-requires c = lower_right c.requires c.locate-column.ensures c.locate-row.ensures c.bin_at-k.ensures (c.tile_value-c.ensures.0.size ∙ (c.tile_value-b.ensures.0.size ∙ c.tile_value-a.ensures.0.size))

pub grey_by-requires : goal.grey_by-requires
grey_by-requires c = blend_asks c.requires c.locate-column.ensures c.locate-row.ensures c.bin_at-k.ensures c.tile_value-a.ensures.1 c.tile_value-b.ensures.1 c.tile_value-c.ensures.1 c.tile_value-d.ensures.1

pub returns : goal.returns
returns c = (behind_next (behind_next (behind_next c.tile_value-a.ensures.0 c.tile_value-b.ensures.0) c.tile_value-c.ensures.0) c.tile_value-d.ensures.0, pixel_is c.requires c.locate-column.ensures c.locate-row.ensures c.bin_at-k.ensures c.tile_value-a.ensures.1 c.tile_value-b.ensures.1 c.tile_value-c.ensures.1 c.tile_value-d.ensures.1 c.grey_by.ensures)
