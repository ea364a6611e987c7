-- `tile_pixels` gives the pixels of tile k.
use mathlib.Core.Path.{ap, ◌∙◌}
use lib.Dec.{lit<}
use native.Mathlib.Nat.{lt_of_le_of_lt}
use Prim.Native.Nat.{◌*◌}
use Rattle.tile_count.specs.declared.Rect.{Rect}
use Rattle.film_tiles.proofs.Tiles.{rect_asks, tile_area, tile_pixels_most}
use Rattle.film_tiles.proofs.tile_pixels.Goals as goal

pub tile_rect-tile-requires : goal.tile_rect-tile-requires
tile_rect-tile-requires c = rect_asks c.requires.0 c.requires.1

pub overflow_mul-result : goal.overflow_mul-result
overflow_mul-result c = rw (c.tile_rect-tile.ensures, tile_area _ _ _ _ _) record { fits = lt_of_le_of_lt (tile_pixels_most c.requires.0 c.requires.1) (lit< tt) }

pub overflow_cast-result : goal.overflow_cast-result
overflow_cast-result c = rw (c.tile_rect-tile.ensures, tile_area _ _ _ _ _) record { fits = lt_of_le_of_lt (tile_pixels_most c.requires.0 c.requires.1) (lit< tt) }

pub returns : goal.returns
returns c = ap (λ (r : Rect). r.width * r.height) c.tile_rect-tile.ensures ∙ tile_area _ _ _ _ _
