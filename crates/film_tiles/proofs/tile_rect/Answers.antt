-- `tile_rect` gives the rectangle of tile k: its column's edge and size across, its row's down.
use mathlib.Core.Path.{refl}
use native.Mathlib.Omega.{arith}
use Rattle.film_tiles.specs.Tiles.{tile_rect_of}
use Rattle.film_tiles.proofs.Tiles.{tile_column, tile_row}
use Rattle.film_tiles.proofs.tile_rect.Goals as goal

pub overflow_cast-i : goal.overflow_cast-i
overflow_cast-i c = omega (arith, tile_column c.requires, c.requires.columns.few)

pub overflow_cast-j : goal.overflow_cast-j
overflow_cast-j c = omega (arith, tile_row c.requires, c.requires.rows.few)

pub edge-left-requires : goal.edge-left-requires
edge-left-requires c = (c.requires.columns, omega (arith, tile_column c.requires))

pub edge-top-requires : goal.edge-top-requires
edge-top-requires c = (c.requires.rows, omega (arith, tile_row c.requires))

pub size-wide-requires : goal.size-wide-requires
size-wide-requires c = (c.requires.columns, tile_column c.requires)

pub size-high-requires : goal.size-high-requires
size-high-requires c = (c.requires.rows, tile_row c.requires)

pub returns : goal.returns
unfolding tile_rect_of
returns c = rw (c.edge-left.ensures, c.edge-top.ensures, c.size-wide.ensures, c.size-high.ensures) refl
