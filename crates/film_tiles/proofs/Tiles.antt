-- Where a film's tiles lie, and how many pixels they have.
-- Assumes nothing.
use Prim.Native.Nat.{ℕ, ◌+◌, ◌*◌, ◌/◌, ◌%◌, ◌≤◌, ◌<◌}
use mathlib.Core.List.{List}
use mathlib.Core.Path.{◌≡◌, refl, ◌∙◌}
use native.Mathlib.Nat.{mod-lt, mul_comm, mul-le-mul, mul-le-mul_right, mul-pos, div-lt_iff_lt-mul}
use native.Mathlib.Omega.{arith}
use lib.ListN.{length}
use Rattle.pixel_grid.specs.Grid.{edge_of, size_of}
use Rattle.pixel_grid.proofs.Edges.{size_inside, size_some, size_most}
use Rattle.tile_count.specs.Tally.{greys_of, Inside}
use Rattle.tile_count.proofs.Greys.{length_greys}
use Rattle.film_settings.specs.declared.Settings.{Settings}
use Rattle.film_settings.specs.Settings.{Tiled}
use Rattle.film_settings.proofs.Records.{tiled_columns, tiled_rows}
use Rattle.film_tiles.specs.Tiles.{tile_rect_of, tile_pixels, tile_of, pixels_in, TileRectAsks}

-- a tile's area is its pixels
pub tile_area : (w h across down k : ℕ) → (tile_rect_of w h across down k).width * (tile_rect_of w h across down k).height ≡ tile_pixels w h across down k
unfolding tile_pixels
tile_area w h across down k = refl

-- it starts at the edges of its column and row, and has their sizes
module _ (w h across down k : ℕ) where
  pub tile_left : (tile_rect_of w h across down k).left ≡ edge_of w across (k % across)
  unfolding tile_rect_of
  tile_left = refl

  pub tile_top : (tile_rect_of w h across down k).top ≡ edge_of h down (k / across)
  unfolding tile_rect_of
  tile_top = refl

  pub tile_width_lem : (tile_rect_of w h across down k).width ≡ size_of w across (k % across)
  unfolding tile_rect_of
  tile_width_lem = refl

  pub tile_height_lem : (tile_rect_of w h across down k).height ≡ size_of h down (k / across)
  unfolding tile_rect_of
  tile_height_lem = refl

  -- and a rectangle that does is the tile's
  pub tile_is : {left top width height : ℕ} → edge_of w across (k % across) ≡ left → edge_of h down (k / across) ≡ top → size_of w across (k % across) ≡ width
      → size_of h down (k / across) ≡ height
      → tile_rect_of w h across down k ≡ record { left = left; top = top; width = width; height = height }
  unfolding tile_rect_of
  tile_is a b c d = rw (a, b, c, d) refl

-- and it has as many greys
pub length_tile_greys : (w h : ℕ) (pic : List ℕ) (s : Settings) (k : ℕ) → length (greys_of pic w (tile_of w h s k)) ≡ pixels_in w h s k
length_tile_greys w h pic s k = length_greys pic w (tile_of w h s k) ∙ tile_area w h s.across s.down k

-- ---- the column and the row of a tile

module _ {w h across down k : ℕ} (asks : TileRectAsks w h across down k) where
  some : 0 < across
  some = omega (arith, asks.columns.some)

  -- tile k is in one of the tile columns
  pub tile_column : k % across < across
  tile_column = mod-lt k some

  -- and in one of the tile rows
  pub tile_row : k / across < down
  tile_row = (div-lt_iff_lt-mul {x = k} {y = down} some).1 (omega (arith, asks.tile, mul_comm across down))

module _ {w h : ℕ} {s : Settings} (tiled : Tiled w h s) where
  -- there are four tiles at least
  pub tiles_least : 4 ≤ s.across * s.down
  tiles_least = mul-le-mul tiled.across tiled.down

  -- and at most 256
  pub tiles_most : s.across * s.down ≤ 256
  tiles_most = mul-le-mul tiled.acrossmost tiled.downmost

  module _ {k : ℕ} (l : k < s.across * s.down) where
    -- what a tile's rectangle asks
    pub rect_asks : TileRectAsks w h s.across s.down k
    rect_asks = record { columns = tiled_columns tiled; rows = tiled_rows tiled; tile = l }

    -- it ends inside the film, across
    wide_inside : edge_of w s.across (k % s.across) + size_of w s.across (k % s.across) ≤ w
    wide_inside = size_inside (tiled_columns tiled) (k % s.across) (tile_column rect_asks)

    -- and down
    high_inside : edge_of h s.down (k / s.across) + size_of h s.down (k / s.across) ≤ h
    high_inside = size_inside (tiled_rows tiled) (k / s.across) (tile_row rect_asks)

    -- a tile has at most 2048 x 2048 pixels
    pub tile_pixels_most : pixels_in w h s k ≤ 4194304
    unfolding tile_pixels tile_rect_of
    tile_pixels_most = mul-le-mul (size_most (tiled_columns tiled) (k % s.across)) (size_most (tiled_rows tiled) (k / s.across))

    -- at most the film's
    pub tile_pixels_film : pixels_in w h s k ≤ w * h
    unfolding tile_pixels tile_rect_of
    tile_pixels_film =
        let wide : size_of w s.across (k % s.across) ≤ w = omega (arith, wide_inside) in
        let high : size_of h s.down (k / s.across) ≤ h = omega (arith, high_inside) in
        mul-le-mul wide high

    -- and one at least
    pub tile_pixels_some : 0 < pixels_in w h s k
    unfolding tile_pixels tile_rect_of
    tile_pixels_some = mul-pos (size_some (tiled_columns tiled) (k % s.across)) (size_some (tiled_rows tiled) (k / s.across))

    -- it lies inside the film
    pub tile_inside : {size : ℕ} → size ≡ w * h → Inside size w (tile_of w h s k)
    unfolding tile_pixels tile_rect_of
    tile_inside whole =
        record {
          across = wide_inside;
          down = omega (arith, mul-le-mul_right w high_inside, mul_comm w h, whole);
          some = tile_pixels_some;
          few = tile_pixels_most;
        }
