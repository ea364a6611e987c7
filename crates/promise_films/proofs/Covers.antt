-- Order 6: every pixel of a film lies in exactly one of its tiles, which differ by at most one pixel in width and in height.
-- Assumes nothing.
use Prim.Native.Nat.{ℕ, ◌+◌, ◌-◌, ◌*◌, ◌/◌, ◌%◌, ◌≤◌, ◌<◌}
use mathlib.Core.Path.{◌≡◌, refl, sym, ap₂, ◌∙◌}
use native.Mathlib.Nat.{mul_comm, div-add-mod'}
use native.Mathlib.Omega.{arith}
use lib.Arith.{digits_lt, digits_div, digits_mod}
use Rattle.pixel_grid.specs.Grid.{edge_of, Fits}
use Rattle.pixel_grid.proofs.Edges.{size_ends, size_near, tile_in, tile_starts, tile_ends, tile_one}
use Rattle.film_settings.specs.declared.Settings.{Settings}
use Rattle.film_settings.specs.Settings.{Tiled}
use Rattle.film_settings.proofs.Records.{tiled_columns, tiled_rows}
use Rattle.film_tiles.specs.Tiles.{tile_of}
use Rattle.film_tiles.proofs.Tiles.{tile_left, tile_top, tile_width_lem, tile_height_lem}
use Rattle.pixel_rule.specs.Reach.{LiesIn}
use Rattle.promise_films.specs.Films.{InOneTile}

-- a pixel lies in tile k where its column and its row lie between the edges of the tile's
module _ {w h : ℕ} {s : Settings} (tiled : Tiled w h s) (x y k : ℕ) where
  columns : Fits w s.across
  columns = tiled_columns tiled

  rows : Fits h s.down
  rows = tiled_rows tiled

  -- where tile k ends
  right : (tile_of w h s k).left + (tile_of w h s k).width ≡ edge_of w s.across (k % s.across + 1)
  right = rw (tile_left w h s.across s.down k, tile_width_lem w h s.across s.down k) (size_ends columns (k % s.across))

  bottom : (tile_of w h s k).top + (tile_of w h s k).height ≡ edge_of h s.down (k / s.across + 1)
  bottom = rw (tile_top w h s.across s.down k, tile_height_lem w h s.across s.down k) (size_ends rows (k / s.across))

  lies : edge_of w s.across (k % s.across) ≤ x → x < edge_of w s.across (k % s.across + 1)
      → edge_of h s.down (k / s.across) ≤ y → y < edge_of h s.down (k / s.across + 1) → LiesIn x y (tile_of w h s k)
  lies a b c d =
      record {
        left = omega (arith, tile_left w h s.across s.down k);
        right = omega (arith, right);
        top = omega (arith, tile_top w h s.across s.down k);
        bottom = omega (arith, bottom);
      }

  -- and only there
  lies_column : LiesIn x y (tile_of w h s k) → (edge_of w s.across (k % s.across) ≤ x) × (x < edge_of w s.across (k % s.across + 1))
  lies_column l = (omega (arith, l.left, tile_left w h s.across s.down k), omega (arith, l.right, right))

  lies_row : LiesIn x y (tile_of w h s k) → (edge_of h s.down (k / s.across) ≤ y) × (y < edge_of h s.down (k / s.across + 1))
  lies_row l = (omega (arith, l.top, tile_top w h s.across s.down k), omega (arith, l.bottom, bottom))

-- "Tile column i shall run from floor(i x width / grid) up to floor((i + 1) x width / grid), rows likewise": no pixel is left out, and none is in two tiles
pub tiles_cover : {w h : ℕ} {s : Settings} → Tiled w h s → (x y : ℕ) → x < w → y < h → InOneTile w h s x y
tiles_cover {w} {h} {s} tiled x y l m =
    record {
      tile = j * s.across + i;
      below = omega (arith, digits_lt {q = j} {m = s.down} {r = i} {c = s.across} down across, mul_comm s.across s.down);
      lies =
          lies tiled x y (j * s.across + i) (rw column (tile_starts (tiled_columns tiled) l refl)) (rw column (tile_ends (tiled_columns tiled) l refl))
          (rw row (tile_starts (tiled_rows tiled) m refl))
          (rw row (tile_ends (tiled_rows tiled) m refl));
      only = λ k _ r. sym (div-add-mod' k s.across) ∙ ap₂ (λ a b. a * s.across + b) (same_row k r) (same_column k r);
    }
  where
    i : ℕ
    i = ((x + 1) * s.across - 1) / w

    j : ℕ
    j = ((y + 1) * s.down - 1) / h

    across : i < s.across
    across = tile_in (tiled_columns tiled) l refl

    down : j < s.down
    down = tile_in (tiled_rows tiled) m refl

    column : (j * s.across + i) % s.across ≡ i
    column = digits_mod j across

    row : (j * s.across + i) / s.across ≡ j
    row = digits_div j across

    same_column : (k : ℕ) → LiesIn x y (tile_of w h s k) → k % s.across ≡ i
    same_column k r = let (a, b) = lies_column tiled x y k r in tile_one (tiled_columns tiled) l refl a b

    same_row : (k : ℕ) → LiesIn x y (tile_of w h s k) → k / s.across ≡ j
    same_row k r = let (a, b) = lies_row tiled x y k r in tile_one (tiled_rows tiled) m refl a b

-- two tiles of a film differ by at most one pixel in width, and by at most one in height
pub tiles_near : {w h : ℕ} {s : Settings} → Tiled w h s → (j k : ℕ) → ((tile_of w h s j).width ≤ (tile_of w h s k).width + 1) × ((tile_of w h s j).height ≤ (tile_of w h s k).height + 1)
tiles_near {w} {h} {s} tiled j k = (
  rw (tile_width_lem w h s.across s.down j, tile_width_lem w h s.across s.down k) (size_near (tiled_columns tiled) (j % s.across) (k % s.across)),
  rw (tile_height_lem w h s.across s.down j, tile_height_lem w h s.across s.down k) (size_near (tiled_rows tiled) (j / s.across) (k / s.across)),
)
