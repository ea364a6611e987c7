-- Document 01 as it stood before order 6, for films whose sides are multiples of the grid: tiles of one size, and the greys, mappings and footer from them.
-- What is said of a rectangle or of a place is as in the rule of today; w and h are the film's width and height, pic its pixels.
-- Assumes nothing.
use Rattle.std.specs.Prelude.{ℕ, ◌+◌, ◌-◌, ◌*◌, ◌/◌, ◌%◌, ◌<◌, cond, List, ◌≡◌, ltb, eqb, get_or}
use Rattle.base_lists.specs.Lists.{joined}
use Rattle.pixel_grid.specs.Grid.{edge_of, size_of}
use Rattle.tile_count.specs.declared.Rect.{Rect}
use Rattle.tile_count.specs.Tally.{greys_of}
use Rattle.tile_map.specs.Tile.{tile_mapping}
use Rattle.pixel_place.specs.declared.Place.{Place}
use Rattle.pixel_place.specs.Blend.{place_of}
use Rattle.film_settings.specs.declared.Settings.{Settings}
use Rattle.film_settings.specs.declared.Footer.{Footer}
use Rattle.film_settings.specs.Settings.{bins_of}
use Rattle.film_tiles.specs.Tiles.{tile_of, pixels_in, mappings, footer_of, foot_of}
use Rattle.pixel_rule.specs.Rule.{grey_from, rule_grey}

-- "Both sides are multiples of the grid."
pub record Fitted (w h : ℕ) (s : Settings) : Type 0 where
  pub columns : w % s.across ≡ 0
  pub rows : h % s.down ≡ 0

-- ---- the tiles

-- "tw and th are tile width and height"
abbrev pub tile_width : ℕ → Settings → ℕ
tile_width w s = w / s.across

abbrev pub tile_height : ℕ → Settings → ℕ
tile_height h s = h / s.down

-- tile k, "tiles row by row"
unfoldable pub fit_rect : ℕ → ℕ → Settings → ℕ → Rect
fit_rect w h s k =
    record { left = k % s.across * tile_width w s; top = k / s.across * tile_height h s; width = tile_width w s; height = tile_height h s }

-- "N = tw x th", of every tile
unfoldable pub fit_pixels : ℕ → ℕ → Settings → ℕ
fit_pixels w h s = tile_width w s * tile_height h s

-- ---- "From mappings to grey"

-- "Where one tile column (or row) is used alone, both sides of that pair are the same tile."
abbrev pub fit_alone : ℕ → ℕ → Place
fit_alone tw k = record { lower = k; upper = k; lowerweight = tw; upperweight = 0; span = tw }

-- "columns k and k + 1 with weights tw - o and o"
abbrev pub fit_between : ℕ → ℕ → ℕ → Place
fit_between tw k o = record { lower = k; upper = k + 1; lowerweight = tw - o; upperweight = o; span = tw }

-- "Half = floor(tw / 2)"
abbrev pub half : ℕ → ℕ
half tw = tw / 2

-- "A column x below half uses tile column 0 alone. Otherwise k = floor((x - half) / tw), o the remainder; if k is the last tile column it is used alone, else columns
-- k and k + 1 with weights tw - o and o. Rows likewise with th"
unfoldable pub fit_place : ℕ → ℕ → ℕ → Place
fit_place tw grid x =
    let k = (x - half tw) / tw in
    let o = (x - half tw) % tw in
    cond (ltb x (half tw)) (fit_alone tw 0) (cond (eqb (k + 1) grid) (fit_alone tw k) (fit_between tw k o))

-- the grey of the pixel in column x and row y
unfoldable pub fit_grey : (w h : ℕ) (pic : List ℕ) (s : Settings) (x y : ℕ) → ℕ
fit_grey w h pic s x y =
    grey_from w pic s (fit_rect w h s) (fit_place (tile_width w s) s.across x) (fit_place (tile_height h s) s.down y) (get_or pic (y * w + x) 0)

-- ---- what prepare and enhance leave

-- "the mappings, tiles row by row, bins upward"
unfoldable pub fit_mappings : ℕ → ℕ → List ℕ → Settings → List ℕ
fit_mappings w h pic s =
    joined (s.across * s.down) (λ k. tile_mapping s.min s.max (bins_of s) s.edition s.clip (greys_of pic w (fit_rect w h s k)))

-- "a footer record with L, the factor asked .. and the factor used", L and N being those of every tile
unfoldable pub fit_foot : ℕ → ℕ → Settings → Footer
fit_foot w h s = footer_of s.clip (fit_pixels w h s) (bins_of s)

-- ---- order 6: "Films that fitted before must come out the same"

-- "show it once for rows and columns together": along one axis the rule of today has tiles that start where they did and are as wide (or high), and each column (or row)
-- stands where it did among them
pub record AxisAsBefore (side grid : ℕ) : Type 0 where
  pub starts : (i : ℕ) → edge_of side grid i ≡ i * (side / grid)
  pub sizes : (i : ℕ) → size_of side grid i ≡ side / grid
  pub places : (x : ℕ) → x < side → place_of side grid x ≡ fit_place (side / grid) grid x

-- so a film has its tiles, their pixels, its greys, its mappings and its footer as before
pub record FilmAsBefore (w h : ℕ) (pic : List ℕ) (s : Settings) : Type 0 where
  pub tiles : (k : ℕ) → tile_of w h s k ≡ fit_rect w h s k
  pub pixels : (k : ℕ) → pixels_in w h s k ≡ fit_pixels w h s
  pub greys : (x y : ℕ) → x < w → y < h → rule_grey w h pic s x y ≡ fit_grey w h pic s x y
  pub maps : mappings w h pic s ≡ fit_mappings w h pic s
  pub foot : foot_of w h s ≡ fit_foot w h s
