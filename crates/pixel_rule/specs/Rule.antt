-- The grey of a pixel by document 01's rule, said once for the reader: from the counts of the tiles that it uses, straight from the film.
-- w and h are the film's width and height, pic its pixels.
-- Assumes nothing.
use Rattle.std.specs.Prelude.{ℕ, ◌+◌, ◌*◌, cond, List, get_or}
use Rattle.tile_bin.specs.Binning.{bin_of}
use Rattle.tile_count.specs.declared.Rect.{Rect}
use Rattle.tile_count.specs.Tally.{greys_of}
use Rattle.tile_map.specs.Tile.{mapped_of, tile_counts, tile_divides}
use Rattle.film_settings.specs.declared.Settings.{Settings}
use Rattle.film_settings.specs.Settings.{bins_of, clip_one_of}
use Rattle.pixel_place.specs.declared.Place.{Place}
use Rattle.pixel_place.specs.Blend.{grey_of}
use Rattle.pixel_render.specs.Render.{column_place, row_place}
use Rattle.film_tiles.specs.Tiles.{tile_of}

-- the mapped value of a grey v by a tile that is the rectangle r of the film: of that tile's own clipped counts, over what their mapping divides by, at the grey's bin
unfoldable pub tile_value : ℕ → List ℕ → Settings → Rect → ℕ → ℕ
tile_value w pic s r v =
    mapped_of s.min s.max
    (tile_divides s.min s.max (bins_of s) s.edition s.clip (greys_of pic w r))
    (tile_counts s.min s.max (bins_of s) s.edition s.clip (greys_of pic w r))
    (bin_of s.min s.max (bins_of s) v)

-- the grey of a pixel of grey v from the tiles of its two places, `tile k` being the rectangle of tile k, "tiles row by row"
unfoldable pub grey_from : ℕ → List ℕ → Settings → (ℕ → Rect) → Place → Place → ℕ → ℕ
grey_from w pic s tile column row v =
    let value : ℕ → ℕ → ℕ = λ j i. tile_value w pic s (tile (j * s.across + i)) v in
    grey_of column row (value row.lower column.lower) (value row.lower column.upper) (value row.upper column.lower) (value row.upper column.upper)

-- the grey of the pixel in column x and row y by "the integer rule of document 01 .. for that film's own pixels and settings", with the tiles and places of order 6
unfoldable pub rule_grey : (w h : ℕ) (pic : List ℕ) (s : Settings) (x y : ℕ) → ℕ
rule_grey w h pic s x y = grey_from w pic s (tile_of w h s) (column_place w s x) (row_place h s y) (get_or pic (y * w + x) 0)

-- the grey that is shown of it: "exactly 1.0 returns the film unchanged", else the rule's
unfoldable pub shown_grey : (w h : ℕ) (pic : List ℕ) (s : Settings) (x y : ℕ) → ℕ
shown_grey w h pic s x y = cond (clip_one_of s.clip) (get_or pic (y * w + x) 0) (rule_grey w h pic s x y)
