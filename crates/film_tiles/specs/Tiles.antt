-- Document 01, "From pixels to mappings" for all tiles of a film, and the footer of "What each call hands back".
-- w and h are the film's width and height, pic its pixels.
-- Assumes nothing.
use Rattle.std.specs.Prelude.{ℕ, ◌+◌, ◌*◌, ◌/◌, ◌%◌, ◌≤◌, ◌<◌, ◌≡◌, true, false, cond, List, [], ◌∷◌, pos, Float, ltb, length, drop}
use Rattle.std.specs.Float.{fin}
use Rattle.base_lists.specs.Lists.{joined, onto, over, filled, all}
use Rattle.tile_limit.specs.declared.Clip.{Clip}
use Rattle.tile_limit.specs.declared.Clip.TheVariants.{Off, Factor}
use Rattle.tile_limit.specs.Limit.{is_one, limit_of, used_of}
use Rattle.pixel_grid.specs.Grid.{edge_of, size_of, Fits}
use Rattle.tile_count.specs.declared.Rect.{Rect}
use Rattle.base_range.specs.Scan.{within}
use Rattle.tile_count.specs.Tally.{greys_of}
use Rattle.tile_clip.specs.declared.Spent.{Spent}
use Rattle.tile_map.specs.Tile.{tile_mapping, tile_spent}
use Rattle.base_rows.specs.Refuse.{Row, row}
use Rattle.film_settings.specs.declared.Settings.{Settings}
use Rattle.film_settings.specs.declared.Footer.{Footer}
use Rattle.film_settings.specs.Settings.{bins_of, clip_bad_of, clip_one_of, Tiled, Ready}

-- tile k of a film, "tiles row by row": "Tile column i shall run from floor(i x width / grid) up to floor((i + 1) x width / grid), rows likewise"
unfoldable pub tile_rect_of : (w h across down k : ℕ) → Rect
tile_rect_of w h across down k =
    record {
      left = edge_of w across (k % across);
      top = edge_of h down (k / across);
      width = size_of w across (k % across);
      height = size_of h down (k / across);
    }

-- its pixels: "N and L are each tile's own"
unfoldable pub tile_pixels : (w h across down k : ℕ) → ℕ
tile_pixels w h across down k = (tile_rect_of w h across down k).width * (tile_rect_of w h across down k).height

-- tile k of a film with these settings
abbrev pub tile_of : ℕ → ℕ → Settings → ℕ → Rect
tile_of w h s k = tile_rect_of w h s.across s.down k

-- and its pixels
abbrev pub pixels_in : (w h : ℕ) (s : Settings) (k : ℕ) → ℕ
pixels_in w h s k = tile_pixels w h s.across s.down k

-- the mapping of tile k, from that tile's own pixels
unfoldable pub tile_map_of : (w h : ℕ) (pic : List ℕ) (s : Settings) (k : ℕ) → List ℕ
tile_map_of w h pic s k = tile_mapping s.min s.max (bins_of s) s.edition s.clip (greys_of pic w (tile_of w h s k))

-- "the mappings, tiles row by row, bins upward"
unfoldable pub mappings : ℕ → ℕ → List ℕ → Settings → List ℕ
mappings w h pic s = joined (s.across * s.down) (tile_map_of w h pic s)

-- ---- order 7: how long the leftover walk is

-- "E, and the number of looks" of tile k, from that tile's own pixels
unfoldable pub spent_in : (w h : ℕ) (pic : List ℕ) (s : Settings) (k : ℕ) → Spent
spent_in w h pic s k = tile_spent s.min s.max (bins_of s) s.edition s.clip (greys_of pic w (tile_of w h s k))

-- the "two entries" of a tile
abbrev pub spent_pair : Spent → List ℕ
spent_pair p = p.excess ∷ p.looks ∷ []

-- the list "in which each tile in row order has two entries"
unfoldable pub spents : ℕ → ℕ → List ℕ → Settings → List ℕ
spents w h pic s = joined (s.across * s.down) (λ k. spent_pair (spent_in w h pic s k))

-- its entries: "twice the number of tiles"
abbrev pub spent_entries : Settings → ℕ
spent_entries s = 2 * (s.across * s.down)

-- 32: "this list is shorter than twice the number of tiles"
abbrev pub list_row : Settings → ℕ → Row
list_row s list = row 32 (ltb list (spent_entries s))

-- ---- the footer

-- the float 0.0
abbrev pub zero_float : Float
zero_float = fin false 0 (pos 0)

-- and 1.0
abbrev pub one : Float
one = fin false 1 (pos 0)

-- "a footer record with L, the factor asked as f32 and the factor used as f64 .. Clip off: L 0, both factors 0.0. Factor 1.0: L 0, both 1.0"
unfoldable pub footer_of : Clip → ℕ → ℕ → Footer
footer_of Off n b = record { limit = 0; asked = zero_float; used = zero_float }
footer_of (Factor f) n b =
    cond (is_one f) (record { limit = 0; asked = one; used = one })
    (record { limit = limit_of f n b; asked = f; used = used_of (limit_of f n b) b n })

-- "the footer shows those of tile 0, 0"
unfoldable pub foot_of : ℕ → ℕ → Settings → Footer
foot_of w h s = footer_of s.clip (pixels_in w h s 0) (bins_of s)

-- ---- what the functions below ask

-- what a tile's rectangle asks: sides that are not shorter than their grids, of which tile k is one
pub record TileRectAsks (w h across down k : ℕ) : Type 0 where
  pub columns : Fits w across
  pub rows : Fits h down
  pub tile : k < across * down

-- what the footer of a film asks: settings of which none is refused
pub record FilmFooterAsks (w h : ℕ) (s : Settings) : Type 0 where
  pub tiled : Tiled w h s
  pub fair : clip_bad_of s.clip ≡ false

-- what a footer asks: a clip setting that is not refused, and a tile's sizes as document 01 has them
pub record FooterAsks (clip : Clip) (n b : ℕ) : Type 0 where
  pub good : clip_bad_of clip ≡ false
  pub pixels : n ≤ 4194304
  pub least : 2 ≤ b
  pub most : b ≤ 4096

-- what `put_spent` asks: tile k of a film's, and a list with room for its two entries
pub record SpentAsks (k list : ℕ) : Type 0 where
  pub tile : k < 256
  pub room : k * 2 + 2 ≤ list

-- what a call knows once none of the rows 1 to 13 and 31 applies
pub record Work (w h : ℕ) (pic : List ℕ) (s : Settings) (room scratch : ℕ) : Type 0 where
  pub ready : Ready w h (length pic) s room
  pub bins : bins_of s ≤ scratch
  pub greys : all (within s.min s.max) pic ≡ true

-- what `map_tile` knows of the film: that, and a factor that is not 1.0
pub record TilesReady (w h : ℕ) (pic : List ℕ) (s : Settings) (room scratch : ℕ) : Type 0 where
  pub work : Work w h pic s room scratch
  pub changes : clip_one_of s.clip ≡ false

-- what `map_tiles` asks: that, and a list with two entries for each tile
pub record MapTilesAsks (w h : ℕ) (pic : List ℕ) (s : Settings) (room scratch list : ℕ) : Type 0 where
  pub film : TilesReady w h pic s room scratch
  pub pairs : spent_entries s ≤ list

-- what `map_tile` asks: that, of one of the tiles
pub record MapTileAsks (w h : ℕ) (pic : List ℕ) (s : Settings) (k room scratch : ℕ) : Type 0 where
  pub film : TilesReady w h pic s room scratch
  pub tile : k < s.across * s.down

-- what laying down a mapping as tile k's leaves: the mapping in its place; the scratch behind its first B entries as it was
pub record Placed (s : Settings) (k : ℕ) (mapping m₀ m t₀ t : List ℕ) : Type 0 where
  pub map : m ≡ over m₀ (k * bins_of s) mapping
  pub behind : drop (bins_of s) t ≡ drop (bins_of s) t₀
  pub size : length t ≡ length t₀

-- what laying down all of them leaves: the mappings in front, the scratch's first B entries zero, and the tiles' pairs in the front of the list
pub record AllPlaced (s : Settings) (mapped pairs m₀ m t₀ t n₀ n : List ℕ) : Type 0 where
  pub map : m ≡ onto m₀ mapped
  pub scratch : t ≡ filled (λ k. 0) t₀ (bins_of s)
  pub list : n ≡ onto n₀ pairs

-- what `map_tile` leaves and answers
pub record TileDone (w h : ℕ) (pic : List ℕ) (s : Settings) (k : ℕ) (m₀ m t₀ t : List ℕ) (took : Spent) : Type 0 where
  pub placed : Placed s k (tile_map_of w h pic s k) m₀ m t₀ t
  pub spent : took ≡ spent_in w h pic s k

-- what `map_tiles` leaves
abbrev pub TilesDone : (w h : ℕ) (pic : List ℕ) (s : Settings) → List ℕ → List ℕ → List ℕ → List ℕ → List ℕ → List ℕ → Type 0
TilesDone w h pic s = AllPlaced s (mappings w h pic s) (spents w h pic s)
