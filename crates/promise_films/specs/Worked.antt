-- Document 01, "Numbers to check by hand": the numbers marked (*), and those of the orders since, as rows of one table. The rules are the definitions that the contracts cite.
-- Assumes nothing.
use Rattle.std.specs.Prelude.{ℕ, ◌+◌, ◌*◌, Bool, true, ◌&&◌, List, [], ◌∷◌, eqb, get_or}
use Rattle.std.specs.Float.Ieee.{of_bits, eq}
use Rattle.std.specs.Float.{binary32, binary64}
use Rattle.base_lists.specs.Lists.{same}
use Rattle.tile_limit.specs.declared.Clip.TheVariants.{Off}
use Rattle.tile_limit.specs.declared.Edition.TheVariants.{Ours}
use Rattle.tile_limit.specs.Limit.{floored_of, limit_of, used_of}
use Rattle.tile_clip.specs.Clip.{clipped}
use Rattle.tile_clip.specs.Looks.{looks_of}
use Rattle.tile_clip1986.specs.Older as Older
use Rattle.tile_bin.specs.Binning.{bin_of}
use Rattle.tile_map.specs.Tile.{mapping_of}
use Rattle.pixel_grid.specs.Grid.{edge_of, centre_of}
use Rattle.pixel_place.specs.declared.Place.{Place}
use Rattle.pixel_place.specs.Blend.{place_of, grey_of}
use Rattle.film_settings.specs.declared.Settings.{Settings}
use Rattle.pixel_rule.specs.Reach.{Weighed, used_tiles}

-- a worked number: what goes in, and last what the document says comes out
pub data Worked : Type 0 where
  -- a factor's f32 bits, N and B: L
  limit : (f n b l : ℕ) → Worked
  -- the same: what the factor alone gives
  floored : (f n b l : ℕ) → Worked
  -- L, B and N: the factor used, as its f64 bits
  factor : (l b n bits : ℕ) → Worked
  -- L and counts: the clipped counts
  clip : ℕ → List ℕ → List ℕ → Worked
  -- the same: how many bins the leftover walk looks at
  looks : ℕ → List ℕ → ℕ → Worked
  -- order 8: C and counts: P
  level : ℕ → List ℕ → ℕ → Worked
  -- the same: the new counts
  older : ℕ → List ℕ → List ℕ → Worked
  -- Min, Max, N (or T) and counts: the mapping
  mapping : ℕ → ℕ → ℕ → List ℕ → List ℕ → Worked
  -- Min, Max, B and a grey: its bin
  bin : (lo hi b v k : ℕ) → Worked
  -- a side, a grid and i: edge i
  edge : (side grid i e : ℕ) → Worked
  -- the same: centre i
  centre : (side grid i c : ℕ) → Worked
  -- a side, a grid and a column: its place, which is two tiles, a weight for each, and the span
  place : ℕ → ℕ → ℕ → List ℕ → Worked
  -- a side of a square film of 2 by 2 tiles, whose mapped values are 10, 20, 30, 41, and a pixel: its grey
  grey : (side x y v : ℕ) → Worked
  -- order 10: a side and a grid of a square film, and a pixel: the tiles that its rule uses, each with its weight
  used : (side grid x y : ℕ) (ns : List ℕ) → Worked

-- the numbers of a place
abbrev pub numbers : Place → List ℕ
numbers p = p.lower ∷ p.upper ∷ p.lowerweight ∷ p.upperweight ∷ p.span ∷ []

-- and those of weighed tiles
unfoldable pub weighed_numbers : List Weighed → List ℕ
weighed_numbers [] = []
weighed_numbers (t ∷ ts) = t.tile ∷ t.weight ∷ weighed_numbers ts

-- settings of a square grid; the others have no part in which tiles are used
abbrev pub square_grid : ℕ → Settings
square_grid grid = record { across = grid; down = grid; bins = 2; min = 0; max = 1; clip = Off; edition = Ours }

-- the grey of that pixel
unfoldable pub grey_at : (side x y : ℕ) → ℕ
grey_at side x y =
    let column = place_of side 2 x in
    let row = place_of side 2 y in
    let tile : ℕ → ℕ → ℕ = λ j i. get_or (10 ∷ 20 ∷ 30 ∷ 41 ∷ []) (j * 2 + i) 0 in
    grey_of column row
    (tile row.lower column.lower) (tile row.lower column.upper)
    (tile row.upper column.lower) (tile row.upper column.upper)

-- a worked number holds of the rules
unfoldable pub holds : Worked → Bool
holds (limit f n b l) = eqb (limit_of (of_bits binary32 f) n b) l
holds (floored f n b l) = eqb (floored_of (of_bits binary32 f) n b) l
holds (factor l b n bits) = eq (used_of l b n) (of_bits binary64 bits)
holds (clip l cs ds) = same (clipped l cs) ds
holds (looks l cs n) = eqb (looks_of l cs) n
holds (level c cs p) = eqb (Older.level_of c cs) p
holds (older c cs ds) = same (Older.older c cs) ds
holds (mapping lo hi n cs vs) = same (mapping_of lo hi n cs) vs
holds (bin lo hi b v k) = eqb (bin_of lo hi b v) k
holds (edge side grid i e) = eqb (edge_of side grid i) e
holds (centre side grid i c) = eqb (centre_of side grid i) c
holds (place side grid x ns) = same (numbers (place_of side grid x)) ns
holds (grey side x y v) = eqb (grey_at side x y) v
holds (used side grid x y ns) = same (weighed_numbers (used_tiles side side (square_grid grid) x y)) ns

-- all of a table hold: "rows of a single table under a single claim"
unfoldable pub all_hold : List Worked → Bool
all_hold [] = true
all_hold (r ∷ rs) = holds r && all_hold rs

-- the marked numbers, in the document's order
unfoldable pub worked : List Worked
worked =
    -- N 100, B 64: factor 1.5 gives L 2; 1.25 gives L 2 (order 2: 100 / 64 rounded up). N 1, B 4, factor 2: L 1.
    limit 0x3fc00000 100 64 2
    ∷ limit 0x3fa00000 100 64 2
    ∷ limit 0x40000000 1 4 1
    -- the factor 1.25 alone gives 1; the factor used is 128 / 100 in f64
    ∷ floored 0x3fa00000 100 64 1
    ∷ factor 2 64 100 0x3ff47ae147ae147b
    -- B 4, L 6, counts 16,0,0,0: result 6,4,3,3; for range 0..15 the mapping is 5,9,12,15.
    ∷ clip 6 (16 ∷ 0 ∷ 0 ∷ 0 ∷ []) (6 ∷ 4 ∷ 3 ∷ 3 ∷ [])
    ∷ mapping 0 15 16 (6 ∷ 4 ∷ 3 ∷ 3 ∷ []) (5 ∷ 9 ∷ 12 ∷ 15 ∷ [])
    -- L 6, 9,5,1,1: 6,6,2,2. L 6, 11,5,0,0: 6,6,3,1.
    ∷ clip 6 (9 ∷ 5 ∷ 1 ∷ 1 ∷ []) (6 ∷ 6 ∷ 2 ∷ 2 ∷ [])
    ∷ clip 6 (11 ∷ 5 ∷ 0 ∷ 0 ∷ []) (6 ∷ 6 ∷ 3 ∷ 1 ∷ [])
    -- L 7, 19,6,0,0: 7,7,6,5
    ∷ clip 7 (19 ∷ 6 ∷ 0 ∷ 0 ∷ []) (7 ∷ 7 ∷ 6 ∷ 5 ∷ [])
    -- L 4, 16,0,0,0: 4,4,4,4. B 4, N 17: L 5 for the factor 1.125, which gave 4 (order 2).
    ∷ clip 4 (16 ∷ 0 ∷ 0 ∷ 0 ∷ []) (4 ∷ 4 ∷ 4 ∷ 4 ∷ [])
    ∷ limit 0x3f900000 17 4 5
    ∷ floored 0x3f900000 17 4 4
    ∷ factor 5 4 17 0x3ff2d2d2d2d2d2d3
    -- Range 0..255: B 128 puts 255 in bin 127; B 100 in bin 99, B 255 in bin 254 (order 3).
    ∷ bin 0 255 128 255 127
    ∷ bin 0 255 100 255 99
    ∷ bin 0 255 255 255 254
    -- Tiles 2 by 2, grid 2 by 2, mapped values 10, 20, 30, 41: pixel x 2, y 2 gives 25; x 1, y 2 gives 20; x 2, y 0 gives 15.
    ∷ grey 4 2 2 25
    ∷ grey 4 1 2 20
    ∷ grey 4 2 0 15
    -- Order 6. Side 17, grid 16: edge 16 is 17, centre 15 is 16. Side 5, grid 2: column 2 has tiles 0 and 1, weights 1 and 1, span 2.
    ∷ edge 17 16 16 17
    ∷ centre 17 16 15 16
    ∷ place 5 2 2 (0 ∷ 1 ∷ 1 ∷ 1 ∷ 2 ∷ [])
    -- A film of 5 by 5, grid 2 by 2, the same mapped values: pixel x 2, y 2 gives 25.
    ∷ grey 5 2 2 25
    -- Order 7, the looks of the counts above. L 6, 16,0,0,0: 5; 9,5,1,1: 4; 11,5,0,0: 4. L 7, 19,6,0,0: 8. L 4, 16,0,0,0: 4.
    ∷ looks 6 (16 ∷ 0 ∷ 0 ∷ 0 ∷ []) 5
    ∷ looks 6 (9 ∷ 5 ∷ 1 ∷ 1 ∷ []) 4
    ∷ looks 6 (11 ∷ 5 ∷ 0 ∷ 0 ∷ []) 4
    ∷ looks 7 (19 ∷ 6 ∷ 0 ∷ 0 ∷ []) 8
    ∷ looks 4 (16 ∷ 0 ∷ 0 ∷ 0 ∷ []) 4
    -- Order 8, P, the new counts and, by their total T, the mapping. C 6, 16,0,0,0: P 2; 6,4,4,4; T 18, for range 0..15 5,8,11,15.
    ∷ level 6 (16 ∷ 0 ∷ 0 ∷ 0 ∷ []) 2
    ∷ older 6 (16 ∷ 0 ∷ 0 ∷ 0 ∷ []) (6 ∷ 4 ∷ 4 ∷ 4 ∷ [])
    ∷ mapping 0 15 18 (6 ∷ 4 ∷ 4 ∷ 4 ∷ []) (5 ∷ 8 ∷ 11 ∷ 15 ∷ [])
    -- C 6, 9,5,1,1: P 5; 6,6,2,2. C 6, 11,5,0,0: P 4; 6,6,2,2.
    ∷ level 6 (9 ∷ 5 ∷ 1 ∷ 1 ∷ []) 5
    ∷ older 6 (9 ∷ 5 ∷ 1 ∷ 1 ∷ []) (6 ∷ 6 ∷ 2 ∷ 2 ∷ [])
    ∷ level 6 (11 ∷ 5 ∷ 0 ∷ 0 ∷ []) 4
    ∷ older 6 (11 ∷ 5 ∷ 0 ∷ 0 ∷ []) (6 ∷ 6 ∷ 2 ∷ 2 ∷ [])
    -- C 7, 19,6,0,0: P 1; 7,7,6,6; T 26, mapping 4,8,11,15.
    ∷ level 7 (19 ∷ 6 ∷ 0 ∷ 0 ∷ []) 1
    ∷ older 7 (19 ∷ 6 ∷ 0 ∷ 0 ∷ []) (7 ∷ 7 ∷ 6 ∷ 6 ∷ [])
    ∷ mapping 0 15 26 (7 ∷ 7 ∷ 6 ∷ 6 ∷ []) (4 ∷ 8 ∷ 11 ∷ 15 ∷ [])
    -- C 4, 16,0,0,0: P 0; 4,4,4,4. C 5, 17,0,0,0: P 1; 5,4,4,4. C 6, 4,4,4,4: P 6, and the counts as they were.
    ∷ level 4 (16 ∷ 0 ∷ 0 ∷ 0 ∷ []) 0
    ∷ older 4 (16 ∷ 0 ∷ 0 ∷ 0 ∷ []) (4 ∷ 4 ∷ 4 ∷ 4 ∷ [])
    ∷ level 5 (17 ∷ 0 ∷ 0 ∷ 0 ∷ []) 1
    ∷ older 5 (17 ∷ 0 ∷ 0 ∷ 0 ∷ []) (5 ∷ 4 ∷ 4 ∷ 4 ∷ [])
    ∷ level 6 (4 ∷ 4 ∷ 4 ∷ 4 ∷ []) 6
    ∷ older 6 (4 ∷ 4 ∷ 4 ∷ 4 ∷ []) (4 ∷ 4 ∷ 4 ∷ 4 ∷ [])
    -- Order 10, a film of 5 by 5, grid 2 by 2: column 1 stands on centre 0 and uses one tile column, column 2 two. Pixel x 1, y 1 uses tile 0 by 4;
    -- x 2, y 1 tiles 0 and 1 by 2 each; x 2, y 2 all four by 1 each.
    ∷ used 5 2 1 1 (0 ∷ 4 ∷ [])
    ∷ used 5 2 2 1 (0 ∷ 2 ∷ 1 ∷ 2 ∷ [])
    ∷ used 5 2 2 2 (0 ∷ 1 ∷ 1 ∷ 1 ∷ 2 ∷ 1 ∷ 3 ∷ 1 ∷ [])
    ∷ []
