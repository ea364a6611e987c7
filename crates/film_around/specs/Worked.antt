-- Order 13, numbers to check by hand: side 3 on the 4 by 4 film of document 01's listing, 4 bins, Min 0, Max 15, factor 2. The rules are the definitions that the contract cites.
-- Assumes nothing.
use Rattle.std.specs.Prelude.{ℕ, Bool, true, ◌&&◌, List, [], ◌∷◌, eqb, Float}
use Rattle.std.specs.Float.Ieee.{of_bits}
use Rattle.std.specs.Float.{binary32}
use Rattle.base_lists.specs.Lists.{same}
use Rattle.tile_limit.specs.declared.Clip.TheVariants.{Factor}
use Rattle.tile_limit.specs.declared.Edition.{Edition}
use Rattle.tile_limit.specs.declared.Edition.TheVariants.{Ours, Of1986}
use Rattle.tile_limit.specs.Limit.{limit_of}
use Rattle.tile_count.specs.Tally.{greys_of, counts_of}
use Rattle.tile_map.specs.Tile.{tile_counts}
use Rattle.film_settings.specs.declared.Settings.{Settings}
use Rattle.tile_slide.specs.Slide.{region_rect}
use Rattle.film_around.specs.Around.{region_pixels, around_grey}

-- the film of the listing
abbrev pub plate : List ℕ
plate = 0 ∷ 0 ∷ 0 ∷ 4 ∷ 0 ∷ 0 ∷ 8 ∷ 12 ∷ 15 ∷ 15 ∷ 0 ∷ 0 ∷ 15 ∷ 15 ∷ 15 ∷ 15 ∷ []

-- the factor 2
abbrev pub two : Float
two = of_bits binary32 1073741824

-- the settings; no grid is looked at
abbrev pub plain : Edition → Settings
plain e = record { across = 0; down = 0; bins = 4; min = 0; max = 15; clip = Factor two; edition = e }

-- a worked number: the edition, and a pixel; what comes out are N, L, the raw counts, the clipped counts and the grey
pub data Worked : Type 0 where
  pixel : (e : Edition) (x y n l : ℕ) (counts clipped : List ℕ) (grey : ℕ) → Worked

-- it holds of the rules
unfoldable pub holds : Worked → Bool
holds (pixel e x y n l counts clipped grey) =
    eqb (region_pixels 4 4 3 x y) n
    && (eqb (limit_of two n 4) l
    && (same (counts_of 0 15 4 (greys_of plate 4 (region_rect 4 4 3 x y))) counts
    && (same (tile_counts 0 15 4 e (Factor two) (greys_of plate 4 (region_rect 4 4 3 x y))) clipped && eqb (around_grey 4 4 plate 3 (plain e) x y) grey)))

-- all of a table do
unfoldable pub all_hold : List Worked → Bool
all_hold [] = true
all_hold (x ∷ xs) = holds x && all_hold xs

-- the table
unfoldable pub worked : List Worked
worked =
    pixel Ours 0 0 4 2 (4 ∷ 0 ∷ 0 ∷ 0 ∷ []) (2 ∷ 1 ∷ 1 ∷ 0 ∷ []) 7
    ∷ pixel Ours 1 1 9 4 (6 ∷ 0 ∷ 1 ∷ 2 ∷ []) (4 ∷ 1 ∷ 2 ∷ 2 ∷ []) 6
    ∷ pixel Ours 2 1 9 4 (5 ∷ 1 ∷ 1 ∷ 2 ∷ []) (4 ∷ 2 ∷ 1 ∷ 2 ∷ []) 11
    ∷ pixel Of1986 0 0 4 2 (4 ∷ 0 ∷ 0 ∷ 0 ∷ []) (2 ∷ 1 ∷ 1 ∷ 1 ∷ []) 6
    ∷ pixel Of1986 1 1 9 4 (6 ∷ 0 ∷ 1 ∷ 2 ∷ []) (4 ∷ 1 ∷ 2 ∷ 3 ∷ []) 6
    ∷ pixel Of1986 2 1 9 4 (5 ∷ 1 ∷ 1 ∷ 2 ∷ []) (4 ∷ 2 ∷ 2 ∷ 3 ∷ []) 10
    ∷ []
