-- Document 01, "Numbers to check by hand": the text that the listing program prints for a film that prepare does not refuse.
-- Assumes nothing.
use Rattle.std.specs.Prelude.{ℕ, ◌/◌, ◌%◌, false, List, [], ◌∷◌, ◌++◌, pos, Float}
use Rattle.std.specs.Float.{fin}
use Rattle.tile_limit.specs.declared.Clip.TheVariants.{Factor}
use Rattle.tile_limit.specs.declared.Edition.TheVariants.{Ours}
use Rattle.tile_limit.specs.Limit.{limit_of}
use Rattle.film_settings.specs.declared.Settings.{Settings}
use Rattle.film_tiles.specs.Tiles.{pixels_in, tile_map_of, spent_in}
use Rattle.listing_line.specs.Lines.{line}

-- "factor 2", as a float
abbrev pub two : Float
two = fin false 1 (pos 1)

-- "uses grid 2 by 2, 4 bins, range 0 to maxval, factor 2"
abbrev pub listing_settings : ℕ → Settings
listing_settings maxval = record { across = 2; down = 2; bins = 4; min = 0; max = maxval; clip = Factor two; edition = Ours }

-- the limit of tile 0, 0
abbrev pub limit_for : (w h maxval : ℕ) → ℕ
limit_for w h maxval = limit_of two (pixels_in w h (listing_settings maxval) 0) 4

-- "First line: width, height, grid across, grid down, bins, Min, Max, L.", that of tile 0, 0 as in the footer
unfoldable pub first_line : ℕ → ℕ → ℕ → List ℕ
first_line w h maxval = line (w ∷ h ∷ 2 ∷ 2 ∷ 4 ∷ 0 ∷ maxval ∷ limit_for w h maxval ∷ [])

-- "Then a line per tile: row, column, E, the mapping."; order 7, the looks: "The listing gets it as a new field after E."
unfoldable pub tile_line : (w h maxval : ℕ) (pic : List ℕ) (k : ℕ) → List ℕ
tile_line w h maxval pic k =
    let p = spent_in w h pic (listing_settings maxval) k in
    line (k / 2 ∷ k % 2 ∷ p.excess ∷ p.looks ∷ tile_map_of w h pic (listing_settings maxval) k)

-- the first line, "Then a line per tile": the four of them row by row
unfoldable pub film_text : (w h maxval : ℕ) (pic : List ℕ) → List ℕ
film_text w h maxval pic =
    first_line w h maxval
    ++ (tile_line w h maxval pic 0 ++ (tile_line w h maxval pic 1 ++ (tile_line w h maxval pic 2 ++ tile_line w h maxval pic 3)))
