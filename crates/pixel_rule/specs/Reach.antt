-- Document 02, order 10, how far a scratch reaches: what the rendered grey of a pixel depends on.
-- w and h are the films' width and height, pic and pic' their pixels.
-- Assumes nothing.
use Rattle.std.specs.Prelude.{ℕ, ◌+◌, ◌*◌, ◌≤◌, ◌<◌, cond, List, [], ◌∷◌, ◌≡◌, ltb, get_or}
use Rattle.tile_count.specs.declared.Rect.{Rect}
use Rattle.pixel_grid.specs.Grid.{edge_of, centre_of}
use Rattle.film_settings.specs.declared.Settings.{Settings}
use Rattle.pixel_render.specs.Render.{column_place, row_place}
use Rattle.film_tiles.specs.Tiles.{tile_of}

-- the pixel in column x and row y lies in the rectangle r
pub record LiesIn (x y : ℕ) (r : Rect) : Type 0 where
  pub left : r.left ≤ x
  pub right : x < r.left + r.width
  pub top : r.top ≤ y
  pub bottom : y < r.top + r.height

-- "a pixel that has one grey in both", the one in column x and row y
abbrev pub SameAt : (w : ℕ) (pic pic' : List ℕ) (x y : ℕ) → Type 0
SameAt w pic pic' x y = get_or pic (y * w + x) 0 ≡ get_or pic' (y * w + x) 0

-- "the films agree on all pixels" of a rectangle
abbrev pub AgreeOn : ℕ → List ℕ → List ℕ → Rect → Type 0
AgreeOn w pic pic' r = (x y : ℕ) → LiesIn x y r → SameAt w pic pic' x y

-- ---- the tiles of a pixel

-- a tile in the rule of a pixel: what its mapped value is weighed by, and its number
pub record Weighed : Type 0 where
  pub weight : ℕ
  pub tile : ℕ

-- the four corners of a pixel's two places: upper left, upper right, lower left, lower right
unfoldable pub corner_tiles : (w h : ℕ) (s : Settings) (x y : ℕ) → List Weighed
corner_tiles w h s x y =
    let column = column_place w s x in
    let row = row_place h s y in
    record { weight = row.lowerweight * column.lowerweight; tile = row.lower * s.across + column.lower }
    ∷ record { weight = row.lowerweight * column.upperweight; tile = row.lower * s.across + column.upper }
    ∷ record { weight = row.upperweight * column.lowerweight; tile = row.upper * s.across + column.lower }
    ∷ record { weight = row.upperweight * column.upperweight; tile = row.upper * s.across + column.upper }
    ∷ []

-- of these the ones that are used: a tile of weight 0 has no part in the grey
unfoldable pub in_use : List Weighed → List Weighed
in_use [] = []
in_use (t ∷ ts) = cond (ltb 0 t.weight) (t ∷ in_use ts) (in_use ts)

-- "the tiles that this pixel's rule uses, at most four"
unfoldable pub used_tiles : (w h : ℕ) (s : Settings) (x y : ℕ) → List Weighed
used_tiles w h s x y = in_use (corner_tiles w h s x y)

-- "the films agree on all pixels of the tiles" in a list
abbrev pub AgreeTiles : (w h : ℕ) (s : Settings) (pic pic' : List ℕ) (ts : List Weighed) → Type 0
AgreeTiles w h s pic pic' [] = Unit {0}
AgreeTiles w h s pic pic' (t ∷ ts) = AgreeOn w pic pic' (tile_of w h s t.tile) × AgreeTiles w h s pic pic' ts

-- "a pixel that has one grey in both. If the films agree on all pixels of the tiles that this pixel's rule uses"
pub record AgreeAt (w h : ℕ) (s : Settings) (pic pic' : List ℕ) (x y : ℕ) : Type 0 where
  pub grey : SameAt w pic pic' x y
  pub tiles : AgreeTiles w h s pic pic' (used_tiles w h s x y)

-- ---- a scratch

-- the films differ in a rectangle alone, where the scratch lies: they agree on all other pixels
abbrev pub DifferIn : (w h : ℕ) (pic pic' : List ℕ) (r : Rect) → Type 0
DifferIn w h pic pic' r = (x y : ℕ) → x < w → y < h → (LiesIn x y r → ⊥) → SameAt w pic pic' x y

-- a column (or row) x beyond a scratch that begins at `from` and ends before `upto`: on or before the centre of a tile that has ended where the scratch begins,
-- or on or behind the centre of a tile that begins where the scratch has ended
pub data Past (side grid from upto x : ℕ) : Type 0 where
  before : (k : ℕ) → edge_of side grid (k + 1) ≤ from → x ≤ centre_of side grid k → Past side grid from upto x
  behind : (k : ℕ) → upto ≤ edge_of side grid k → centre_of side grid k ≤ x → Past side grid from upto x

-- a pixel beyond a scratch in the rectangle r, to a side or above or below
pub data Beyond (w h : ℕ) (s : Settings) (r : Rect) (x y : ℕ) : Type 0 where
  aside : Past w s.across r.left (r.left + r.width) x → Beyond w h s r x y
  along : Past h s.down r.top (r.top + r.height) y → Beyond w h s r x y

-- one that lies beyond the neighbouring tiles' centres, of a scratch in the tile in column i and row j of the grid: on or left of centre i - 1, on or right of centre i + 1,
-- on or above centre j - 1, or on or below centre j + 1
pub data BeyondTile (w h : ℕ) (s : Settings) (i j x y : ℕ) : Type 0 where
  left_of_lem : (k : ℕ) → k + 1 ≡ i → x ≤ centre_of w s.across k → BeyondTile w h s i j x y
  right_of : centre_of w s.across (i + 1) ≤ x → BeyondTile w h s i j x y
  above : (k : ℕ) → k + 1 ≡ j → y ≤ centre_of h s.down k → BeyondTile w h s i j x y
  below : centre_of h s.down (j + 1) ≤ y → BeyondTile w h s i j x y
