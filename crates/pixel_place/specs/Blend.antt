-- Order 6 and document 01, "From mappings to grey": where a column or a row stands between two tile centres, and the grey of a pixel.
-- One definition serves columns and rows: `side` is the film's width or height, `grid` the tiles across or down, x the column or row.
-- Assumes nothing.
use Rattle.std.specs.Prelude.{ℕ, zero, suc, ◌+◌, ◌-◌, ◌*◌, ◌/◌, ◌≤◌, ◌<◌, cond, ◌≡◌, leb, ltb, eqb}
use Rattle.pixel_grid.specs.Grid.{size_of, centre_of}
use Rattle.pixel_place.specs.declared.Place.{Place}

-- "uses that tile alone": both sides of the pair are the same tile, which has all the weight
abbrev pub alone : ℕ → ℕ → ℕ → Place
alone side grid k =
    record { lower = k; upper = k; lowerweight = size_of side grid k; upperweight = 0; span = size_of side grid k }

-- "a column between two centres weighs each of the two tiles by its distance from the other's centre, over the distance between the centres"
abbrev pub between : (side grid x k : ℕ) → Place
between side grid x k =
    record {
      lower = k;
      upper = k + 1;
      lowerweight = centre_of side grid (k + 1) - x;
      upperweight = x - centre_of side grid k;
      span = centre_of side grid (k + 1) - centre_of side grid k;
    }

-- of the first n tiles: one more than the last whose centre x has reached, 0 for none
unfoldable pub reached_of : (side grid n x : ℕ) → ℕ
reached_of side grid zero x = 0
reached_of side grid (suc n) x = cond (leb (centre_of side grid n) x) (suc n) (reached_of side grid n x)

-- a column that has reached n centres: "one outside the first or last centre uses that tile alone"
abbrev pub placed : (side grid x reached : ℕ) → Place
placed side grid x zero = alone side grid 0
placed side grid x (suc k) = cond (eqb (suc k) grid) (alone side grid k) (between side grid x k)

-- where column (or row) x stands among the centres
unfoldable pub place_of : ℕ → ℕ → ℕ → Place
place_of side grid x = placed side grid x (reached_of side grid grid x)

-- "(th - p)((tw - o)A + oB') + p((tw - o)C + oD)", by the weights of the two places, a b c d the mapped values upper left, upper right, lower left, lower right
abbrev pub weighed_of : (column row : Place) (a b c d : ℕ) → ℕ
weighed_of column row a b c d =
    row.lowerweight * (column.lowerweight * a + column.upperweight * b)
    + row.upperweight * (column.lowerweight * c + column.upperweight * d)

-- "floor(.. / (tw x th))" of that, the spans in the place of tw and th
unfoldable pub grey_of : (column row : Place) (a b c d : ℕ) → ℕ
grey_of column row a b c d = weighed_of column row a b c d / (column.span * row.span)

-- two values, each by its weight
abbrev pub pair_of : Place → ℕ → ℕ → ℕ
pair_of p a b = p.lowerweight * a + p.upperweight * b

-- the grey from the two columns of tiles: l is the row's pair of the mapped values on the left, r of those on the right
unfoldable pub sides_of : Place → Place → ℕ → ℕ → ℕ
sides_of column row l r = pair_of column l r / (column.span * row.span)

-- what callers know of a place: its weights add up to its span, which is above 0, and its tiles are below the grid
pub record Sound (grid most : ℕ) (p : Place) : Type 0 where
  pub weights : p.lowerweight + p.upperweight ≡ p.span
  pub some : 0 < p.span
  pub bound : p.span ≤ most
  pub lower : p.lower < grid
  pub upper : p.upper < grid

-- what stands for a division by d, the product of two spans: floor(2^52 / d) + 1 where d is at most 2^20, or else 0, for none
unfoldable pub inverse_of : ℕ → ℕ
inverse_of d = cond (ltb 1048576 d) 0 (4503599627370496 / d + 1)

-- what callers know of it
pub record Inverse (spans factor : ℕ) : Type 0 where
  pub small : 0 < factor → spans ≤ 1048576
  pub inverse : 0 < factor → factor ≡ 4503599627370496 / spans + 1

-- the place j columns on between the same tiles: the lower weight is j less, the upper one j more
abbrev pub moved : Place → ℕ → Place
moved p j = record { lower = p.lower; upper = p.upper; lowerweight = p.lowerweight - j; upperweight = p.upperweight + j; span = p.span }

-- n columns from x on have the tiles of x: between two tiles the weights move along, and a tile used alone stays alone
pub record SameTiles (side grid x : ℕ) (p : Place) (n : ℕ) : Type 0 where
  pub some : 0 < n
  pub most : n ≤ p.lowerweight
  pub two : p.lower < p.upper → (j : ℕ) → j < n → place_of side grid (x + j) ≡ moved p j
  pub one : p.upper ≤ p.lower → (p.upper ≡ p.lower) × ((j : ℕ) → j < n → place_of side grid (x + j) ≡ p)

-- how many columns that is: as far as the lower weight goes, and of a tile used alone to the film's end or to the first centre
unfoldable pub length_of : (side grid x : ℕ) (p : Place) → ℕ
length_of side grid x p =
    cond (ltb p.lower p.upper) p.lowerweight (cond (eqb (p.lower + 1) grid) (side - x) (centre_of side grid 0 - x))
