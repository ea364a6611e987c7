-- Order 4 where a pixel is weighed or moves from its left neighbour, and how many sums of a run move.
-- a, b, c and d are the mapped values of the four tiles, upper left, upper right, lower left and lower right; ks are the bins of a run's pixels.
-- Assumes nothing.
use Rattle.std.specs.Prelude.{ℕ, zero, suc, ◌+◌, ◌/◌, ◌≤◌, ◌<◌, min, max, Bool, false, cond, ◌&&◌, List, ◌≡◌, leb, eqb, length, get_or}
use Rattle.pixel_place.specs.declared.Place.{Place}
use Rattle.pixel_place.specs.Blend.{pair_of, Sound, moved}
use Rattle.pixel_table.specs.Table.{side_at, Tiles}
use Rattle.pixel_sums.specs.declared.Sum.{Sum}

-- ---- pixel by pixel

-- whether pixel i has the bin of the pixel before it
unfoldable pub like_before : List ℕ → ℕ → Bool
like_before ks zero = false
like_before ks (suc i) = eqb (get_or ks (suc i) 0) (get_or ks i 0)

-- how many of the first n pixels have
unfoldable pub moved_to : List ℕ → ℕ → ℕ
moved_to ks zero = 0
moved_to ks (suc n) = moved_to ks n + cond (like_before ks n) 1 0

-- how many pixels of a run have: for these the sum moves
unfoldable pub moved_in : List ℕ → ℕ
moved_in ks = moved_to ks (length ks)

-- ---- from a table or pixel by pixel

-- the least of the first n bins: none is above 65535
unfoldable pub least_to : List ℕ → ℕ → ℕ
least_to ks zero = 65535
least_to ks (suc n) = min (least_to ks n) (get_or ks n 0)

-- the greatest of them
unfoldable pub greatest_to : List ℕ → ℕ → ℕ
greatest_to ks zero = 0
greatest_to ks (suc n) = max (greatest_to ks n) (get_or ks n 0)

-- the least bin of a run
abbrev pub least_of : List ℕ → ℕ
least_of ks = least_to ks (length ks)

-- and the greatest
abbrev pub greatest_of : List ℕ → ℕ
greatest_of ks = greatest_to ks (length ks)

-- whether a table pays: the bins from `low` up to `top` are no more than `wide` pixels, and the room has two entries for each bin below `top`
unfoldable pub pays_for : (low top wide room : ℕ) → Bool
pays_for low top wide room = leb low top && (leb top (low + wide) && leb top (room / 2))

-- how many of a run's pixels have their sum moved: all of them from a table where one pays, else "where the bin stays the same"
unfoldable pub sums_moved : (room : ℕ) (ks : List ℕ) → ℕ
sums_moved room ks = cond (pays_for (least_of ks) (greatest_of ks + 1) (length ks) room) (length ks) (moved_in ks)

-- ---- what the functions ask

-- the weighted sum of pixel i, of bin k, and the pairs by which it moves
pub record Stands (column row : Place) (a b c d : List ℕ) (i k : ℕ) (s : Sum) : Type 0 where
  pub bin : s.bin ≡ k
  pub left : s.left ≡ side_at row a c k
  pub right : s.right ≡ side_at row b d k
  pub sum : s.sum ≡ pair_of (moved column i) (side_at row a c k) (side_at row b d k)

-- what a pixel of bin k asks: four tiles of n bins, sound places, and weight to move by
pub record PixelAsks (atcolumn atrow : Place) (a b c d : List ℕ) (n i k : ℕ) : Type 0 where
  pub tiles : Tiles a b c d n
  pub column : Sound 16 2048 atcolumn
  pub row : Sound 16 2048 atrow
  pub bin : k < n
  pub few : n ≤ 4096
  pub room : i < atcolumn.lowerweight
