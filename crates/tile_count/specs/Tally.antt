-- Document 01, "From pixels to mappings", rule 1: the counts of a rectangle of a picture.
-- lo and hi are Min and Max, b the bins B. A picture is a list of greys, row by row.
-- Assumes nothing.
use Rattle.std.specs.Prelude.{ℕ, ◌+◌, ◌-◌, ◌*◌, ◌%◌, ◌≤◌, ◌<◌, Bool, true, ◌&&◌, List, map, ◌≡◌, eqb, ltb, length, get_or}
use Rattle.base_lists.specs.Lists.{tab, sum, joined, times, all, filled}
use Rattle.base_range.specs.Scan.{within}
use Rattle.tile_bin.specs.Binning.{bin_of, factor_of}
use Rattle.tile_count.specs.declared.Rect.{Rect}
use Rattle.tile_count.specs.declared.Binning.{Binning}

-- the greys of a rectangle of a picture `stride` pixels wide, row by row
unfoldable pub greys_of : List ℕ → ℕ → Rect → List ℕ
greys_of pic stride r = joined r.height (λ y. tab r.width (λ x. get_or pic ((r.top + y) * stride + (r.left + x)) 0))

-- the count of bin k is how many of the greys are in bin k
unfoldable pub counts_of : (lo hi b : ℕ) (vs : List ℕ) → List ℕ
counts_of lo hi b vs = tab b (λ k. times k (map (bin_of lo hi b) vs))

-- counts to which more greys are added: the count of bin k grows by how many of them are in bin k
unfoldable pub added_of : (lo hi b : ℕ) (cs vs : List ℕ) → List ℕ
added_of lo hi b cs vs = filled (λ k. get_or cs k 0 + times k (map (bin_of lo hi b) vs)) cs b

-- ---- what the functions ask

-- what is asked of Min, Max and the bins; document 01's refusals 7 to 9 and 31 leave no more than this
pub record Scale (lo hi b : ℕ) : Type 0 where
  pub order : lo ≤ hi
  pub most : hi ≤ 4095
  pub some : 2 ≤ b
  pub few : b ≤ 4096
  pub reach : b ≤ hi - lo + 1

-- a rectangle inside a picture of `size` pixels, `stride` wide, of at most 2048 x 2048 pixels and at least one
pub record Inside (size stride : ℕ) (r : Rect) : Type 0 where
  pub across : r.left + r.width ≤ stride
  pub down : (r.top + r.height) * stride ≤ size
  pub some : 0 < r.width * r.height
  pub few : r.width * r.height ≤ 4194304

-- what `count_row` asks: the factor of the range and the bins, room for the bins, greys from Min to Max, and counts to which a row can be added
pub record CountRowAsks (row : List ℕ) (lo hi b factor : ℕ) (counts : List ℕ) : Type 0 where
  pub by : factor ≡ factor_of lo hi b
  pub most : hi ≤ 4095
  pub some : 0 < b
  pub room : b ≤ length counts
  pub greys : all (within lo hi) row ≡ true
  pub fits : (k : ℕ) → k < b → get_or counts k 0 + length row < 4294967296

-- what stands at k in four counts together
abbrev pub four_at : (a b c d : List ℕ) (k : ℕ) → ℕ
four_at a b c d k = get_or a k 0 + get_or b k 0 + get_or c k 0 + get_or d k 0

-- what `count_quarters` asks: as `count_row`, of four counts together
pub record FourAsks (row : List ℕ) (lo hi n factor : ℕ) (a b c d : List ℕ) : Type 0 where
  pub by : factor ≡ factor_of lo hi n
  pub most : hi ≤ 4095
  pub some : 0 < n
  pub rooma : n ≤ length a
  pub roomb : n ≤ length b
  pub roomc : n ≤ length c
  pub roomd : n ≤ length d
  pub greys : all (within lo hi) row ≡ true
  pub fits : (k : ℕ) → k < n → four_at a b c d k + length row < 4294967296

-- greys vs added to four counts: together they grow by them
pub record FourAdded (vs : List ℕ) (lo hi n : ℕ) (a₀ b₀ c₀ d₀ a b c d : List ℕ) : Type 0 where
  pub lengtha : length a ≡ length a₀
  pub lengthb : length b ≡ length b₀
  pub lengthc : length c ≡ length c₀
  pub lengthd : length d ≡ length d₀
  pub sum : (k : ℕ) → k < n → four_at a b c d k ≡ four_at a₀ b₀ c₀ d₀ k + times k (map (bin_of lo hi n) vs)

-- ---- by eight ways: a table has eight counts of each bin, side by side

-- the bin of a grey
abbrev pub bin_in : Binning → ℕ → ℕ
bin_in b v = bin_of b.min b.max b.bins v

-- its place in the table: the first of its bin's eight entries
abbrev pub place_in : Binning → ℕ → ℕ
place_in b v = bin_of b.min b.max b.bins v * 8

-- the factor of the range and the bins, and no more of either than eight ways are for
pub record BinningAsks (b : Binning) : Type 0 where
  pub by : b.factor ≡ factor_of b.min b.max b.bins
  pub most : b.max ≤ 4095
  pub some : 0 < b.bins
  pub few : b.bins ≤ 256

-- what the place of a grey asks
pub record BinAsks (b : Binning) (v : ℕ) : Type 0 where
  pub binning : BinningAsks b
  pub grey : within b.min b.max v ≡ true

-- what laying the places of a row into a line of `room` entries asks
pub record PlacesAsks (row : List ℕ) (b : Binning) (room : ℕ) : Type 0 where
  pub binning : BinningAsks b
  pub greys : all (within b.min b.max) row ≡ true
  pub enough : length row ≤ room

-- what stands in all ways of bin k together
unfoldable pub eight_at : (table : List ℕ) (k : ℕ) → ℕ
eight_at table k = sum 8 (λ j. get_or table (k * 8 + j) 0)

-- whether eight entries of a table of `size` begin at p, as a bin's do
abbrev pub is_place : (size p : ℕ) → Bool
is_place size p = eqb (p % 8) 0 && ltb (p + 7) size

-- each bin's ways together can grow by n
abbrev pub Grows : (table : List ℕ) (n : ℕ) → Type 0
Grows table n = (k : ℕ) → k * 8 + 7 < length table → eight_at table k + n < 4294967296

-- what adding one to a way asks
pub record AtAsks (place way : ℕ) (table : List ℕ) : Type 0 where
  pub at : is_place (length table) place ≡ true
  pub one : way < 8
  pub fits : Grows table 1

-- what adding the places of a line to the ways asks
pub record LineAsks (line : List ℕ) (table : List ℕ) : Type 0 where
  pub places : all (is_place (length table)) line ≡ true
  pub fits : Grows table (length line)

-- bins added to a table: the ways together grow by them
pub record WaysAdded (bins : List ℕ) (table₀ table : List ℕ) : Type 0 where
  pub size : length table ≡ length table₀
  pub grown : (k : ℕ) → k * 8 + 7 < length table₀ → eight_at table k ≡ eight_at table₀ k + times k bins

-- what adding the greys of a row to the ways asks
pub record PartAsks (row : List ℕ) (b : Binning) (table : List ℕ) : Type 0 where
  pub binning : BinningAsks b
  pub greys : all (within b.min b.max) row ≡ true
  pub enough : b.bins * 8 ≤ length table
  pub fits : Grows table (length row)

-- what `add_ways` asks: eight ways of n bins, and sums that fit an entry
pub record AddWaysAsks (n : ℕ) (table : List ℕ) : Type 0 where
  pub enough : n * 8 ≤ length table
  pub fits : (k : ℕ) → k < n → eight_at table k < 4294967296

-- what `count` asks: a rectangle inside the picture, "All pixels lie in it", and room for the bins
pub record CountRectAsks (pic : List ℕ) (stride : ℕ) (r : Rect) (lo hi b room : ℕ) : Type 0 where
  pub inside : Inside (length pic) stride r
  pub scale : Scale lo hi b
  pub enough : b ≤ room
  pub greys : all (within lo hi) (greys_of pic stride r) ≡ true

-- what adding the greys of a rectangle to counts asks: what `count` asks, the factor of the range and the bins, and counts to which they can be added
pub record AddAsks (pic : List ℕ) (stride : ℕ) (r : Rect) (lo hi b factor : ℕ) (counts : List ℕ) : Type 0 where
  pub asks : CountRectAsks pic stride r lo hi b (length counts)
  pub by : factor ≡ factor_of lo hi b
  pub fits : (k : ℕ) → k < b → get_or counts k 0 + r.width * r.height < 4294967296

-- the same of four counts together, as `count_rows` asks it
pub record CountRowsAsks (pic : List ℕ) (stride : ℕ) (r : Rect) (lo hi n factor : ℕ) (a b c d : List ℕ) : Type 0 where
  pub asks : CountRectAsks pic stride r lo hi n (length a)
  pub by : factor ≡ factor_of lo hi n
  pub roomb : n ≤ length b
  pub roomc : n ≤ length c
  pub roomd : n ≤ length d
  pub fits : (k : ℕ) → k < n → four_at a b c d k + r.width * r.height < 4294967296

-- the same of eight ways, as `count_ways` asks it
pub record CountWaysAsks (pic : List ℕ) (stride : ℕ) (r : Rect) (b : Binning) (table : List ℕ) : Type 0 where
  pub asks : CountRectAsks pic stride r b.min b.max b.bins 256
  pub by : b.factor ≡ factor_of b.min b.max b.bins
  pub enough : b.bins * 8 ≤ length table
  pub fits : Grows table (r.width * r.height)

-- what `add_up` asks: room for the bins, and sums that fit an entry
pub record AddUpAsks (a b c d : List ℕ) (n room : ℕ) : Type 0 where
  pub rooma : n ≤ length a
  pub roomb : n ≤ length b
  pub roomc : n ≤ length c
  pub roomd : n ≤ length d
  pub enough : n ≤ room
  pub fits : (k : ℕ) → k < n → four_at a b c d k < 4294967296
