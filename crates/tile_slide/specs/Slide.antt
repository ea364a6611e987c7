-- Document 02, order 13: the region around a pixel, and counts from which greys are taken.
-- w and h are the film's width and height, `side` the region's; lo and hi are Min and Max, b the bins B.
-- Assumes nothing.
use Rattle.std.specs.Prelude.{ℕ, ◌+◌, ◌-◌, ◌*◌, ◌/◌, ◌≤◌, ◌<◌, min, true, List, map, ◌≡◌, length, drop, get_or}
use Rattle.base_lists.specs.Lists.{times, filled, all}
use Rattle.base_range.specs.Scan.{within}
use Rattle.tile_bin.specs.Binning.{bin_of, factor_of}
use Rattle.tile_count.specs.declared.Rect.{Rect}
use Rattle.tile_count.specs.Tally.{greys_of, Inside, Scale}

-- the first column (or row) of the region around x: "centred on the pixel and cut off at the film's border"
unfoldable pub first_of : ℕ → ℕ → ℕ
first_of side x = x - side / 2

-- the column (or row) after its last
unfoldable pub end_of : (side most x : ℕ) → ℕ
end_of side most x = min (x + side / 2 + 1) most

-- the columns from a up to e of the rows of the region around row y
abbrev pub strip : (h side y a e : ℕ) → Rect
strip h side y a e = record { left = a; top = first_of side y; width = e - a; height = end_of side h y - first_of side y }

-- the region around the pixel in column x and row y
unfoldable pub region_rect : (w h side x y : ℕ) → Rect
region_rect w h side x y = strip h side y (first_of side x) (end_of side w x)

-- the column that the region around x loses as it moves right, or none: "drops one column of counts"
abbrev pub lost_of : (h side x y : ℕ) → Rect
lost_of h side x y = strip h side y (first_of side x) (first_of side (x + 1))

-- the one that it gains, or none: "and adds another"
abbrev pub gained_of : (w h side x y : ℕ) → Rect
gained_of w h side x y = strip h side y (end_of side w x) (end_of side w (x + 1))

-- counts from which greys are taken: the count of bin k falls by how many of them are in bin k
unfoldable pub taken_of : (lo hi b : ℕ) (cs vs : List ℕ) → List ℕ
taken_of lo hi b cs vs = filled (λ k. get_or cs k 0 - times k (map (bin_of lo hi b) vs)) cs b

-- what taking greys asks: the factor of the range and the bins, room for the bins, greys from Min to Max, and counts that hold them
pub record TakeAsks (vs : List ℕ) (lo hi b factor : ℕ) (counts : List ℕ) : Type 0 where
  pub by : factor ≡ factor_of lo hi b
  pub most : hi ≤ 4095
  pub some : 0 < b
  pub room : b ≤ length counts
  pub greys : all (within lo hi) vs ≡ true
  pub holds : (k : ℕ) → k < b → times k (map (bin_of lo hi b) vs) ≤ get_or counts k 0

-- of a rectangle inside the picture
pub record TakeRectAsks (pic : List ℕ) (stride : ℕ) (r : Rect) (lo hi b factor : ℕ) (counts : List ℕ) : Type 0 where
  pub inside : Inside (length pic) stride r
  pub asks : TakeAsks (greys_of pic stride r) lo hi b factor counts

-- what a region asks: a side as the order has it, and a pixel of the film
pub record RegionAsks (w h side x y : ℕ) : Type 0 where
  pub few : side ≤ 63
  pub across : x < w
  pub down : y < h
  pub wide : w ≤ 4096
  pub high : h ≤ 4096

-- what moving right asks: a film whose pixels lie in Min to Max, bins and their factor, and the counts of the region around x in front
pub record SlideAsks (pic : List ℕ) (w h side x y lo hi b factor : ℕ) (counts : List ℕ) : Type 0 where
  pub region : RegionAsks w h side x y
  pub whole : length pic ≡ w * h
  pub by : factor ≡ factor_of lo hi b
  pub scale : Scale lo hi b
  pub room : b ≤ length counts
  pub greys : all (within lo hi) pic ≡ true
  pub front : (k : ℕ) → k < b → get_or counts k 0 ≡ times k (map (bin_of lo hi b) (greys_of pic w (region_rect w h side x y)))

-- what a strip asks
pub record StripAsks (h side y a e : ℕ) : Type 0 where
  pub few : side ≤ 63
  pub down : y < h
  pub high : h ≤ 4096
  pub order : a ≤ e

-- what adding the gained column asks: that film, bins and factor, and counts to which it can be added
pub record GainAsks (pic : List ℕ) (w h side x y lo hi b factor : ℕ) (counts : List ℕ) : Type 0 where
  pub region : RegionAsks w h side x y
  pub whole : length pic ≡ w * h
  pub by : factor ≡ factor_of lo hi b
  pub scale : Scale lo hi b
  pub room : b ≤ length counts
  pub greys : all (within lo hi) pic ≡ true
  pub few : (k : ℕ) → k < b → get_or counts k 0 ≤ 4194304

-- what moving right leaves: the counts of the region around x + 1 in front, "a fresh region's counts"; what lies behind the bins stays
pub record Slid (pic : List ℕ) (w h side x y lo hi b : ℕ) (counts₀ counts : List ℕ) : Type 0 where
  pub front : (k : ℕ) → k < b → get_or counts k 0 ≡ times k (map (bin_of lo hi b) (greys_of pic w (region_rect w h side (x + 1) y)))
  pub behind : drop b counts ≡ drop b counts₀
  pub size : length counts ≡ length counts₀
