-- Document 01, "From pixels to mappings", rules 2 to 5, for one bin: the counts clipped, and the mapped value of that bin alone.
-- lo and hi are Min and Max, n the pixels N, k the bin.
-- Assumes nothing.
use Rattle.std.specs.Prelude.{ℕ, ◌+◌, ◌≤◌, ◌<◌, List, ◌≡◌, length, Option, IfSome}
use Rattle.tile_limit.specs.declared.Clip.{Clip}
use Rattle.tile_limit.specs.declared.Edition.{Edition}
use Rattle.tile_clip.specs.Clip.{clipped}
use Rattle.tile_clip.specs.Spans.{framed}
use Rattle.tile_map.specs.Tile.{clipped_by, divided_by, mapped_of, ClipInAsks, ClipByAsks}

-- what `value` asks: the counts of n pixels, a clip setting whose limit has room for them, and one of the bins
pub record ValueAsks (clip : Clip) (n lo hi k : ℕ) (counts : List ℕ) : Type 0 where
  pub counted : ClipByAsks clip n counts
  pub some : 0 < n
  pub order : lo ≤ hi
  pub most : hi ≤ 4095
  pub bin : k < length counts

-- what it leaves and answers: the clipped counts, and "Min + floor(S x R / N), with S the sum of the clipped counts of bins 0 to b"; order 8's T for N
pub record ValueGiven (e : Edition) (clip : Clip) (n lo hi k : ℕ) (cs ds : List ℕ) (r : ℕ) : Type 0 where
  pub counts : ds ≡ clipped_by e clip n cs
  pub value : r ≡ mapped_of lo hi (divided_by e clip n cs) (clipped_by e clip n cs) k

-- ---- where only the b bins of a list from bin `at` on hold anything, and k is one of them

-- what a limit in our edition asks
pub record LimitedAsks (most n lo hi k b at : ℕ) (cs : List ℕ) : Type 0 where
  pub counted : ClipInAsks n most (framed 0 b at cs)
  pub some : 0 < n
  pub order : lo ≤ hi
  pub top : hi ≤ 4095
  pub within : at + length cs ≤ b
  pub first : at ≤ k
  pub last : k < at + length cs

-- what it answers, if it does
pub record LimitedGiven (most n lo hi k b at : ℕ) (cs ds : List ℕ) (f : Option ℕ) : Type 0 where
  pub size : length ds ≡ length cs
  pub value : IfSome f (λ v. v ≡ mapped_of lo hi n (clipped most (framed 0 b at cs)) k)

-- what a setting asks
pub record SpanValueAsks (clip : Clip) (n lo hi k b at : ℕ) (cs : List ℕ) : Type 0 where
  pub whole : ValueAsks clip n lo hi k (framed 0 b at cs)
  pub within : at + length cs ≤ b
  pub first : at ≤ k
  pub last : k < at + length cs

-- and answers, if it does: what `value` answers for all bins
pub record SpanValueGiven (e : Edition) (clip : Clip) (n lo hi k b at : ℕ) (cs ds : List ℕ) (f : Option ℕ) : Type 0 where
  pub size : length ds ≡ length cs
  pub value : IfSome f (λ v. v ≡ mapped_of lo hi (divided_by e clip n (framed 0 b at cs)) (clipped_by e clip n (framed 0 b at cs)) k)
