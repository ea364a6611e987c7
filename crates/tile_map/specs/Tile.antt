-- Document 01, "From pixels to mappings", rule 5, and which counts are mapped: one tile.
-- lo and hi are Min and Max, b the bins B, n the pixels N of a tile.
-- Assumes nothing.
use Rattle.std.specs.Prelude.{ℕ, ◌+◌, ◌-◌, ◌*◌, ◌/◌, ◌≤◌, ◌<◌, true, List, ◌≡◌, length, take}
use Rattle.base_lists.specs.Lists.{tab, total, onto}
use Rattle.tile_limit.specs.declared.Clip.{Clip}
use Rattle.tile_limit.specs.declared.Clip.TheVariants.{Off, Factor}
use Rattle.tile_limit.specs.declared.Edition.{Edition}
use Rattle.tile_limit.specs.declared.Edition.TheVariants.{Ours, Of1986}
use Rattle.tile_limit.specs.Limit.{limit_of, allowed}
use Rattle.tile_clip.specs.declared.Spent.{Spent}
use Rattle.tile_clip.specs.Clip.{excess, clipped}
use Rattle.tile_clip.specs.Looks.{spent_as, spent_of}
use Rattle.tile_clip1986.specs.Older.{older}
use Rattle.tile_count.specs.declared.Rect.{Rect}
use Rattle.tile_count.specs.Tally.{counts_of, CountRectAsks}
use Rattle.tile_map.specs.declared.Clipped.{Clipped}

-- counts clipped at a limit by an edition's rule: ours, or order 8's, "the clip rule of 1986"
abbrev pub clipped_in : Edition → ℕ → List ℕ → List ℕ
clipped_in Ours l cs = clipped l cs
clipped_in Of1986 l cs = older l cs

-- "With clip off, steps 2 to 4 are skipped and the raw counts are mapped"; else they are clipped at L
unfoldable pub clipped_by : Edition → Clip → ℕ → List ℕ → List ℕ
clipped_by e Off n cs = cs
clipped_by e (Factor f) n cs = clipped_in e (limit_of f n (length cs)) cs

-- what the mapping of clipped counts divides by: N, and in the edition of 1986 "the new total T instead of N"
abbrev pub divided_in : Edition → ℕ → List ℕ → ℕ
divided_in Ours n ds = n
divided_in Of1986 n ds = total ds

-- "Clip off .. stay as in 01": N; else by the edition
unfoldable pub divided_by : Edition → Clip → ℕ → List ℕ → ℕ
divided_by e Off n cs = n
divided_by e (Factor f) n cs = divided_in e n (clipped_by e (Factor f) n cs)

-- "Mapping of bin b: Min + floor(S x R / N), with S the sum of the clipped counts of bins 0 to b"
unfoldable pub mapped_of : (lo hi n : ℕ) (cs : List ℕ) (k : ℕ) → ℕ
mapped_of lo hi n cs k = lo + total (take (k + 1) cs) * (hi - lo) / n

-- the mapping of all bins, "bins upward"
unfoldable pub mapping_of : (lo hi n : ℕ) (cs : List ℕ) → List ℕ
mapping_of lo hi n cs = tab (length cs) (mapped_of lo hi n cs)

-- the mapping of a tile's raw counts by the clip setting
unfoldable pub counts_mapping : (lo hi : ℕ) (e : Edition) (clip : Clip) (n : ℕ) (cs : List ℕ) → List ℕ
counts_mapping lo hi e clip n cs = mapping_of lo hi (divided_by e clip n cs) (clipped_by e clip n cs)

-- the clipped (or raw) counts of a tile with these greys
unfoldable pub tile_counts : (lo hi b : ℕ) (e : Edition) (clip : Clip) (vs : List ℕ) → List ℕ
tile_counts lo hi b e clip vs = clipped_by e clip (length vs) (counts_of lo hi b vs)

-- what their mapping divides by
unfoldable pub tile_divides : (lo hi b : ℕ) (e : Edition) (clip : Clip) (vs : List ℕ) → ℕ
tile_divides lo hi b e clip vs = divided_by e clip (length vs) (counts_of lo hi b vs)

-- and the mapping of these same counts
unfoldable pub tile_mapping : (lo hi b : ℕ) (e : Edition) (clip : Clip) (vs : List ℕ) → List ℕ
tile_mapping lo hi b e clip vs = counts_mapping lo hi e clip (length vs) (counts_of lo hi b vs)

-- order 7, "E, and the number of looks" by an edition's rule; of 1986, "E is what stands above C, and the looks are 0 here"
abbrev pub took_in : Edition → ℕ → List ℕ → Spent
took_in Ours l cs = spent_of l cs
took_in Of1986 l cs = spent_as (excess l cs) 0

-- of a tile's raw counts: "With clip off both are 0"
unfoldable pub spent_by : Edition → Clip → ℕ → List ℕ → Spent
spent_by e Off n cs = spent_as 0 0
spent_by e (Factor f) n cs = took_in e (limit_of f n (length cs)) cs

-- and of a tile with these greys
unfoldable pub tile_spent : (lo hi b : ℕ) (e : Edition) (clip : Clip) (vs : List ℕ) → Spent
tile_spent lo hi b e clip vs = spent_by e clip (length vs) (counts_of lo hi b vs)

-- ---- what the functions ask

-- a clip setting whose limit can be worked out, and whose limit has room for n pixels in b bins
pub data Holds : Clip → ℕ → ℕ → Type 0 where
  off : {n b : ℕ} → Holds Off n b
  factor : {f : lib.Ieee.Float} {n b : ℕ} → allowed f ≡ true → n ≤ limit_of f n b * b → Holds (Factor f) n b

-- what `map` asks: counts of at most n, which is below N + B, and room for a mapped value of each bin
pub record MapBinsAsks (counts : List ℕ) (n lo hi room : ℕ) : Type 0 where
  pub sum : total counts ≤ n
  pub some : 0 < n
  pub few : n ≤ 4198400
  pub order : lo ≤ hi
  pub most : hi ≤ 4095
  pub enough : length counts ≤ room

-- what `clip_in` asks: the counts of n pixels, and a limit that has room for them
pub record ClipInAsks (n most : ℕ) (counts : List ℕ) : Type 0 where
  pub all_pixels : total counts ≡ n
  pub few_pixels : n ≤ 4194304
  pub some : 0 < length counts
  pub few : length counts ≤ 4096
  pub room : n ≤ most * length counts

-- what `clip_by` asks: the counts of n pixels, and a clip setting whose limit has room for them
pub record ClipByAsks (clip : Clip) (n : ℕ) (counts : List ℕ) : Type 0 where
  pub holds : Holds clip n (length counts)
  pub all_pixels : total counts ≡ n
  pub few_pixels : n ≤ 4194304
  pub some : 2 ≤ length counts
  pub few : length counts ≤ 4096

-- what `from_counts` asks: what `clip_by` and `map` ask of the counts of n pixels
pub record FromCountsAsks (clip : Clip) (n lo hi : ℕ) (counts : List ℕ) (room : ℕ) : Type 0 where
  pub counted : ClipByAsks clip n counts
  pub some : 0 < n
  pub order : lo ≤ hi
  pub most : hi ≤ 4095
  pub enough : length counts ≤ room

-- what `mapping` asks: what `count` asks, a clip setting whose limit has room for the tile, and room for the mapping
pub record MappingAsks (pic : List ℕ) (stride : ℕ) (r : Rect) (lo hi b : ℕ) (clip : Clip) (scratch out : ℕ) : Type 0 where
  pub counts : CountRectAsks pic stride r lo hi b scratch
  pub holds : Holds clip (r.width * r.height) b
  pub room : b ≤ out

-- what `clip_in` leaves: the counts by the edition's rule; the answer is what their mapping divides by, and what clipping took
pub record InClipped (e : Edition) (n most : ℕ) (cs ds : List ℕ) (r : Clipped) : Type 0 where
  pub counts : ds ≡ clipped_in e most cs
  pub over : r.over ≡ divided_in e n (clipped_in e most cs)
  pub spent : r.spent ≡ took_in e most cs

-- and `clip_by`, by the clip setting
pub record ByClipped (e : Edition) (clip : Clip) (n : ℕ) (cs ds : List ℕ) (r : Clipped) : Type 0 where
  pub counts : ds ≡ clipped_by e clip n cs
  pub over : r.over ≡ divided_by e clip n cs
  pub spent : r.spent ≡ spent_by e clip n cs

-- what `mapping` leaves: the counts in the front of the scratch, the mapping in the front of the output, all else as it was; and what clipping took
pub record TileMapped (lo hi b : ℕ) (e : Edition) (clip : Clip) (vs scratch₀ scratch out₀ out : List ℕ) (took : Spent) : Type 0 where
  pub counts : scratch ≡ onto scratch₀ (tile_counts lo hi b e clip vs)
  pub mapping : out ≡ onto out₀ (tile_mapping lo hi b e clip vs)
  pub spent : took ≡ tile_spent lo hi b e clip vs

-- what `from_counts` leaves of counts: the clipped ones, their mapping in the front of the output; and what clipping took
pub record FromMapped (e : Edition) (clip : Clip) (n lo hi : ℕ) (cs ds out₀ out : List ℕ) (took : Spent) : Type 0 where
  pub counts : ds ≡ clipped_by e clip n cs
  pub mapping : out ≡ onto out₀ (counts_mapping lo hi e clip n cs)
  pub spent : took ≡ spent_by e clip n cs
