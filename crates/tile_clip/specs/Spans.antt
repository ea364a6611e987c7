-- Clipping where only some bins in a row hold anything: b bins, of which those before bin `lo` and those behind the list are alike. l is the limit L.
-- Assumes nothing.
use Rattle.std.specs.Prelude.{ℕ, ◌+◌, ◌-◌, ◌*◌, ◌/◌, ◌≤◌, ◌<◌, min, max, List, ◌++◌, ◌≡◌, length, take, Option, IfSome}
use Rattle.base_lists.specs.Lists.{total, tab}
use Rattle.tile_clip.specs.Clip.{Spread, walk, starts, clipped}
use Rattle.tile_clip.specs.Looks.{apart}
use Rattle.tile_clip.specs.declared.Handed.{Handed}

-- all b bins: q each before bin `lo`, then the counts of the list, then q each again
unfoldable pub framed : (q b lo : ℕ) (cs : List ℕ) → List ℕ
framed q b lo cs = tab lo (λ k. q) ++ (cs ++ tab (b - (lo + length cs)) (λ k. q))

-- "the step is floor(B / r), at least 1"
abbrev pub step_of : ℕ → ℕ → ℕ
step_of b r = max 1 (b / r)

-- a walk that passes over `gap` bins and then looks at each step-th: how many bins behind the first n it passes over
abbrev pub on_to : (step gap n : ℕ) → ℕ
on_to step gap n = gap + step * apart step (n - gap) - n

-- the walk of a start over the list, where it finds the bins before it under the limit
abbrev pub part_walk : (l step lo start : ℕ) (cs : List ℕ) (left : ℕ) → Spread
part_walk l step lo start cs left = walk l step (on_to step start lo) cs (left - apart step (lo - start))

-- what the walk of a start asks
pub record TurnAsks (b lo start left : ℕ) (cs : List ℕ) : Type 0 where
  pub some : 0 < left
  pub few_left : left ≤ 4194304
  pub few_bins : b ≤ 4096
  pub within : lo + length cs ≤ b
  pub bin : start < b

-- the walk of a start, done where all bins before the list and behind it are under the limit: what they took is a number of places
pub record Turned (l b lo start left : ℕ) (cs ds : List ℕ) (h : Handed) : Type 0 where
  pub under : h.below ≡ min left (apart (step_of b left) (lo - start))
  pub bins : ds ≡ (part_walk l (step_of b left) lo start cs left).counts
  pub rest : h.left ≡ (part_walk l (step_of b left) lo start cs left).rest - apart (step_of b left) (b - (lo + length cs) - on_to (step_of b left) (on_to (step_of b left) start lo) (length cs))

-- what the starts ask: the bins before the list and behind it hold q each, and `most` starts leave them under the limit
pub record TurnsAsks (l b lo most q left : ℕ) (cs : List ℕ) : Type 0 where
  pub few_left : left ≤ 4194304
  pub few_bins : b ≤ 4096
  pub within : lo + length cs ≤ b
  pub under : q + most ≤ l
  pub fewer : most < b

-- the starts, done where nothing is left: what bins 0 up to one of the list hold together
pub record TurnsLeft (l b lo q left : ℕ) (cs ds : List ℕ) (h : Handed) : Type 0 where
  pub size : length ds ≡ length cs
  pub few : h.below ≤ left
  pub sums : h.left ≡ 0 → (j : ℕ) → j ≤ length cs → total (take (lo + j) (starts (left * b) l 0 (framed q b lo cs) left)) ≡ lo * q + h.below + total (take j ds)

-- what clipping asks: bins and pixels of a tile, and a limit under which all bins hold them
pub record SpanAsks (l b lo : ℕ) (cs : List ℕ) : Type 0 where
  pub some_bin : 0 < b
  pub few_bins : b ≤ 4096
  pub within : lo + length cs ≤ b
  pub few_pixels : total cs ≤ 4194304
  pub holds : total cs ≤ l * b

-- clipping, done where there is an answer: what bins 0 up to one of the list hold together
pub record SpanLeft (l b lo : ℕ) (cs ds : List ℕ) (o : Option ℕ) : Type 0 where
  pub size : length ds ≡ length cs
  pub sums : IfSome o (λ below. (j : ℕ) → j ≤ length cs → total (take (lo + j) (clipped l (framed 0 b lo cs))) ≡ below + total (take j ds))
