-- What the functions of this crate ask of their callers, and what they leave.
-- Assumes nothing.
use Rattle.std.specs.Prelude.{ℕ, ◌+◌, ◌-◌, ◌*◌, ◌≤◌, ◌<◌, cond, List, map, ◌≡◌, ltb, length, get_or}
use Rattle.base_lists.specs.Lists.{total}
use Rattle.tile_clip.specs.Clip.{shared, taken, starts}
use Rattle.tile_clip.specs.Looks.{looks_from}
use Rattle.tile_clip.specs.declared.Standing.{Standing}

-- bins within "2 to 4096", one at least, a tile's counts, and a limit under which the bins hold them, as L always is (`tile_limit: limit_holds`)
pub record ClipAsks (limit : ℕ) (counts : List ℕ) : Type 0 where
  pub some_bin : 0 < length counts
  pub few_bins : length counts ≤ 4096
  pub few_pixels : total counts ≤ 4194304
  pub holds : total counts ≤ limit * length counts

-- the first pass: an even share that no bin is too small for, and an excess that all shares can be taken from
pub record PassAsks (limit q over : ℕ) (counts : List ℕ) : Type 0 where
  pub share_small : q ≤ limit
  pub all_taken : total (map (taken limit q) counts) ≤ over

-- the first pass, done: what each bin became, and what is left of the excess
pub record Passed (limit q over : ℕ) (before after : List ℕ) (r : ℕ) : Type 0 where
  pub bins : after ≡ map (shared limit q) before
  pub rest : r ≡ over - total (map (taken limit q) before)

-- the leftover walk: the bins have room for what is left, which is no more than a tile's pixels
pub record WalkAsks (limit left : ℕ) (counts : List ℕ) : Type 0 where
  pub some_bin : 0 < length counts
  pub few_bins : length counts ≤ 4096
  pub few_left : left ≤ 4194304
  pub room : total counts + left ≤ limit * length counts

-- the leftover walk, done: what the bins became, and how many looks it took
pub record Walked (limit left : ℕ) (before after : List ℕ) (looks : ℕ) : Type 0 where
  pub bins : after ≡ starts (left * length before) limit 0 before left
  pub taken : looks ≡ looks_from (left * length before) limit 0 before left

-- the bins from `end` on are full: no walk hands anything out from there on
pub record Shut (limit end : ℕ) (counts : List ℕ) : Type 0 where
  pub full : (i : ℕ) → end ≤ i → i < length counts → limit ≤ get_or counts i 0
  pub within : end ≤ length counts

-- "a bin under L gains one"
abbrev pub gain : ℕ → ℕ → ℕ
gain l c = cond (ltb c l) 1 0

-- what it becomes
abbrev pub gained : ℕ → ℕ → ℕ
gained l c = c + gain l c

-- a pass in which every bin under the limit gained one: what each bin became, and how many gained
pub record Raised (limit : ℕ) (before after : List ℕ) (sum : ℕ) : Type 0 where
  pub bins : after ≡ map (gained limit) before
  pub gains : sum ≡ total (map (gain limit) before)

-- starts, done: what is still to be done from here on is what was to be done before them
pub record WalkStands (limit left : ℕ) (before after : List ℕ) (s : Standing) : Type 0 where
  pub same : starts (s.left * length after) limit s.start after s.left ≡ starts (left * length before) limit 0 before left
  pub looked : s.looks + looks_from (s.left * length after) limit s.start after s.left ≡ looks_from (left * length before) limit 0 before left
  pub asks : WalkAsks limit s.left after
  pub bin : s.start < length after
  pub shut : Shut limit s.end after
