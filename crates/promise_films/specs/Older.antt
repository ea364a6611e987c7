-- Order 8, the clip rule of 1986: what holds of each tile of an accepted film with clipping on. "Here these facts stand in for demand 3."
-- w and h are the film's width and height, pic its pixels, m the map buffer.
-- Assumes nothing.
use Rattle.std.specs.Prelude.{ℕ, ◌+◌, ◌-◌, ◌*◌, ◌≤◌, ◌<◌, min, List, ◌≡◌, Float, length, get_or}
use Rattle.base_lists.specs.Lists.{total}
use Rattle.tile_clip.specs.Clip.{excess}
use Rattle.tile_clip1986.specs.Older.{level_of}
use Rattle.tile_map.specs.Tile.{mapped_of}
use Rattle.film_settings.specs.declared.Settings.{Settings}
use Rattle.film_settings.specs.Settings.{bins_of}
use Rattle.film_count.specs.Counting.{raw_counts}
use Rattle.film_tiles.specs.Tiles.{pixels_in}
use Rattle.promise_films.specs.Films.{clipped_counts, steepest, limit_in}

-- a tile, or any rectangle, of n pixels and b bins with the limit c and the number p, in the edition of 1986: its raw counts, its new ones, and the map entry of each bin
pub record TileOlder (lo hi n b c p : ℕ) (raw new : List ℕ) (entry : ℕ → ℕ) : Type 0 where
  -- "P is the largest whole number from 0 to C for which what stands above P, summed over the bins, is at most B x (C - P)."
  pub upto : p ≤ c
  pub fits : excess p raw ≤ b * (c - p)
  pub largest : (q : ℕ) → p < q → q ≤ c → b * (c - q) < excess q raw
  -- a count for each bin
  pub bins : length new ≡ b
  -- "A bin below P becomes its count plus C - P, any other becomes C."
  pub raises : (i : ℕ) → i < b → get_or raw i 0 < p → get_or new i 0 ≡ get_or raw i 0 + (c - p)
  pub fills : (i : ℕ) → i < b → p ≤ get_or raw i 0 → get_or new i 0 ≡ c
  -- "T is at least N and less than N + B"
  pub atleast : n ≤ total new
  pub below : total new < n + b
  -- "no bin is above C or below the smaller of C and its count plus C - P"
  pub under : (i : ℕ) → i < b → get_or new i 0 ≤ c
  pub least : (i : ℕ) → i < b → min c (get_or raw i 0 + (c - p)) ≤ get_or new i 0
  -- "The mapping divides by the new total T instead of N"
  pub mapped : (i : ℕ) → i < b → entry i ≡ mapped_of lo hi (total new) new i
  -- it never falls
  pub grows : (i : ℕ) → i + 1 < b → entry i ≤ entry (i + 1)
  -- and rises by at most the limit times the grey range over T, rounded up
  pub slow : (i : ℕ) → i + 1 < b → entry (i + 1) ≤ entry i + steepest lo hi (total new) c
  pub begins : entry 0 ≤ lo + steepest lo hi (total new) c
  -- "and so still ends at Max"
  pub ends : entry (b - 1) ≡ hi

-- all of that of each tile, with its own N, C, P and T
abbrev pub FilmOlder : (w h : ℕ) (pic : List ℕ) (s : Settings) (f : Float) (m : List ℕ) → Type 0
FilmOlder w h pic s f m =
    (k : ℕ) → k < s.across * s.down
    → TileOlder s.min s.max (pixels_in w h s k) (bins_of s) (limit_in w h s f k) (level_of (limit_in w h s f k) (raw_counts w h pic s k)) (raw_counts w h pic s k) (clipped_counts w h pic s k)
    (λ b. get_or m (k * bins_of s + b) 0)
