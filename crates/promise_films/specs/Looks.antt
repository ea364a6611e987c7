-- Order 7, "how long the leftover walk is": what holds of the list that prepare or mapping leaves of an accepted film, and when prepare's is refused.
-- w and h are the film's width and height, pic its pixels, n the list.
-- Assumes nothing.
use Rattle.std.specs.Prelude.{ℕ, ◌+◌, ◌*◌, ◌≤◌, ◌<◌, List, ◌≡◌, Float, length, get_or}
use Rattle.base_rows.specs.Refuse.{first}
use Rattle.tile_clip.specs.Clip.{excess, left}
use Rattle.tile_clip.specs.Looks.{looks_of}
use Rattle.film_settings.specs.declared.Settings.{Settings}
use Rattle.film_settings.specs.Settings.{bins_of, shared_rows}
use Rattle.film_tiles.specs.Tiles.{spent_entries}
use Rattle.film_count.specs.Counting.{raw_counts}
use Rattle.promise_films.specs.Films.{limit_in}

-- "each tile in row order has two entries: E": entry 2k, of tile k
abbrev pub excess_at : List ℕ → ℕ → ℕ
excess_at n k = get_or n (2 * k) 0

-- "and the number of looks": entry 2k + 1
abbrev pub looks_at : List ℕ → ℕ → ℕ
looks_at n k = get_or n (2 * k + 1) 0

-- a tile of b bins with the limit l and these raw counts: its entries e and n, E and the looks
pub record TileLooks (b l : ℕ) (raw : List ℕ) (e n : ℕ) : Type 0 where
  -- a count for each bin
  pub bins : length raw ≡ b
  -- E: "the sum over bins of what stands above L"
  pub above : e ≡ excess l raw
  -- "the number of looks that the rule in 01 takes, a look at a full bin counted too"
  pub looks : n ≡ looks_of l raw
  -- "With r units left at the start of the walk .. it is 0 when r is 0"
  pub none : left l raw ≡ 0 → n ≡ 0
  -- "and B bins it is .. never more than r x B x (B + 1) / 2": twice of it
  pub most : 2 * n ≤ left l raw * (b * (b + 1))

-- all of that of every tile, with its own L for the factor f, of these counts of tile k
abbrev pub TilesLooks : ℕ → ℕ → Settings → Float → (ℕ → List ℕ) → List ℕ → Type 0
TilesLooks w h s f counts n = (k : ℕ) → k < s.across * s.down → TileLooks (bins_of s) (limit_in w h s f k) (counts k) (excess_at n k) (looks_at n k)

-- and of a film's, with each tile's own raw counts
abbrev pub FilmLooks : (w h : ℕ) (pic : List ℕ) (s : Settings) (f : Float) (n : List ℕ) → Type 0
FilmLooks w h pic s f n = TilesLooks w h s f (raw_counts w h pic s) n

-- "With clip off both are 0": of every tile
abbrev pub NoLooks : Settings → List ℕ → Type 0
NoLooks s n = (k : ℕ) → k < s.across * s.down → (excess_at n k ≡ 0) × (looks_at n k ≡ 0)

-- order 8, in the edition of 1986: "In order 7's list E is what stands above C, and the looks are 0 here": of every tile, with its own C for the factor f, of these counts of tile k
abbrev pub TilesOlderLooks : ℕ → ℕ → Settings → Float → (ℕ → List ℕ) → List ℕ → Type 0
TilesOlderLooks w h s f counts n = (k : ℕ) → k < s.across * s.down → (excess_at n k ≡ excess (limit_in w h s f k) (counts k)) × (looks_at n k ≡ 0)

-- and of a film's, with each tile's own raw counts
abbrev pub FilmOlderLooks : (w h : ℕ) (pic : List ℕ) (s : Settings) (f : Float) (n : List ℕ) → Type 0
FilmOlderLooks w h pic s f n = TilesOlderLooks w h s f (raw_counts w h pic s) n

-- 32, "this list is shorter than twice the number of tiles, straight after 12": with so many entries of the map buffer, the scratch and the list
pub record ListShort (w h : ℕ) (pic : List ℕ) (s : Settings) (room scratch list : ℕ) : Type 0 where
  -- none of 1 to 11 and 31 applies
  pub before : first (shared_rows w h (length pic) s room) ≡ 0
  -- nor does 12
  pub bins : bins_of s ≤ scratch
  -- and the list is shorter
  pub short : list < spent_entries s
