-- Order 6, films of any size: the edges and centres of a film's tile columns or rows.
-- One definition serves columns and rows: `side` is the film's width or height, `grid` the tiles across or down.
-- Assumes nothing.
use Rattle.std.specs.Prelude.{ℕ, ◌+◌, ◌-◌, ◌*◌, ◌/◌, ◌≤◌, Bool, cond, ◌&&◌, leb, ltb}
use Rattle.base_lists.specs.Lists.{tab, same}
use Rattle.pixel_grid.specs.declared.Axis.{Axis}

-- "Tile column i shall run from floor(i x width / grid) up to floor((i + 1) x width / grid), rows likewise": edge i
unfoldable pub edge_of : (side grid i : ℕ) → ℕ
edge_of side grid i = i * side / grid

-- so tile i is this wide (or high)
unfoldable pub size_of : (side grid i : ℕ) → ℕ
size_of side grid i = edge_of side grid (i + 1) - edge_of side grid i

-- "A tile's centre is floor((its first column + the column after its last) / 2)"
unfoldable pub centre_of : (side grid i : ℕ) → ℕ
centre_of side grid i = (edge_of side grid i + edge_of side grid (i + 1)) / 2

-- ---- what a map record keeps of them

-- edge i of 17, which are one more than the tiles can be: 0 behind the last
unfoldable pub edge_at_of : (side grid i : ℕ) → ℕ
edge_at_of side grid i = cond (leb i grid) (edge_of side grid i) 0

-- centre i of 16: 0 behind the last
unfoldable pub centre_at_of : (side grid i : ℕ) → ℕ
centre_at_of side grid i = cond (ltb i grid) (centre_of side grid i) 0

-- "The map record keeps the edges and centres"
unfoldable pub axis_of : ℕ → ℕ → Axis
axis_of side grid = record { edges = tab 17 (edge_at_of side grid); centres = tab 16 (centre_at_of side grid) }

-- the edges and centres beside a refusal, which has no film: all 0
unfoldable pub no_axis_of : Axis
no_axis_of = record { edges = tab 17 (λ i. 0); centres = tab 16 (λ i. 0) }

-- whether two are the same, entry by entry
unfoldable pub same_axis_of : Axis → Axis → Bool
same_axis_of a b = same a.edges b.edges && same a.centres b.centres

-- ---- what the functions ask

-- a side that is not shorter than its grid
pub record Fits (side grid : ℕ) : Type 0 where
  pub some : 2 ≤ grid
  pub few : grid ≤ 16
  pub least : grid ≤ side
  pub most : side ≤ 4096
