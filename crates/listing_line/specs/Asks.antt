-- What the functions of this crate ask of their callers, and what they leave.
-- Assumes nothing.
use Rattle.std.specs.Prelude.{ℕ, ◌+◌, ◌*◌, ◌/◌, ◌%◌, ◌≤◌, ◌<◌, Bool, true, List, [], ◌∷◌, ◌≡◌, ltb, length, get_or}
use Rattle.base_lists.specs.Lists.{all, onto, over}

-- a number of at most five digits
abbrev pub short : ℕ → Bool
short n = ltb n 100000

-- a text laid down at a place of the output, and the place behind it
pub record Laid (out₀ : List ℕ) (at : ℕ) (text out : List ℕ) (r : ℕ) : Type 0 where
  pub bytes : out ≡ over out₀ at text
  pub next : r ≡ at + length text

-- a text laid down at the front of the output, and its length
pub record Told (out₀ text out : List ℕ) (r : ℕ) : Type 0 where
  pub bytes : out ≡ onto out₀ text
  pub count : r ≡ length text

-- what `write_line` asks: numbers of at most five digits, one at least, and room for each with the byte behind it
pub record LineAsks (at : ℕ) (numbers : List ℕ) (room : ℕ) : Type 0 where
  pub some : 0 < length numbers
  pub small : all short numbers ≡ true
  pub fitting : at + 6 * length numbers ≤ room

-- the fields of a tile's line: row, column, E, the looks and the mapping, which stands in the map buffer's k-th four entries
abbrev pub tile_fields : (k e n : ℕ) (m : List ℕ) → List ℕ
tile_fields k e n m = k / 2 ∷ k % 2 ∷ e ∷ n ∷ get_or m (k * 4) 0 ∷ get_or m (k * 4 + 1) 0 ∷ get_or m (k * 4 + 2) 0 ∷ get_or m (k * 4 + 3) 0 ∷ []

-- what `tile_line` asks: one of the four tiles, its excess and looks, a map of four mappings, and room
pub record TileLineAsks (at k e n : ℕ) (map : List ℕ) (room : ℕ) : Type 0 where
  pub tile : k < 4
  pub excess : e < 100000
  pub looks : n < 100000
  pub entries : length map ≡ 16
  pub fitting : at + 48 ≤ room
