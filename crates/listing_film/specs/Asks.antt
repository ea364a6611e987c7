-- What the functions of this crate ask of their callers, and what they leave.
-- Assumes nothing.
use Rattle.std.specs.Prelude.{ℕ, ◌+◌, ◌*◌, ◌≤◌, ◌<◌, List, [], ◌∷◌, ◌++◌, ◌≡◌, length, get_or}
use Rattle.base_lists.specs.Lists.{joined}
use Rattle.listing_line.specs.Lines.{line}
use Rattle.listing_line.specs.Asks.{tile_fields}

-- the first line, with the limit that `film_lines` is handed
abbrev pub first_kept : (w h maxval l : ℕ) → List ℕ
first_kept w h maxval l = line (w ∷ h ∷ 2 ∷ 2 ∷ 4 ∷ 0 ∷ maxval ∷ l ∷ [])

-- the line of tile k from what prepare left: its two entries of the list, E and the looks, and its mapping in the map buffer
unfoldable pub kept_line : List ℕ → List ℕ → ℕ → List ℕ
kept_line map list k = line (tile_fields k (get_or list (k * 2) 0) (get_or list (k * 2 + 1) 0) map)

-- the text that `film_lines` lays down, from the limit, the map's entries and the list's; where these are a film's own it is `film_text`, by the law `text_kept`
unfoldable pub kept_text : (w h maxval l : ℕ) (map list : List ℕ) → List ℕ
kept_text w h maxval l map list = first_kept w h maxval l ++ joined 4 (kept_line map list)

-- what `film_lines` asks: sizes, a limit, and two entries for each of the four tiles, all of at most five digits; a map of four mappings, and room
pub record LinesAsk (w h m l : ℕ) (map list : List ℕ) (room : ℕ) : Type 0 where
  pub width : w < 100000
  pub height : h < 100000
  pub maxval : m < 100000
  pub limit : l < 100000
  pub entries : length map ≡ 16
  pub pairs : length list ≡ 8
  pub excess : (k : ℕ) → k < 4 → get_or list (k * 2) 0 < 100000
  pub looks : (k : ℕ) → k < 4 → get_or list (k * 2 + 1) 0 < 100000
  pub fitting : 512 ≤ room
