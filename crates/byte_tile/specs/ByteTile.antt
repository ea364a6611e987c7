-- Document 02, order 1, byte films: what mapping one tile of bytes asks. What it leaves is said by the wide films' own definitions: "not stated again for bytes".
-- Assumes nothing.
use Rattle.std.specs.Prelude.{ℕ, ◌≤◌, List}
use Rattle.tile_limit.specs.declared.Clip.{Clip}
use Rattle.tile_count.specs.declared.Rect.{Rect}
use Rattle.tile_map.specs.Tile.{MappingAsks}

-- what `mapping` asks: what the wide mapping asks, no more than the profile's "Max 255" and "bins 64, 128 (or 0) or 256", and rows no wider than the widest film's
pub record ByteMappingAsks (pic : List ℕ) (stride : ℕ) (r : Rect) (lo hi b : ℕ) (clip : Clip) (scratch out : ℕ) : Type 0 where
  pub tile : MappingAsks pic stride r lo hi b clip scratch out
  pub few : b ≤ 256
  pub bytes : hi ≤ 255
  pub wide : r.width ≤ 4096
