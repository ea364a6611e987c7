-- "Bins B: 2 to 4096. 0 means 128.", for every input: with the settings as they are kept, a film has the same mappings, list and footer.
-- Assumes nothing.
use Prim.Native.Nat.{ℕ, ◌*◌}
use mathlib.Core.List.{List}
use mathlib.Core.Path.{◌≡◌, ap}
use Rattle.base_lists.specs.Lists.{joined}
use Rattle.tile_count.specs.Tally.{greys_of}
use Rattle.tile_map.specs.Tile.{tile_mapping, tile_spent}
use Rattle.film_settings.specs.declared.Settings.{Settings}
use Rattle.film_settings.specs.Settings.{kept_of}
use Rattle.film_settings.proofs.Like.{bins_kept}
use Rattle.film_tiles.specs.Tiles.{tile_of, pixels_in, tile_map_of, mappings, spent_in, spent_pair, spents, footer_of, foot_of}

-- the mappings
pub mappings_kept : (w h : ℕ) (pic : List ℕ) (s : Settings) → mappings w h pic (kept_of s) ≡ mappings w h pic s
unfolding mappings tile_map_of
mappings_kept w h pic s =
    ap (λ b. joined (s.across * s.down) (λ k. tile_mapping s.min s.max b s.edition s.clip (greys_of pic w (tile_of w h s k)))) (bins_kept s)

-- what clipping the tiles takes
pub spents_kept : (w h : ℕ) (pic : List ℕ) (s : Settings) → spents w h pic (kept_of s) ≡ spents w h pic s
unfolding spents spent_in
spents_kept w h pic s =
    ap (λ b. joined (s.across * s.down) (λ k. spent_pair (tile_spent s.min s.max b s.edition s.clip (greys_of pic w (tile_of w h s k))))) (bins_kept s)

-- the footer
pub foot_kept : (w h : ℕ) (s : Settings) → foot_of w h (kept_of s) ≡ foot_of w h s
unfolding foot_of
foot_kept w h s = ap (footer_of s.clip (pixels_in w h s 0)) (bins_kept s)
