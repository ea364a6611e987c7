-- Laws of order 7's list that mapping leaves, of any counts: each tile has two entries in row order, and entries behind the last tile stay.
-- Assumes nothing.
use Prim.Native.Nat.{ℕ, ◌+◌, ◌*◌, ◌<◌}
use mathlib.Core.List.{List}
use mathlib.Core.Path.{◌≡◌}
use lib.ListN.{get_or, drop}
use Rattle.base_lists.specs.Lists.{onto}
use Rattle.film_settings.specs.declared.Settings.{Settings}
use Rattle.film_tiles.specs.Tiles.{spent_entries}
use Rattle.film_tiles.proofs.Spents.{paired_excess, paired_looks, paired_behind}
use Rattle.film_map.specs.Counts.{spent_from, spents_from}

module _ (w h : ℕ) (s : Settings) (cs n : List ℕ) where
  -- entry 2k is the excess of tile k's counts
  pub counted_excess : {k : ℕ} → k < s.across * s.down → get_or (onto n (spents_from w h s cs)) (2 * k) 0 ≡ (spent_from w h s cs k).excess
  unfolding spents_from
  counted_excess l = paired_excess (s.across * s.down) (spent_from w h s cs) n l

  -- and entry 2k + 1 the looks
  pub counted_looks : {k : ℕ} → k < s.across * s.down → get_or (onto n (spents_from w h s cs)) (2 * k + 1) 0 ≡ (spent_from w h s cs k).looks
  unfolding spents_from
  counted_looks l = paired_looks (s.across * s.down) (spent_from w h s cs) n l

  -- entries behind the last tile keep their contents
  pub counted_behind : drop (spent_entries s) (onto n (spents_from w h s cs)) ≡ drop (spent_entries s) n
  unfolding spents_from
  counted_behind = paired_behind (s.across * s.down) (spent_from w h s cs) n
