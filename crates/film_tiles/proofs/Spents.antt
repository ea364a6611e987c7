-- Laws of order 7's list: what clipping a tile took is that of its own raw counts, each tile has two entries in row order, and entries behind the last tile stay.
-- Assumes nothing.
use Prim.Native.Nat.{ℕ, ◌+◌, ◌*◌, ◌≤◌, ◌<◌}
use mathlib.Core.List.{List}
use mathlib.Core.Path.{◌≡◌, refl, ap, ◌∙◌}
use native.Mathlib.Nat.{mul_comm}
use native.Mathlib.Omega.{arith}
use lib.ListN.{length, get_or, drop, get_or-append}
use Rattle.base_lists.specs.Lists.{joined, onto}
use Rattle.base_lists.proofs.Fills.{length_joined, joined_cong, drop_onto, length_onto}
use Rattle.base_lists.proofs.Blocks.{get_or_joined}
use Rattle.tile_count.specs.Tally.{greys_of, counts_of}
use Rattle.tile_clip.specs.declared.Spent.{Spent}
use Rattle.tile_map.specs.Tile.{spent_by}
use Rattle.tile_map.proofs.Tiles.{tile_spent_lem}
use Rattle.film_settings.specs.declared.Settings.{Settings}
use Rattle.film_settings.specs.Settings.{bins_of}
use Rattle.film_tiles.specs.Tiles.{tile_of, pixels_in, spent_in, spent_pair, spents, spent_entries}
use Rattle.film_tiles.proofs.Tiles.{length_tile_greys}

-- ---- a tile

-- what clipping tile k took goes by its raw counts and its pixels
pub spent_in_from : (w h : ℕ) (pic : List ℕ) (s : Settings) (k : ℕ)
    → spent_in w h pic s k ≡ spent_by s.edition s.clip (pixels_in w h s k) (counts_of s.min s.max (bins_of s) (greys_of pic w (tile_of w h s k)))
unfolding spent_in
spent_in_from w h pic s k =
    tile_spent_lem s.min s.max (bins_of s) s.edition s.clip (greys_of pic w (tile_of w h s k))
    ∙ ap (λ n. spent_by s.edition s.clip n (counts_of s.min s.max (bins_of s) (greys_of pic w (tile_of w h s k)))) (length_tile_greys w h pic s k)

-- ---- pairs, laid down in the front of a list

module _ (c : ℕ) (f : ℕ → Spent) where
  length_pairs : length (joined c (λ k. spent_pair (f k))) ≡ 2 * c
  length_pairs = length_joined 2 c (λ k. spent_pair (f k)) (λ k l. refl) ∙ mul_comm c 2

  get_or_pairs : (k i : ℕ) → k < c → i < 2 → get_or (joined c (λ j. spent_pair (f j))) (k * 2 + i) 0 ≡ get_or (spent_pair (f k)) i 0
  get_or_pairs k i l q = get_or_joined 2 c (λ j. spent_pair (f j)) (λ j p. refl) k i 0 l q

  module _ (n : List ℕ) where
    paired_entry : (k i : ℕ) → k < c → i < 2 → get_or (onto n (joined c (λ j. spent_pair (f j)))) (k * 2 + i) 0 ≡ get_or (spent_pair (f k)) i 0
    unfolding onto
    paired_entry k i l q = get_or-append (joined c (λ j. spent_pair (f j))) _ 0 (k * 2 + i) (omega (arith, length_pairs)) ∙ get_or_pairs k i l q

    -- entry 2k is the k-th excess
    pub paired_excess : {k : ℕ} → k < c → get_or (onto n (joined c (λ j. spent_pair (f j)))) (2 * k) 0 ≡ (f k).excess
    paired_excess {k} l =
        let e : 2 * k ≡ k * 2 + 0 = omega arith in
        ap (λ i. get_or (onto n (joined c (λ j. spent_pair (f j)))) i 0) e ∙ paired_entry k 0 l (omega arith)

    -- and entry 2k + 1 the k-th looks
    pub paired_looks : {k : ℕ} → k < c → get_or (onto n (joined c (λ j. spent_pair (f j)))) (2 * k + 1) 0 ≡ (f k).looks
    paired_looks {k} l =
        let e : 2 * k + 1 ≡ k * 2 + 1 = omega arith in
        ap (λ i. get_or (onto n (joined c (λ j. spent_pair (f j)))) i 0) e ∙ paired_entry k 1 l (omega arith)

    -- what lies behind them stays
    pub paired_behind : drop (2 * c) (onto n (joined c (λ j. spent_pair (f j)))) ≡ drop (2 * c) n
    paired_behind = drop_onto n (joined c (λ j. spent_pair (f j))) (2 * c) length_pairs

    -- and so does the length
    pub paired_size : 2 * c ≤ length n → length (onto n (joined c (λ j. spent_pair (f j)))) ≡ length n
    paired_size room = length_onto n (joined c (λ j. spent_pair (f j))) (omega (arith, length_pairs))

-- ---- the list of a film

module _ (w h : ℕ) (pic : List ℕ) (s : Settings) where
  -- each tile's entries go by its raw counts
  pub spents_from_lem : spents w h pic s
      ≡ joined (s.across * s.down) (λ k. spent_pair (spent_by s.edition s.clip (pixels_in w h s k) (counts_of s.min s.max (bins_of s) (greys_of pic w (tile_of w h s k)))))
  unfolding spents
  spents_from_lem = joined_cong (s.across * s.down) (λ k l. ap spent_pair (spent_in_from w h pic s k))

  -- "twice the number of tiles"
  pub length_spents : length (spents w h pic s) ≡ spent_entries s
  unfolding spents
  length_spents = length_pairs (s.across * s.down) (spent_in w h pic s)

  -- "each tile in row order has two entries": E first, then the looks
  pub get_or_spents : (k i : ℕ) → k < s.across * s.down → i < 2 → get_or (spents w h pic s) (k * 2 + i) 0 ≡ get_or (spent_pair (spent_in w h pic s k)) i 0
  unfolding spents
  get_or_spents k i l q = get_or_pairs (s.across * s.down) (spent_in w h pic s) k i l q

  -- the list that they were laid down in
  module _ (n : List ℕ) where
    -- entry 2k is the excess of tile k
    pub listed_excess : {k : ℕ} → k < s.across * s.down → get_or (onto n (spents w h pic s)) (2 * k) 0 ≡ (spent_in w h pic s k).excess
    unfolding spents
    listed_excess l = paired_excess (s.across * s.down) (spent_in w h pic s) n l

    -- and entry 2k + 1 the looks
    pub listed_looks : {k : ℕ} → k < s.across * s.down → get_or (onto n (spents w h pic s)) (2 * k + 1) 0 ≡ (spent_in w h pic s k).looks
    unfolding spents
    listed_looks l = paired_looks (s.across * s.down) (spent_in w h pic s) n l

    -- "as do entries behind the last tile": they keep their contents
    pub listed_behind : drop (spent_entries s) (onto n (spents w h pic s)) ≡ drop (spent_entries s) n
    unfolding spents
    listed_behind = paired_behind (s.across * s.down) (spent_in w h pic s) n

    -- and its length stays
    pub listed_size : spent_entries s ≤ length n → length (onto n (spents w h pic s)) ≡ length n
    unfolding spents
    listed_size room = paired_size (s.across * s.down) (spent_in w h pic s) n room
