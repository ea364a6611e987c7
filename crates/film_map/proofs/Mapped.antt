-- Order 5: "counting then mapping with factor f gives prepare's mappings, record and footer for f". Of the counts that counting left, mapping answers and leaves
-- what prepare does of the film, for every film number, clip setting, edition, map buffer, scratch and list, refusals too.
-- Assumes nothing.
use Prim.Native.Nat.{ℕ, zero, suc, ◌*◌, ◌≤◌}
use mathlib.Core.Bool.{Bool, true, false, cond}
use mathlib.Core.List.{List, ◌++◌}
use mathlib.Core.Path.{◌≡◌, refl, sym, ap, ap₂, ◌∙◌}
use native.Mathlib.Omega.{arith}
use lib.Dec.{ltb}
use lib.ListN.{length}
use borrow.Author.Tests.{eq-eqb, ltb-true, ltb-false}
use Rattle.base_lists.specs.Lists.{total, onto}
use Rattle.base_lists.proofs.Tabs.{every_all}
use Rattle.base_lists.proofs.Fills.{length_onto, joined_cong}
use Rattle.base_rows.specs.Refuse.{Row, first, unless, Numbered}
use Rattle.base_rows.proofs.Walk.{first_none, first_behind, first_front}
use Rattle.tile_map.specs.Tile.{counts_mapping, spent_by}
use Rattle.film_settings.specs.declared.Settings.{Settings}
use Rattle.film_settings.specs.Settings.{bins_of, entries_of, side_rows, size_rows, grid_rows, range_rows, clip_rows, grey_rows, room_rows, setting_rows, shared_rows}
use Rattle.film_settings.proofs.Ready.{side_numbered, size_numbered, grid_numbered, range_numbered, setting_numbered, shared_numbered, shared_parts, shared_both}
use Rattle.film_settings.proofs.Parts.{room_numbered, grey_parts, setting_parts, size_both, grey_both, setting_all}
use Rattle.film_tiles.specs.Tiles.{pixels_in, mappings, spents, spent_pair, spent_entries}
use Rattle.film_tiles.proofs.Films.{mappings_from_lem}
use Rattle.film_tiles.proofs.Spents.{spents_from_lem}
use Rattle.film_prepare.specs.Prepare.{listed_rows, prepare_rows, prepared_of, prepare_of}
use Rattle.film_prepare.proofs.Table.{table_parts, table_both, work, listed_scratch, listed_short, listed_greys}
use Rattle.film_prepare.proofs.Endings.{ends_refused, ends_done, prepared_as_lem}
use Rattle.film_count.specs.Counting.{countings, count_rows, CountReady}
use Rattle.film_count.proofs.Tables.{fits_counts, count_ready, count_parts, parts_count}
use Rattle.film_count.proofs.Tiles.{raw_sum, length_countings, own_counts}
use Rattle.film_map.specs.Counts.{adds_up_of, mappings_from, spents_from, tiling_rows, lent_rows, sum_rows, map_rows_of, map_done_of, map_of}
use Rattle.film_map.proofs.Tables.{tiling_numbered, lent_numbered, sum_row}
use Rattle.film_map.proofs.Endings.{map_refused, map_done}

-- ---- mapping the counts that counting left

-- mapping makes prepare's mappings of them
pub own_mappings : (w h : ℕ) (pic : List ℕ) (s : Settings) (cs : List ℕ) → mappings_from w h s (onto cs (countings w h pic s)) ≡ mappings w h pic s
unfolding mappings_from
own_mappings w h pic s cs =
    joined_cong (s.across * s.down) (λ k l. ap (counts_mapping s.min s.max s.edition s.clip (pixels_in w h s k)) (own_counts w h pic s cs l)) ∙ sym (mappings_from_lem w h pic s)

-- it lists what prepare lists
pub own_spents : (w h : ℕ) (pic : List ℕ) (s : Settings) (cs : List ℕ) → spents_from w h s (onto cs (countings w h pic s)) ≡ spents w h pic s
unfolding spents_from
own_spents w h pic s cs =
    joined_cong (s.across * s.down) (λ k l. ap (λ x. spent_pair (spent_by s.edition s.clip (pixels_in w h s k) x)) (own_counts w h pic s cs l)) ∙ sym (spents_from_lem w h pic s)

-- and each tile's add up
pub own_sums : (w h : ℕ) (pic : List ℕ) (s : Settings) (cs : List ℕ) {size : ℕ} → CountReady w h pic s size → adds_up_of w h s (onto cs (countings w h pic s)) ≡ true
unfolding adds_up_of
own_sums w h pic s cs asks =
    every_all (s.across * s.down) _ (λ k l. eq-eqb _ _ (ap total (own_counts w h pic s cs l) ∙ raw_sum record { film = asks; tile = l }))

-- where nothing is refused, mapping them leaves what prepare does
done_as : (film w h : ℕ) (pic : List ℕ) (s : Settings) (cs m t n : List ℕ) → map_done_of film w h s (onto cs (countings w h pic s)) m t n ≡ prepared_of film w h pic s m t n
unfolding map_done_of
done_as film w h pic s cs m t n = prepared_as_lem film w h pic s m t n (own_mappings w h pic s cs) (own_spents w h pic s cs)

-- ---- the two tables

-- the number of two tables, one behind the other: the first's, and where it gives none the second's
infixl 20 ◌or◌
abbrev ◌or◌ : ℕ → ℕ → ℕ
◌or◌ n m = unless n (λ k. k) m

first_or : (s t : List Row) → Numbered s → first (s ++ t) ≡ (first s or first t)
first_or s t k = go (first s) refl
  where
    go : (n : ℕ) → first s ≡ n → first (s ++ t) ≡ (n or first t)
    go zero e = first_behind s t (first_none s k e)
    go (suc n) e = first_front s t (λ z. omega arith) ∙ e

or_assoc : (a b c : ℕ) → ((a or b) or c) ≡ (a or (b or c))
or_assoc zero b c = refl
or_assoc (suc a) b c = refl

or_none : (a : ℕ) → (a or 0) ≡ a
or_none zero = refl
or_none (suc a) = refl

module _ (w h : ℕ) (pic : List ℕ) (s : Settings) (cs : List ℕ) (free : first (count_rows w h pic s (length cs)) ≡ 0) where
  asks : CountReady w h pic s (length cs)
  asks = count_ready w h pic s (length cs) free

  -- none of 1 to 9 and 31 applies
  sizes_free : first (size_rows w h (length pic)) ≡ 0
  sizes_free = (count_parts w h pic s (length cs) free).0

  rest_free : (first (grid_rows w h s) ≡ 0) × (first (range_rows s) ≡ 0)
  rest_free = let parts = count_parts w h pic s (length cs) free in (parts.1, parts.2)

  -- so of 7 to 9, 31 and 10 only 10 is left
  greys_left : first (grey_rows s) ≡ first (clip_rows s)
  greys_left = ap first (grey_parts s) ∙ first_or (range_rows s) (clip_rows s) (range_numbered s) ∙ ap (λ n. n or first (clip_rows s)) rest_free.1

  -- of 1, 3 to 9, 31 and 10 too
  tiling_left : first (tiling_rows w h s) ≡ first (clip_rows s)
  unfolding tiling_rows
  tiling_left =
      first_or (side_rows w h) (grid_rows w h s ++ grey_rows s) (side_numbered w h)
      ∙ ap₂ (λ n m. n or m) (size_both w h (length pic) sizes_free).0 (first_or (grid_rows w h s) (grey_rows s) (grid_numbered w h s) ∙ ap₂ (λ n m. n or m) rest_free.0 greys_left)

  -- and of 1 to 9, 31 and 10
  setting_left : first (setting_rows w h (length pic) s) ≡ first (clip_rows s)
  setting_left =
      ap first (setting_parts w h (length pic) s)
      ∙ first_or (size_rows w h (length pic)) (grid_rows w h s ++ grey_rows s) (size_numbered w h (length pic))
      ∙ ap₂ (λ n m. n or m) sizes_free (first_or (grid_rows w h s) (grey_rows s) (grid_numbered w h s) ∙ ap₂ (λ n m. n or m) rest_free.0 greys_left)

  module _ (room scratch list : ℕ) where
    -- 12 and 32, of which prepare's rows behind 11 leave no other
    work_left : first (listed_rows pic s scratch list) ≡ cond (ltb scratch (bins_of s)) 12 (cond (ltb list (spent_entries s)) 32 0)
    work_left = go (ltb scratch (bins_of s)) (ltb list (spent_entries s)) refl refl
      where
        go : (b c : Bool) → ltb scratch (bins_of s) ≡ b → ltb list (spent_entries s) ≡ c → first (listed_rows pic s scratch list) ≡ cond b 12 (cond c 32 0)
        go true c e q = sym (listed_scratch pic s scratch list refl (ltb-true scratch (bins_of s) e))
        go false true e q = sym (listed_short pic s scratch list refl (ltb-false scratch (bins_of s) e) (ltb-true list (spent_entries s) q))
        go false false e q = sym (listed_greys pic s scratch list refl (ltb-false scratch (bins_of s) e) (ltb-false list (spent_entries s) q) true (sym asks.greys))

    -- 11, 12 and 32, of which mapping's leave no other either
    lent_left : {size : ℕ} → entries_of s ≤ size
        → first (lent_rows s room scratch list size) ≡ (first (room_rows s room) or cond (ltb scratch (bins_of s)) 12 (cond (ltb list (spent_entries s)) 32 0))
    unfolding lent_rows first
    lent_left {size} l = first_or (room_rows s room) _ (room_numbered s room) ∙ rw (fits_counts s size l) refl

    -- so mapping the counts that counting left gives prepare's number
    pub same_number : first (map_rows_of w h s (onto cs (countings w h pic s)) room scratch list) ≡ first (prepare_rows w h pic s room scratch list)
    unfolding map_rows_of
    same_number =
        let lent : List Row = lent_rows s room scratch list (length (onto cs (countings w h pic s))) in
        let sums : List Row = sum_rows w h s (onto cs (countings w h pic s)) in
        let size : length (onto cs (countings w h pic s)) ≡ length cs = length_onto cs (countings w h pic s) (omega (arith, length_countings w h pic s, asks.fitting)) in
        let none : first sums ≡ 0 = sym (sum_row w h s (onto cs (countings w h pic s)) true (sym (own_sums w h pic s cs asks))) in
        let back : first (lent ++ sums) ≡ (first (room_rows s room) or first (listed_rows pic s scratch list)) =
        first_or lent sums (lent_numbered s room scratch list (length (onto cs (countings w h pic s))))
        ∙ ap (λ n. first lent or n) none
        ∙ or_none (first lent)
        ∙ lent_left (omega (arith, size, asks.fitting))
        ∙ ap (λ n. first (room_rows s room) or n) (sym work_left) in
        first_or (tiling_rows w h s) (lent ++ sums) (tiling_numbered w h s)
        ∙ ap₂ (λ n m. n or m) tiling_left back
        ∙ sym (or_assoc (first (clip_rows s)) (first (room_rows s room)) (first (listed_rows pic s scratch list)))
        ∙ ap (λ n. (n or first (room_rows s room)) or first (listed_rows pic s scratch list)) (sym setting_left)
        ∙ ap (λ n. n or first (listed_rows pic s scratch list))
        (sym (ap first (shared_parts w h (length pic) s room) ∙ first_or (setting_rows w h (length pic) s) (room_rows s room) (setting_numbered w h (length pic) s)))
        ∙ sym (ap first (table_parts w h pic s room scratch list) ∙ first_or (shared_rows w h (length pic) s room) (listed_rows pic s scratch list) (shared_numbered w h (length pic) s room))

  -- wherever counting accepted the film, mapping what it left is prepare, refusals too
  pub mapped_as_prepared : (film : ℕ) (m t n : List ℕ) → map_of film w h s (onto cs (countings w h pic s)) m t n ≡ prepare_of film w h pic s m t n
  mapped_as_prepared film m t n = go (first (map_rows_of w h s (onto cs (countings w h pic s)) (length m) (length t) (length n))) refl
    where
      same : first (map_rows_of w h s (onto cs (countings w h pic s)) (length m) (length t) (length n)) ≡ first (prepare_rows w h pic s (length m) (length t) (length n))
      same = same_number (length m) (length t) (length n)

      go : (k : ℕ) → first (map_rows_of w h s (onto cs (countings w h pic s)) (length m) (length t) (length n)) ≡ k
          → map_of film w h s (onto cs (countings w h pic s)) m t n ≡ prepare_of film w h pic s m t n
      go zero e = sym (map_done film w h s _ m t n (sym e) refl) ∙ done_as film w h pic s cs m t n ∙ ends_done film w h pic s m t n (sym e ∙ same) refl
      go (suc k) e = sym (map_refused film w h s _ m t n (sym e) (λ z. omega arith)) ∙ ends_refused film w h pic s m t n (sym e ∙ same) (λ z. omega arith)

-- ---- wherever prepare accepts the film and 33 is not met

-- counting accepts it
pub prepared_counts : (w h : ℕ) (pic : List ℕ) (s : Settings) (room scratch list size : ℕ) → first (prepare_rows w h pic s room scratch list) ≡ 0 → entries_of s ≤ size
    → first (count_rows w h pic s size) ≡ 0
prepared_counts w h pic s room scratch list size e l =
    let parts = setting_all w h (length pic) s (shared_both w h (length pic) s room (table_both w h pic s room scratch list e).0).0 in
    parts_count w h pic s size parts.0 parts.1 (grey_both s parts.2).0 l (work w h pic s room scratch list e).greys

-- and counting then mapping is prepare
pub mapped_is_prepared : (film w h : ℕ) (pic : List ℕ) (s : Settings) (cs m t n : List ℕ) → first (prepare_rows w h pic s (length m) (length t) (length n)) ≡ 0
    → entries_of s ≤ length cs → map_of film w h s (onto cs (countings w h pic s)) m t n ≡ prepare_of film w h pic s m t n
mapped_is_prepared film w h pic s cs m t n e l = mapped_as_prepared w h pic s cs (prepared_counts w h pic s (length m) (length t) (length n) (length cs) e l) film m t n
