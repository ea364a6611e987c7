-- Mapping's table: its numbers, how the functions ask it, and what it tells where none of its rows applies.
-- Assumes nothing.
use Prim.Native.Nat.{ℕ, ◌+◌, ◌-◌, ◌≤◌, ◌<◌}
use mathlib.Core.Bool.{Bool, true, false, not, cond}
use mathlib.Core.List.{List, [], ◌∷◌, ◌++◌}
use mathlib.Core.Logic.{◌≢◌}
use mathlib.Core.Path.{◌≡◌, refl, sym, ap, ap₂, ◌∙◌}
use native.Mathlib.Omega.{arith}
use lib.Dec.{ltb, eqb}
use lib.ListN.{length}
use borrow.Author.Tests.{lt-ltb, le-ltb, ltb-false, not-false}
use Rattle.base_lists.specs.Lists.{all}
use Rattle.base_rows.specs.Refuse.{row, first, numbers_of, Each, Numbered}
use Rattle.base_rows.proofs.Walk.{first_front, first_none, first_both, only_front, only_behind, first_hit, first_skip, numbers_append, each_append, behind}
use Rattle.film_settings.specs.declared.Settings.{Settings}
use Rattle.film_settings.specs.Settings.{bins_of, entries_of, clip_bad_of, side_rows, grid_rows, range_rows, clip_rows, grey_rows, room_rows, Tiled}
use Rattle.film_settings.proofs.Ready.{side_numbers, grid_numbers, room_numbers, side_numbered, grid_numbered, tiled, clip_fair, room_fits}
use Rattle.film_settings.proofs.Parts.{clip_numbers, grey_numbered, room_numbered, grey_parts, grey_both, grid_alike, grey_alike, room_alike}
use Rattle.film_settings.proofs.Reach.{range_31, Early, range_early}
use Rattle.film_tiles.specs.Tiles.{spent_entries}
use Rattle.film_count.specs.Counting.{counts_rows}
use Rattle.film_count.proofs.Tables.{counts_numbers, counts_numbered, counts_fits}
use Rattle.film_count.proofs.Like.{counts_alike}
use Rattle.film_map.specs.Counts.{adds_up_of, tiling_rows, lent_rows, sum_rows, map_rows_of, MapAllAsks}

-- ---- the numbers, in the order that the orders give them

-- "1, 3 to 12 with 31 after 9, then 33, then 34", and 32 "straight after 12"
pub map_numbers : (w h : ℕ) (s : Settings) (cs : List ℕ) (room scratch list : ℕ)
    → numbers_of (map_rows_of w h s cs room scratch list) ≡ numbers_of (side_rows w h) ++ (numbers_of (grid_rows w h s) ++ numbers_of (grey_rows s)) ++ (11 ∷ 12 ∷ 32 ∷ 33 ∷ 34 ∷ [])
unfolding numbers_of map_rows_of tiling_rows lent_rows sum_rows
map_numbers w h s cs room scratch list =
    numbers_append (tiling_rows w h s) (lent_rows s room scratch list (length cs) ++ sum_rows w h s cs)
    ∙ ap₂ (λ a b. a ++ b)
    (numbers_append (side_rows w h) (grid_rows w h s ++ grey_rows s) ∙ ap (λ ns. numbers_of (side_rows w h) ++ ns) (numbers_append (grid_rows w h s) (grey_rows s)))
    (numbers_append (lent_rows s room scratch list (length cs)) (sum_rows w h s cs) ∙ ap (λ ns. ns ++ (34 ∷ [])) (numbers_append (room_rows s room) _ ∙ ap₂ (λ ns ms. ns ++ (12 ∷ 32 ∷ ms)) (room_numbers s room) (counts_numbers s (length cs))))

-- ---- the numbers are above 0

pub tiling_numbered : (w h : ℕ) (s : Settings) → Numbered (tiling_rows w h s)
unfolding tiling_rows
tiling_numbered w h s =
    each_append (ltb 0) (side_rows w h) (grid_rows w h s ++ grey_rows s) (side_numbered w h)
    (each_append (ltb 0) (grid_rows w h s) (grey_rows s) (grid_numbered w h s) (grey_numbered s))

pub lent_numbered : (s : Settings) (room scratch list size : ℕ) → Numbered (lent_rows s room scratch list size)
unfolding all numbers_of lent_rows
lent_numbered s room scratch list size = each_append (ltb 0) (room_rows s room) _ (room_numbered s room) (counts_numbered s size)

-- ---- 11, 12, 32 and 33, one after the other

module _ (s : Settings) (room scratch list size : ℕ) {r : ℕ} (e : r ≡ first (room_rows s room)) (z : r ≡ 0) {b : ℕ} (n : b ≡ bins_of s) where
  -- 11 does not apply, and 12 does
  pub lent_scratch : scratch < b → 12 ≡ first (lent_rows s room scratch list size)
  unfolding lent_rows
  lent_scratch l = behind (room_rows s room) _ (room_numbered s room) e z (sym (first_hit _ (lt-ltb scratch (bins_of s) (omega arith))))

  module _ (l : b ≤ scratch) where
    -- neither does, and 32 does
    pub lent_list : list < spent_entries s → 32 ≡ first (lent_rows s room scratch list size)
    unfolding lent_rows
    lent_list g =
        behind (room_rows s room) _ (room_numbered s room) e z
        (sym (first_skip 12 _ (le-ltb scratch (bins_of s) (omega arith)) ∙ first_hit _ (lt-ltb list (spent_entries s) g)))

    -- none of them does, and 33 decides
    pub lent_counts : {x : ℕ} → spent_entries s ≤ list → x ≡ first (counts_rows s size) → x ≡ first (lent_rows s room scratch list size)
    unfolding lent_rows
    lent_counts g q =
        behind (room_rows s room) _ (room_numbered s room) e z
        (q ∙ sym (first_skip 12 _ (le-ltb scratch (bins_of s) (omega arith)) ∙ first_skip 32 (counts_rows s size) (le-ltb list (spent_entries s) g)))

-- ---- 34, by what was found

pub sum_row : (w h : ℕ) (s : Settings) (cs : List ℕ) (t : Bool) → t ≡ adds_up_of w h s cs → cond t 0 34 ≡ first (sum_rows w h s cs)
unfolding first sum_rows
sum_row w h s cs true e = ap (λ b. cond (not b) 34 0) e
sum_row w h s cs false e = ap (λ b. cond (not b) 34 0) e

-- ---- what is known where none applies

-- none of 1, 3 to 9, 31 and 10
pub tiling_tiled : (w h : ℕ) (s : Settings) → first (tiling_rows w h s) ≡ 0 → Tiled w h s × (clip_bad_of s.clip ≡ false)
unfolding tiling_rows
tiling_tiled w h s e =
    let a = first_both (side_rows w h) _ (side_numbered w h) e in
    let b = first_both (grid_rows w h s) _ (grid_numbered w h s) a.1 in
    let c = grey_both s b.1 in
    (tiled w h s a.0 b.0 c.0, clip_fair s c.1)

-- none of 11, 12, 32 and 33
pub lent_fits : (s : Settings) (room scratch list size : ℕ) → first (lent_rows s room scratch list size) ≡ 0
    → (entries_of s ≤ room) × (bins_of s ≤ scratch) × (spent_entries s ≤ list) × (entries_of s ≤ size)
unfolding lent_rows all numbers_of
lent_fits s room scratch list size e =
    let a = first_both (room_rows s room) _ (room_numbered s room) e in
    let b = first_none _ (counts_numbered s size) a.1 in (
      room_fits s room a.0,
      ltb-false _ _ b.0,
      ltb-false _ _ b.1.0,
      counts_fits s size (sym (first_skip 12 _ b.0 ∙ first_skip 32 (counts_rows s size) b.1.0) ∙ a.1),
    )

-- none of mapping's
pub map_ready : (w h : ℕ) (s : Settings) (cs : List ℕ) (room scratch list : ℕ) → first (map_rows_of w h s cs room scratch list) ≡ 0 → MapAllAsks w h s cs room scratch list
unfolding map_rows_of sum_rows all numbers_of
map_ready w h s cs room scratch list e =
    let a = first_both (tiling_rows w h s) _ (tiling_numbered w h s) e in
    let b = first_both (lent_rows s room scratch list (length cs)) _ (lent_numbered s room scratch list (length cs)) a.1 in
    let (known, fair) = tiling_tiled w h s a.0 in
    let (fits, bins, pairs, long) = lent_fits s room scratch list (length cs) b.0 in
    record {
      film = record { tiled = known; fair = fair; fitting = fits; bins = bins; long = long; sums = not-false _ (first_none _ refl b.1).0 };
      pairs = pairs;
    }

-- ---- the table, part by part

pub map_rows : (w h : ℕ) (s : Settings) (cs : List ℕ) (room scratch list : ℕ)
    → map_rows_of w h s cs room scratch list ≡ (side_rows w h ++ (grid_rows w h s ++ grey_rows s)) ++ (lent_rows s room scratch list (length cs) ++ (row 34 (not (adds_up_of w h s cs)) ∷ []))
unfolding map_rows_of tiling_rows sum_rows
map_rows w h s cs room scratch list = refl

-- ---- where the bins are more than the greys of the range, or there is no range

-- 31, or one of 1 and 3 to 9
pub map_early : (w h : ℕ) (s : Settings) (cs : List ℕ) (room scratch list : ℕ) → first (range_rows s) ≢ 0 → Early (first (map_rows_of w h s cs room scratch list))
unfolding all map_rows_of tiling_rows
map_early w h s cs room scratch list some =
    let early : Early (first (tiling_rows w h s)) =
    rw (grey_parts s) (range_early (side_rows w h) (clip_rows s) (side_numbered w h) (rw (side_numbers w h) refl) w h s some) in
    rw (first_front (tiling_rows w h s) (lent_rows s room scratch list (length cs) ++ sum_rows w h s cs) (λ z. omega (arith, early.0, z))) early

-- and 31 is given only there
pub map_31 : (w h : ℕ) (s : Settings) (cs : List ℕ) (room scratch list : ℕ) → first (map_rows_of w h s cs room scratch list) ≡ 31 → s.max - s.min + 1 < bins_of s
unfolding all numbers_of map_rows_of tiling_rows lent_rows sum_rows
map_31 w h s cs room scratch list q =
    let lent : Each (λ k. not (eqb k 31)) (lent_rows s room scratch list (length cs)) =
    each_append (λ k. not (eqb k 31)) (room_rows s room) (row 12 (ltb scratch (bins_of s)) ∷ row 32 (ltb list (spent_entries s)) ∷ counts_rows s (length cs)) (rw (room_numbers s room) refl)
    (rw (counts_numbers s (length cs)) refl) in
    let front : first (tiling_rows w h s) ≡ 31 =
    only_front 31 (tiling_rows w h s) (lent_rows s room scratch list (length cs) ++ sum_rows w h s cs) refl
    (each_append (λ k. not (eqb k 31)) (lent_rows s room scratch list (length cs)) (sum_rows w h s cs) lent refl) q in
    range_31 s
    (only_front 31 (range_rows s) (clip_rows s) refl (rw (clip_numbers s) refl)
    (sym (ap first (grey_parts s))
    ∙ only_behind 31 (grid_rows w h s) (grey_rows s) (rw (grid_numbers w h s) refl) (only_behind 31 (side_rows w h) (grid_rows w h s ++ grey_rows s) (rw (side_numbers w h) refl) front)))

-- ---- what the table reads of the settings: of the clip setting whether 10 refuses it, of the edition nothing

pub map_alike : (s s' : Settings) → s.across ≡ s'.across → s.down ≡ s'.down → bins_of s ≡ bins_of s' → s.min ≡ s'.min → s.max ≡ s'.max
    → clip_bad_of s.clip ≡ clip_bad_of s'.clip → (w h : ℕ) (cs : List ℕ) (room scratch list : ℕ) → map_rows_of w h s cs room scratch list ≡ map_rows_of w h s' cs room scratch list
unfolding map_rows_of tiling_rows lent_rows sum_rows adds_up_of
map_alike s s' across down bins min max clip w h cs room scratch list =
    let lent : lent_rows s room scratch list (length cs) ≡ lent_rows s' room scratch list (length cs) =
    rw (room_alike s s' across down bins min max clip room, counts_alike s s' across down bins (length cs), bins, across, down) refl in
    let sums : adds_up_of w h s cs ≡ adds_up_of w h s' cs = rw (bins, across, down) refl in
    ap₂ (λ a b. a ++ b)
    (ap₂ (λ a b. side_rows w h ++ (a ++ b)) (grid_alike w h s s' across down) (grey_alike s s' bins min max clip))
    (ap₂ (λ a b. a ++ b) lent (ap (λ b. row 34 (not b) ∷ []) sums))
