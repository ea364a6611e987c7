-- The tables of prepare and enhance: their numbers, how `work_refusal` asks 12, 32 and 13, and what they tell where none of their rows applies.
-- Assumes nothing.
use Prim.Native.Nat.{ℕ, ◌+◌, ◌-◌, ◌≤◌, ◌<◌}
use mathlib.Core.Bool.{Bool, true, false, not, cond}
use mathlib.Core.List.{List, [], ◌∷◌, ◌++◌}
use mathlib.Core.Logic.{◌≢◌}
use mathlib.Core.Path.{◌≡◌, refl, sym, ap, ◌∙◌}
use native.Mathlib.Omega.{arith}
use lib.Dec.{ltb}
use lib.ListN.{length}
use borrow.Author.Tests.{lt-ltb, le-ltb, ltb-false, not-false}
use Rattle.base_rows.specs.Refuse.{first, numbers_of}
use Rattle.base_rows.proofs.Walk.{front, behind, first_none, first_never, first_both, first_rest, only_front, numbers_append}
use Rattle.base_lists.specs.Lists.{all}
use Rattle.base_range.specs.Scan.{within}
use Rattle.film_settings.specs.declared.Settings.{Settings}
use Rattle.film_settings.specs.Settings.{bins_of, entries_of, shared_rows, Ready}
use Rattle.film_settings.proofs.Ready.{ready, shared_numbers, shared_numbered, shared_room_any}
use Rattle.film_settings.proofs.Reach.{shared_31}
use Rattle.film_tiles.specs.Tiles.{spent_entries, Work}
use Rattle.film_tiles.proofs.Tiles.{tiles_most}
use Rattle.film_prepare.specs.Prepare.{work_rows, listed_rows, enhance_rows, prepare_rows}

-- ---- 12 and 13

module _ (pic : List ℕ) (s : Settings) (scratch : ℕ) where
  -- the numbers, in the order of document 01
  pub work_numbers : numbers_of (work_rows pic s scratch) ≡ 12 ∷ 13 ∷ []
  unfolding numbers_of work_rows
  work_numbers = refl

  -- 12 is asked before 13
  pub work_first : first (work_rows pic s scratch) ≡ cond (ltb scratch (bins_of s)) 12 (cond (not (all (within s.min s.max) pic)) 13 0)
  unfolding first work_rows
  work_first = refl

  module _ {b : ℕ} (n : b ≡ bins_of s) where
    -- 12 does not, and 13 decides
    pub work_greys : b ≤ scratch → (t : Bool) → t ≡ all (within s.min s.max) pic → cond t 0 13 ≡ first (work_rows pic s scratch)
    unfolding first work_rows
    work_greys l true g = let t : ltb scratch (bins_of s) ≡ false = le-ltb scratch (bins_of s) (omega arith) in rw (t, sym g) refl
    work_greys l false g = let t : ltb scratch (bins_of s) ≡ false = le-ltb scratch (bins_of s) (omega arith) in rw (t, sym g) refl

-- ---- 12, 32 and 13

module _ (pic : List ℕ) (s : Settings) (scratch list : ℕ) where
  -- the numbers, 32 "straight after 12"
  pub listed_numbers : numbers_of (listed_rows pic s scratch list) ≡ 12 ∷ 32 ∷ 13 ∷ []
  unfolding numbers_of listed_rows
  listed_numbers = refl

  -- with two entries for each tile 32 does not apply, and 12 and 13 are left
  pub listed_work : spent_entries s ≤ list → first (listed_rows pic s scratch list) ≡ first (work_rows pic s scratch)
  unfolding first listed_rows work_rows
  listed_work l = let t : ltb list (spent_entries s) ≡ false = le-ltb list (spent_entries s) l in rw t refl

  module _ {b : ℕ} (n : b ≡ bins_of s) where
    -- 12 applies
    pub listed_scratch : scratch < b → 12 ≡ first (listed_rows pic s scratch list)
    unfolding first listed_rows
    listed_scratch l = let t : ltb scratch (bins_of s) ≡ true = lt-ltb scratch (bins_of s) (omega arith) in rw t refl

    -- 12 does not, and 32 applies
    pub listed_short : b ≤ scratch → list < spent_entries s → 32 ≡ first (listed_rows pic s scratch list)
    unfolding first listed_rows
    listed_short l q =
        let t : ltb scratch (bins_of s) ≡ false = le-ltb scratch (bins_of s) (omega arith) in
        let u : ltb list (spent_entries s) ≡ true = lt-ltb list (spent_entries s) q in
        rw (t, u) refl

    -- neither does, and 13 decides
    pub listed_greys : b ≤ scratch → spent_entries s ≤ list → (t : Bool) → t ≡ all (within s.min s.max) pic → cond t 0 13 ≡ first (listed_rows pic s scratch list)
    listed_greys l q t g = work_greys pic s scratch n l t g ∙ sym (listed_work q)

-- none of the rows 1 to 11 and 31 applies: the grid is as small as `work_refusal` asks
pub grid_most : (w h size : ℕ) (s : Settings) (room : ℕ) {a : ℕ} → a ≡ first (shared_rows w h size s room) → a ≡ 0 → (s.across ≤ 16) × (s.down ≤ 16)
grid_most w h size s room e z =
    let known : Ready w h size s room = ready w h size s room (sym e ∙ z) in
    (known.tiled.acrossmost, known.tiled.downmost)

-- ---- prepare: 1 to 13, 31 and 32

module _ (w h : ℕ) (pic : List ℕ) (s : Settings) (room scratch list : ℕ) where
  -- the numbers, in the order of document 01
  pub table_numbers : numbers_of (prepare_rows w h pic s room scratch list) ≡ numbers_of (shared_rows w h (length pic) s room) ++ (12 ∷ 32 ∷ 13 ∷ [])
  unfolding prepare_rows
  table_numbers =
      numbers_append (shared_rows w h (length pic) s room) (listed_rows pic s scratch list)
      ∙ ap (λ ns. numbers_of (shared_rows w h (length pic) s room) ++ ns) (listed_numbers pic s scratch list)

  -- "Strike 14, with the proof": no film is refused for its clip setting
  pub table_never_14 : first (prepare_rows w h pic s room scratch list) ≢ 14
  unfolding all
  table_never_14 = first_never 14 (prepare_rows w h pic s room scratch list) refl (rw (table_numbers, shared_numbers w h (length pic) s room) refl)

  -- its parts
  pub table_parts : prepare_rows w h pic s room scratch list ≡ shared_rows w h (length pic) s room ++ listed_rows pic s scratch list
  unfolding prepare_rows
  table_parts = refl

  -- 31 is given only where the bins are more than the greys of the range
  pub table_31 : first (prepare_rows w h pic s room scratch list) ≡ 31 → s.max - s.min + 1 < bins_of s
  unfolding all prepare_rows
  table_31 q =
      shared_31 w h (length pic) s room
      (only_front 31 (shared_rows w h (length pic) s room) (listed_rows pic s scratch list) refl (rw (listed_numbers pic s scratch list) refl) q)

  -- one of the rows 1 to 11 and 31 applies
  pub table_shared : {r : ℕ} → r ≡ first (shared_rows w h (length pic) s room) → (r ≡ 0 → ⊥) → r ≡ first (prepare_rows w h pic s room scratch list)
  unfolding prepare_rows
  table_shared e z = front (shared_rows w h (length pic) s room) _ e z

  -- none of them does, and 12, 32 and 13 decide
  pub table_work : {a r : ℕ} → a ≡ first (shared_rows w h (length pic) s room) → a ≡ 0 → r ≡ first (listed_rows pic s scratch list) → r ≡ first (prepare_rows w h pic s room scratch list)
  unfolding prepare_rows
  table_work e z q = behind (shared_rows w h (length pic) s room) _ (shared_numbered w h (length pic) s room) e z q

  -- none of 1 to 13, 31 and 32 applies: none of 1 to 11 and 31, and none of 12, 32 and 13
  pub table_both : first (prepare_rows w h pic s room scratch list) ≡ 0 → (first (shared_rows w h (length pic) s room) ≡ 0) × (first (listed_rows pic s scratch list) ≡ 0)
  unfolding prepare_rows
  table_both e = first_both (shared_rows w h (length pic) s room) _ (shared_numbered w h (length pic) s room) e

  -- none of the rows 1 to 13, 31 and 32 applies: what the work below relies on
  pub work : first (prepare_rows w h pic s room scratch list) ≡ 0 → Work w h pic s room scratch
  unfolding all numbers_of listed_rows
  work e =
      let both = table_both e in
      let t = first_none (listed_rows pic s scratch list) refl both.1 in
      record {
        ready = ready w h (length pic) s room both.0;
        bins = ltb-false _ _ t.0;
        greys = not-false _ t.1.1.0;
      }

  -- and the list has two entries for each tile
  pub table_listed : first (prepare_rows w h pic s room scratch list) ≡ 0 → spent_entries s ≤ list
  unfolding all numbers_of listed_rows
  table_listed e = ltb-false _ _ (first_none (listed_rows pic s scratch list) refl (table_both e).1).1.0

  -- with two entries for each tile in the list 32 does not apply, and the number is enhance's
  pub table_over : (first (shared_rows w h (length pic) s room) ≡ 0 → spent_entries s ≤ list)
      → first (prepare_rows w h pic s room scratch list) ≡ first (enhance_rows w h pic s room scratch)
  unfolding prepare_rows enhance_rows
  table_over l =
      first_rest (shared_rows w h (length pic) s room) (listed_rows pic s scratch list) (work_rows pic s scratch) (shared_numbered w h (length pic) s room)
      (λ z. listed_work pic s scratch list (l z))

-- ---- enhance: the same without 32

module _ (w h : ℕ) (pic : List ℕ) (s : Settings) (room scratch : ℕ) where
  -- its parts
  pub over_parts : enhance_rows w h pic s room scratch ≡ shared_rows w h (length pic) s room ++ work_rows pic s scratch
  unfolding enhance_rows
  over_parts = refl

  -- the numbers, in the order of document 01
  pub over_numbers : numbers_of (enhance_rows w h pic s room scratch) ≡ numbers_of (shared_rows w h (length pic) s room) ++ (12 ∷ 13 ∷ [])
  unfolding enhance_rows
  over_numbers =
      numbers_append (shared_rows w h (length pic) s room) (work_rows pic s scratch)
      ∙ ap (λ ns. numbers_of (shared_rows w h (length pic) s room) ++ ns) (work_numbers pic s scratch)

  -- a list with two entries for each of 16 x 16 tiles is never too short: with it prepare's number is enhance's
  pub over_rows : first (prepare_rows w h pic s room scratch 512) ≡ first (enhance_rows w h pic s room scratch)
  over_rows = table_over w h pic s room scratch 512 (λ z. omega (arith, tiles_most (ready w h (length pic) s room z).tiled))

  -- so 14 is struck here too
  pub over_never_14 : first (enhance_rows w h pic s room scratch) ≢ 14
  over_never_14 q = table_never_14 w h pic s room scratch 512 (over_rows ∙ q)

  -- 31 is given only where the bins are more than the greys of the range
  pub over_31 : first (enhance_rows w h pic s room scratch) ≡ 31 → s.max - s.min + 1 < bins_of s
  over_31 q = table_31 w h pic s room scratch 512 (over_rows ∙ q)

  -- and where none of the rows applies, the work below relies on the same
  pub over_work : first (enhance_rows w h pic s room scratch) ≡ 0 → Work w h pic s room scratch
  over_work e = work w h pic s room scratch 512 (over_rows ∙ e)

-- a film that prepare accepts is one that enhance accepts, with other buffers that are long enough
pub rows_any : (w h : ℕ) (pic : List ℕ) (s : Settings) (room scratch room' scratch' list : ℕ) → first (prepare_rows w h pic s room scratch list) ≡ 0 → entries_of s ≤ room' → bins_of s ≤ scratch'
    → first (enhance_rows w h pic s room' scratch') ≡ 0
unfolding enhance_rows
rows_any w h pic s room scratch room' scratch' list e l q =
    let known : Work w h pic s room scratch = work w h pic s room scratch list e in
    sym (behind (shared_rows w h (length pic) s room') (work_rows pic s scratch') (shared_numbered w h (length pic) s room')
    (sym (shared_room_any w h (length pic) s room room' (table_both w h pic s room scratch list e).0 l)) refl
    (work_greys pic s scratch' refl q true (sym known.greys)))
