-- The rows of direct: their numbers, how 12, 17 and 13 are asked, and what they tell where none of them applies.
-- Assumes nothing.
use Prim.Native.Nat.{ℕ, ◌*◌, ◌≤◌, ◌<◌}
use mathlib.Core.Bool.{Bool, true, false, cond}
use mathlib.Core.List.{List, [], ◌∷◌, ◌++◌}
use mathlib.Core.Logic.{◌≢◌}
use mathlib.Core.Path.{◌≡◌, refl, sym, ap, ◌∙◌}
use native.Mathlib.Omega.{arith}
use lib.Dec.{ltb, eqb}
use lib.ListN.{length}
use borrow.Author.Tests.{lt-ltb, le-ltb, ltb-false, eqb-true, ne_eqb, eq-eqb, not-false}
use Rattle.base_rows.specs.Refuse.{row, first, numbers_of}
use Rattle.base_rows.proofs.Walk.{front, behind, first_none, first_never, first_both, numbers_append}
use Rattle.base_lists.specs.Lists.{all}
use Rattle.base_range.specs.Scan.{within}
use Rattle.film_settings.specs.declared.Settings.{Settings}
use Rattle.film_settings.specs.Settings.{bins_of, entries_of, setting_rows, Tiled}
use Rattle.film_settings.proofs.Ready.{setting_numbers, setting_numbered, setting_tiled}
use Rattle.film_tiles.specs.Tiles.{Work}
use Rattle.film_prepare.specs.Prepare.{work_rows}
use Rattle.film_prepare.proofs.Table.{work_first}
use Rattle.film_direct.specs.Direct.{direct_work_rows, direct_rows}

-- ---- 12, 17 and 13

module _ (w h : ℕ) (pic : List ℕ) (s : Settings) (scratch target : ℕ) where
  -- the numbers, in their order
  pub direct_work_numbers : numbers_of (direct_work_rows w h pic s scratch target) ≡ 12 ∷ 17 ∷ 13 ∷ []
  unfolding numbers_of direct_work_rows
  direct_work_numbers = refl

  module _ {b : ℕ} (e : b ≡ bins_of s) where
    -- 12 applies
    pub direct_work_scratch : scratch < b → 12 ≡ first (direct_work_rows w h pic s scratch target)
    unfolding first direct_work_rows
    direct_work_scratch l = let t : ltb scratch (bins_of s) ≡ true = lt-ltb scratch (bins_of s) (omega arith) in rw t refl

    module _ (l : b ≤ scratch) where
      fits : ltb scratch (bins_of s) ≡ false
      fits = le-ltb scratch (bins_of s) (omega arith)

      -- 17 does
      pub direct_work_target : (target ≡ w * h → ⊥) → 17 ≡ first (direct_work_rows w h pic s scratch target)
      unfolding first direct_work_rows
      direct_work_target n = let q : eqb target (w * h) ≡ false = ne_eqb target (w * h) n in rw (fits, q) refl

      -- neither does, and 13 decides
      pub direct_work_greys : target ≡ w * h → (t : Bool) → t ≡ all (within s.min s.max) pic → cond t 0 13 ≡ first (direct_work_rows w h pic s scratch target)
      unfolding first direct_work_rows
      direct_work_greys n true g = let q : eqb target (w * h) ≡ true = eq-eqb target (w * h) n in rw (fits, q, sym g) refl
      direct_work_greys n false g = let q : eqb target (w * h) ≡ true = eq-eqb target (w * h) n in rw (fits, q, sym g) refl

  -- with a target of width x height they come to enhance's 12 and 13
  pub direct_work_over : target ≡ w * h → first (work_rows pic s scratch) ≡ first (direct_work_rows w h pic s scratch target)
  unfolding first direct_work_rows
  direct_work_over e = work_first pic s scratch ∙ rw (eq-eqb target (w * h) e) refl

  -- and with one of another length to 12, and 17 else
  pub direct_work_other : (target ≡ w * h → ⊥) → first (direct_work_rows w h pic s scratch target) ≡ first (row 12 (ltb scratch (bins_of s)) ∷ row 17 true ∷ [])
  unfolding first direct_work_rows
  direct_work_other n = rw (ne_eqb target (w * h) n) refl

-- ---- all of them

module _ (w h : ℕ) (pic : List ℕ) (s : Settings) (scratch target : ℕ) where
  -- the numbers, in their order
  pub direct_table_numbers : numbers_of (direct_rows w h pic s scratch target) ≡ numbers_of (setting_rows w h (length pic) s) ++ (12 ∷ 17 ∷ 13 ∷ [])
  unfolding direct_rows
  direct_table_numbers = numbers_append (setting_rows w h (length pic) s) (direct_work_rows w h pic s scratch target) ∙ ap (λ ns. numbers_of (setting_rows w h (length pic) s) ++ ns) (direct_work_numbers w h pic s scratch target)

  -- "11, which it never gives"
  pub direct_table_never_11 : first (direct_rows w h pic s scratch target) ≢ 11
  unfolding all
  direct_table_never_11 = first_never 11 (direct_rows w h pic s scratch target) refl (rw (direct_table_numbers, setting_numbers w h (length pic) s) refl)

  -- nor 32, since it is lent no list
  pub direct_table_never_32 : first (direct_rows w h pic s scratch target) ≢ 32
  unfolding all
  direct_table_never_32 = first_never 32 (direct_rows w h pic s scratch target) refl (rw (direct_table_numbers, setting_numbers w h (length pic) s) refl)

  -- its parts
  pub direct_table_parts : direct_rows w h pic s scratch target ≡ setting_rows w h (length pic) s ++ direct_work_rows w h pic s scratch target
  unfolding direct_rows
  direct_table_parts = refl

  -- one of the rows 1 to 9, 31 and 10 applies
  pub direct_table_setting : {r : ℕ} → r ≡ first (setting_rows w h (length pic) s) → (r ≡ 0 → ⊥) → r ≡ first (direct_rows w h pic s scratch target)
  unfolding direct_rows
  direct_table_setting e z = front (setting_rows w h (length pic) s) _ e z

  -- none of them does, and 12, 17 and 13 decide
  pub direct_table_work : {a r : ℕ} → a ≡ first (setting_rows w h (length pic) s) → a ≡ 0 → r ≡ first (direct_work_rows w h pic s scratch target) → r ≡ first (direct_rows w h pic s scratch target)
  unfolding direct_rows
  direct_table_work e z q = behind (setting_rows w h (length pic) s) _ (setting_numbered w h (length pic) s) e z q

  -- the sides are small enough for 17 to be asked
  pub sides_small : {a : ℕ} → a ≡ first (setting_rows w h (length pic) s) → a ≡ 0 → (w ≤ 4096) × (h ≤ 4096)
  sides_small e z = let t : Tiled w h s = (setting_tiled w h (length pic) s (sym e ∙ z)).0 in (t.widest, t.highest)

  -- none of all applies: what the work below relies on
  pub known : first (direct_rows w h pic s scratch target) ≡ 0 → Work w h pic s (entries_of s) scratch × (target ≡ w * h)
  unfolding all numbers_of direct_work_rows direct_rows
  known e =
      let both = first_both (setting_rows w h (length pic) s) (direct_work_rows w h pic s scratch target) (setting_numbered w h (length pic) s) e in
      let t = first_none (direct_work_rows w h pic s scratch target) refl both.1 in
      let ready = setting_tiled w h (length pic) s both.0 in (
        record {
          ready = record { tiled = ready.0; whole = ready.1; clip = ready.2; fitting = omega arith };
          bins = ltb-false _ _ t.0;
          greys = not-false _ t.1.1.0;
        },
        eqb-true _ _ (not-false _ t.1.0),
      )
