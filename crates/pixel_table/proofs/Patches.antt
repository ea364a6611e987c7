-- Laws of a part of a list that is replaced entry by entry, each from its index and what it held.
-- Assumes nothing.
use Prim.Native.Nat.{ℕ, ◌+◌, ◌≤◌, ◌<◌}
use mathlib.Core.Bool.{Bool, true, false}
use mathlib.Core.List.{List, ◌++◌}
use mathlib.Core.Path.{◌≡◌, refl, sym, ap, ◌∙◌}
use lib.Dec.{ltb}
use lib.ListN.{length, drop, get_or, set, take-append-drop}
use borrow.Author.Tests.{ltb-true, ltb-false}
use native.Mathlib.Nat.{le_refl}
use Rattle.base_lists.specs.Lists.{filled}
use Rattle.base_lists.proofs.Tabs.{tab_cong, tab_get_or}
use Rattle.base_lists.proofs.Fills.{filled_step, filled_end}
use Rattle.base_lists.proofs.Windows.{get_or_behind}
use Rattle.base_lists.proofs.Tallies.{get_or_filled, filled_cong, filled_tab}
use Rattle.base_lists.proofs.Puts.{put, put_before, put_from, filled_over}
use Rattle.pixel_table.specs.Table.{patch_of}

-- a patch is a filling
patch_is : (f : ℕ → ℕ → ℕ) (d : List ℕ) (at end : ℕ) → patch_of f d at end ≡ filled (put f d at) d end
unfolding patch_of
patch_is f d at end = refl

module _ (f : ℕ → ℕ → ℕ) (d : List ℕ) (at : ℕ) where
  -- nothing is replaced yet
  pub patch_none : at ≤ length d → d ≡ patch_of f d at at
  patch_none h =
      sym (take-append-drop at d)
      ∙ ap (λ t. t ++ drop at d) (sym (tab_get_or d 0 at h) ∙ tab_cong at (λ i l. sym (put_before f d l)))
      ∙ sym (filled_tab (put f d at) d at)
      ∙ sym (patch_is f d at at)

  module _ {px : List ℕ} (i : ℕ) (e : px ≡ patch_of f d at i) where
    -- an entry ahead is as it was
    pub patch_read : get_or px i 0 ≡ get_or d i 0
    patch_read = ap (λ t. get_or t i 0) (e ∙ patch_is f d at i) ∙ get_or_behind (put f d at) d i i (le_refl i)

    -- one entry more
    pub patch_next : {v : ℕ} → at ≤ i → i < length d → v ≡ f i (get_or px i 0) → set px i v ≡ patch_of f d at (i + 1)
    patch_next l h q = filled_step (put f d at) d (e ∙ patch_is f d at i) h (q ∙ ap (f i) patch_read ∙ sym (put_from f d l)) ∙ sym (patch_is f d at (i + 1))

    -- the whole patch
    pub patch_end : {end : ℕ} → i ≤ end → end ≤ i → px ≡ patch_of f d at end
    patch_end {end} l h = filled_end (put f d at) d (e ∙ patch_is f d at i) l h ∙ sym (patch_is f d at end)

-- what gives the same entries gives the same patch
pub patch_same : (f g : ℕ → ℕ → ℕ) (d : List ℕ) {at end : ℕ} → ((i : ℕ) → at ≤ i → i < end → f i (get_or d i 0) ≡ g i (get_or d i 0)) → patch_of f d at end ≡ patch_of g d at end
patch_same f g d {at} {end} h = patch_is f d at end ∙ filled_cong d end (λ i l. entry i l (ltb i at) refl) ∙ sym (patch_is g d at end)
  where
    entry : (i : ℕ) → i < end → (b : Bool) → ltb i at ≡ b → put f d at i ≡ put g d at i
    entry i l true q = let n : i < at = ltb-true i at q in put_before f d n ∙ sym (put_before g d n)
    entry i l false q = let n : at ≤ i = ltb-false i at q in put_from f d n ∙ h i n l ∙ sym (put_from g d n)

-- what is filled up to `at` and patched from there on is filled up to the patch's end
pub patch_fills : (f : ℕ → ℕ → ℕ) (ks : List ℕ) {px ys : List ℕ} {at end : ℕ} → px ≡ filled (λ i. f i (get_or ks i 0)) ks at → at ≤ end → ys ≡ patch_of f px at end
    → ys ≡ filled (λ i. f i (get_or ks i 0)) ks end
patch_fills f ks {px} {ys} {at} {end} e l q =
    q ∙ patch_is f px at end ∙ filled_cong px end (λ i h. entry i (ltb i at) refl)
    ∙ ap (λ t. filled (λ i. f i (get_or ks i 0)) t end) e
    ∙ filled_over (λ i. f i (get_or ks i 0)) (λ i. f i (get_or ks i 0)) ks l
  where
    entry : (i : ℕ) → (b : Bool) → ltb i at ≡ b → put f px at i ≡ f i (get_or ks i 0)
    entry i true h =
        let n : i < at = ltb-true i at h in
        put_before f px n ∙ ap (λ t. get_or t i 0) e ∙ get_or_filled (λ i. f i (get_or ks i 0)) ks at i n
    entry i false h =
        let n : at ≤ i = ltb-false i at h in
        put_from f px n ∙ ap (λ t. f i (get_or t i 0)) e ∙ ap (f i) (get_or_behind (λ i. f i (get_or ks i 0)) ks at i n)
