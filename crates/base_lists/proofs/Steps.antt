-- A slice that is filled part by part, the parts of any length.
-- Assumes nothing.
use Prim.Native.Nat.{ℕ, zero, suc, ◌+◌, ◌-◌, ◌≤◌}
use mathlib.Core.List.{List, [], ◌∷◌, ◌++◌, append_assoc, append-nil}
use mathlib.Core.Path.{◌≡◌, sym, ap, ap₂, ◌∙◌}
use lib.ListN.{take, drop}
use lib.Seq.{drop_at, take_at, drop-drop}
use borrow.Rule.Slice.PartMut.{put_mid}
use native.Mathlib.Omega.{arith}
use Rattle.base_lists.specs.Lists.{tab, filled}
use Rattle.base_lists.proofs.Tabs.{length_tab}

-- a table in two parts
pub tab_parts : {A : Type 0} (i n : ℕ) (f : ℕ → A) → tab (i + n) f ≡ tab i f ++ tab n (λ j. f (i + j))
unfolding tab
tab_parts i zero f = let e : i + 0 ≡ i = omega arith in ap (λ k. tab k f) e ∙ sym (append-nil (tab i f))
tab_parts i (suc n) f =
    let e : i + suc n ≡ suc (i + n) = omega arith in
    ap (λ k. tab k f) e
    ∙ ap (λ t. t ++ (f (i + n) ∷ [])) (tab_parts i n f)
    ∙ append_assoc (tab i f) (tab n (λ j. f (i + j))) (f (i + n) ∷ [])

-- what lies behind the filled entries is as it was
pub drop_filled : (f : ℕ → ℕ) (d : List ℕ) (n : ℕ) → drop n (filled f d n) ≡ drop n d
unfolding filled
drop_filled f d n = drop_at (tab n f) (drop n d) n (length_tab n f)

-- one part more is filled
pub filled_part : (f : ℕ → ℕ) (d : List ℕ) {s ys : List ℕ} {i e : ℕ} → s ≡ filled f d i → i ≤ e → ys ≡ tab (e - i) (λ j. f (i + j)) → put_mid i (e - i) s ys ≡ filled f d e
unfolding filled
filled_part f d {s} {ys} {i} {e} p l q =
    let whole : i + (e - i) ≡ e = omega arith in
    let front : take i s ≡ tab i f = ap (take i) p ∙ take_at (tab i f) (drop i d) i (length_tab i f) in
    let rest : drop (e - i) (drop i s) ≡ drop e d =
    ap (λ t. drop (e - i) (drop i t)) p ∙ ap (drop (e - i)) (drop_at (tab i f) (drop i d) i (length_tab i f)) ∙ drop-drop (e - i) i d ∙ ap (λ n. drop n d) whole in
    ap₂ (λ a b. a ++ (b ++ drop (e - i) (drop i s))) front q
    ∙ ap (λ t. tab i f ++ (tab (e - i) (λ j. f (i + j)) ++ t)) rest
    ∙ sym (append_assoc (tab i f) (tab (e - i) (λ j. f (i + j))) (drop e d))
    ∙ ap (λ t. t ++ drop e d) (sym (tab_parts i (e - i) f) ∙ ap (λ n. tab n f) whole)
