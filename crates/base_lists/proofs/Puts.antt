-- Laws of a list whose entries are replaced from an index on, and of a slice that is filled a second time.
-- Assumes nothing.
use Prim.Native.Nat.{ℕ, ◌+◌, ◌-◌, ◌≤◌, ◌<◌}
use mathlib.Core.Bool.{cond}
use mathlib.Core.List.{List, ◌++◌}
use mathlib.Core.Path.{◌≡◌, refl, sym, ap, ◌∙◌}
use lib.Dec.{ltb}
use lib.ListN.{length, drop, get_or}
use lib.Seq.{drop-drop, drop-append-add}
use borrow.Author.Tests.{lt-ltb, le-ltb}
use native.Mathlib.Omega.{arith}
use Rattle.base_lists.specs.Lists.{tab, filled}
use Rattle.base_lists.proofs.Tabs.{length_tab}
use Rattle.base_lists.proofs.Tallies.{filled_tab}

-- entry i, when it is replaced from `at` on
abbrev pub put : (ℕ → ℕ → ℕ) → List ℕ → ℕ → ℕ → ℕ
put f d at i = cond (ltb i at) (get_or d i 0) (f i (get_or d i 0))

-- an entry before is as it was
pub put_before : (f : ℕ → ℕ → ℕ) (d : List ℕ) {at i : ℕ} → i < at → put f d at i ≡ get_or d i 0
put_before f d {at} {i} l = rw (lt-ltb i at l) refl

-- an entry from there on is f of its index and of what it held
pub put_from : (f : ℕ → ℕ → ℕ) (d : List ℕ) {at i : ℕ} → at ≤ i → put f d at i ≡ f i (get_or d i 0)
put_from f d {at} {i} l = rw (le-ltb i at l) refl

-- a second filling of at least as many entries is the second alone
pub filled_over : (f g : ℕ → ℕ) (d : List ℕ) {n m : ℕ} → n ≤ m → filled g (filled f d n) m ≡ filled g d m
filled_over f g d {n} {m} l =
    filled_tab g (filled f d n) m
    ∙ ap (λ t. tab m g ++ drop m t) (filled_tab f d n)
    ∙ ap (λ t. tab m g ++ t) behind
    ∙ sym (filled_tab g d m)
  where
    far : m ≡ length (tab n f) + (m - n)
    far = omega (arith, length_tab n f)

    near : n + (m - n) ≡ m
    near = omega arith

    behind : drop m (tab n f ++ drop n d) ≡ drop m d
    behind =
        ap (λ k. drop k (tab n f ++ drop n d)) far
        ∙ drop-append-add (tab n f) (drop n d) (m - n)
        ∙ drop-drop (m - n) n d
        ∙ ap (λ k. drop k d) near
