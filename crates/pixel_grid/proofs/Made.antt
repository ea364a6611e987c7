-- What `array::from_fn` makes by a function that answers the same for an index whenever it is called: the list of its answers.
-- Assumes nothing.
use Prim.Native.Nat.{ℕ, zero, suc, ◌+◌, ◌<◌}
use denote.Param.Members.{Mut}
use lib.ListN.{get_or}
use mathlib.Core.List.{List}
use mathlib.Core.Path.{◌≡◌, refl, ◌∙◌}
use native.Mathlib.Omega.{arith}
use Rattle.std.specs.Array.{IsFromFnResultFrom, IsFromFnResult}
use Rattle.std.specs.Iterator.{ActsAs}
use Rattle.base_lists.specs.Lists.{tab}
use Rattle.base_lists.proofs.Tabs.{eq_tab}

module _ {F : Type 0} (g : Mut F (ℕ × Unit {0}) ℕ) {f : F} (h : ℕ → ℕ) (acts : ActsAs g f h) where
  -- the calls from index i on gave the answers from there on
  made_from : (ys : List ℕ) (i n : ℕ) {p : F} → p ≡ f → IsFromFnResultFrom g p ys i n → (k j : ℕ) → k < n → i + k ≡ j → get_or ys j 0 ≡ h j
  made_from ys i zero e m k j l q = absurd (omega arith)
  made_from ys i (suc n) e m zero j l q = let z : i ≡ j = omega arith in rw (← z) (m.2.1 0 ∙ (acts i m.1 m.0 (rw e at m.3)).1)
  made_from ys i (suc n) e m (suc k) j l q = made_from ys (i + 1) n (acts i m.1 m.0 (rw e at m.3)).0 m.4 k j (omega arith) (omega arith)

  -- the whole list
  pub made_tab : {ys : List ℕ} {n : ℕ} → IsFromFnResult g f ys n → ys ≡ tab n h
  made_tab {ys} {n} m = eq_tab ys n h 0 m.long (λ i l. made_from ys 0 n refl m.each i i l (omega arith))
