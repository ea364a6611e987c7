-- Laws of `run`, which takes the entries of a list in, one after the other. Assumes nothing.
use Prim.Native.Nat.{ℕ, ◌+◌, ◌≤◌, ◌<◌}
use mathlib.Core.List.{List, [], ◌∷◌, ◌++◌}
use mathlib.Core.Path.{◌≡◌, refl, sym, ap, ◌∙◌}
use lib.ListN.{length, take, get_or}
use lib.Seq.{take-suc}
use Rattle.std.proofs.Common.{take_all}
use native.Mathlib.Numerals.{add-one}
use Rattle.test_text.specs.Text.{run}

-- one entry more at the end
pub run_last : {A : Type 0} (f : A → ℕ → A) (a : A) (s : List ℕ) (b : ℕ) → run f a (s ++ (b ∷ [])) ≡ f (run f a s) b
unfolding run
run_last f a [] b = refl
run_last f a (x ∷ s) b = run_last f (f a x) s b

-- before a loop over a list nothing is taken in
pub run_start : {A : Type 0} (f : A → ℕ → A) {h a : A} → h ≡ a → h ≡ run f a []
unfolding run
run_start f e = e

-- a turn of it: one entry more is taken in
pub run_turn : {A : Type 0} (f : A → ℕ → A) (a : A) (s : List ℕ) (i : ℕ) {h v : A} → h ≡ run f a (take i s) → i < length s → v ≡ f h (get_or s i 0) → v ≡ run f a (take (i + 1) s)
run_turn f a s i e l q = q ∙ (ap (λ x. f x (get_or s i 0)) e ∙ (sym (run_last f a (take i s) (get_or s i 0)) ∙ ap (run f a) (sym (ap (λ k. take k s) (add-one i) ∙ take-suc s i 0 l))))

-- behind the loop all of it is
pub run_all : {A : Type 0} (f : A → ℕ → A) (a : A) (s : List ℕ) (i : ℕ) {h : A} → h ≡ run f a (take i s) → length s ≤ i → h ≡ run f a s
run_all f a s i e l = e ∙ ap (run f a) (take_all i s l)
