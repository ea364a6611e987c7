-- Blocks laid end to end in a buffer: one more behind the last, one taken out with the later ones moved down, and each where it lies.
-- Assumes nothing.
use Prim.Native.Nat.{ℕ, zero, suc, ◌+◌, ◌≤◌, ◌<◌}
use mathlib.Core.List.{List, [], ◌∷◌, ◌++◌}
use mathlib.Core.Path.{◌≡◌, sym, ap, subst, ◌∙◌}
use native.Mathlib.Nat.{not-suc-le-zero, le_of_suc-le-suc}
use native.Mathlib.Omega.{arith}
use lib.ListN.{length, take, drop, get_or, length-append, length-take, length-drop}
use lib.Seq.{length-take-le, take-take, drop-drop, take-add, take_at, drop_at}
use Rattle.base_lists.specs.Lists.{over}
use Rattle.base_lists.proofs.Parts.{over_front, over_behind}

module _ {A : Type 0} where
  -- the sets without the one at i
  unfoldable pub less : ℕ → List A → List A
  less i [] = []
  less zero (f ∷ fs) = fs
  less (suc i) (f ∷ fs) = f ∷ less i fs

module _ {A : Type 0} (size : A → ℕ) (Good : A → List ℕ → Type 0) where
  -- the entries of some sets
  unfoldable pub spans : List A → ℕ
  spans [] = 0
  spans (f ∷ fs) = size f + spans fs

  -- each set's entries, one behind the other from the front of the buffer, are good for it
  pub data Laid : List A → List ℕ → Type 0 where
    none : {m : List ℕ} → Laid [] m
    one : (f : A) (fs : List A) (m : List ℕ) → size f ≤ length m → Good f (take (size f) m) → Laid fs (drop (size f) m) → Laid (f ∷ fs) m

  -- all of them lie within the buffer
  pub laid_room : {fs : List A} {m : List ℕ} → Laid fs m → spans fs ≤ length m
  unfolding spans
  laid_room none = omega arith
  laid_room (one f fs m l g rest) = let r = laid_room rest in omega (arith, rw length-drop at r, l)

  -- they speak of their own entries alone
  pub laid_front : {fs : List A} {m : List ℕ} → Laid fs m → (m' : List ℕ) → take (spans fs) m ≡ take (spans fs) m' → spans fs ≤ length m' → Laid fs m'
  unfolding spans
  laid_front none m' e h = none
  laid_front (one f fs m l g rest) m' e h =
      one f fs m' (omega arith) (subst (Good f) front g)
      (laid_front rest (drop (size f) m') behind (rw length-drop (omega arith)))
    where
      front : take (size f) m ≡ take (size f) m'
      front = sym (take-take (size f) (size f + spans fs) m (omega arith)) ∙ ap (take (size f)) e ∙ take-take (size f) (size f + spans fs) m' (omega arith)

      behind : take (spans fs) (drop (size f) m) ≡ take (spans fs) (drop (size f) m')
      behind = sym (part m l) ∙ ap (drop (size f)) e ∙ part m' (omega arith)
        where
          part : (n : List ℕ) → size f ≤ length n → drop (size f) (take (size f + spans fs) n) ≡ take (spans fs) (drop (size f) n)
          part n k = ap (drop (size f)) (take-add (size f) (spans fs) n) ∙ drop_at (take (size f) n) (take (spans fs) (drop (size f) n)) (size f) (length-take-le (size f) n k)

  -- one more, straight behind the last
  pub laid_more : {fs : List A} {m : List ℕ} → Laid fs m → (f : A) → spans fs + size f ≤ length m → Good f (take (size f) (drop (spans fs) m)) → Laid (fs ++ (f ∷ [])) m
  unfolding spans
  laid_more {m = m} none f h g = one f [] m (omega arith) g none
  laid_more (one f₀ fs m l g₀ rest) f h g =
      one f₀ (fs ++ (f ∷ [])) m l g₀
      (laid_more rest f (rw length-drop (omega arith)) (subst (λ n. Good f (take (size f) n)) (sym (drop-drop (spans fs) (size f₀) m)) g))

  -- each where it lies
  pub laid_at : {fs : List A} {m : List ℕ} → Laid fs m → (i : ℕ) (d : A) → i < length fs → Good (get_or fs i d) (take (size (get_or fs i d)) (drop (spans (take i fs)) m))
  unfolding spans
  laid_at none i d h = absurd (not-suc-le-zero h)
  laid_at (one f fs m l g rest) zero d h = g
  laid_at (one f fs m l g rest) (suc i) d h =
      subst (λ n. Good (get_or fs i d) (take (size (get_or fs i d)) n)) (drop-drop (spans (take i fs)) (size f) m) (laid_at rest i d (le_of_suc-le-suc h))

  -- where the later ones begin
  unfoldable pub past : ℕ → List A → ℕ
  past i [] = 0
  past zero (f ∷ fs) = size f
  past (suc i) (f ∷ fs) = size f + past i fs

  -- how many entries they have
  unfoldable pub later : ℕ → List A → ℕ
  later i [] = 0
  later zero (f ∷ fs) = spans fs
  later (suc i) (f ∷ fs) = later i fs

  -- one taken out, and the later ones moved down to where it began
  pub laid_less : {fs : List A} {m : List ℕ} → Laid fs m → (i : ℕ) → i < length fs
      → Laid (less i fs) (over m (spans (take i fs)) (take (later i fs) (drop (past i fs) m)))
  unfolding spans less past later over
  laid_less none i h = absurd (not-suc-le-zero h)
  laid_less (one f fs m l g rest) zero h =
      laid_front rest _ (sym seam) long
    where
      r : spans fs ≤ length (drop (size f) m)
      r = laid_room rest

      long : spans fs ≤ length ([] ++ (take (spans fs) (drop (size f) m) ++ drop (0 + length (take (spans fs) (drop (size f) m))) m))
      long =
          let n = length-take-le (spans fs) (drop (size f) m) r in
          omega (arith, n, length-append (take (spans fs) (drop (size f) m)) (drop (0 + length (take (spans fs) (drop (size f) m))) m))

      seam : take (spans fs) ([] ++ (take (spans fs) (drop (size f) m) ++ drop (0 + length (take (spans fs) (drop (size f) m))) m)) ≡ take (spans fs) (drop (size f) m)
      seam = take_at (take (spans fs) (drop (size f) m)) _ (spans fs) (length-take-le (spans fs) (drop (size f) m) r)
  laid_less (one f fs m l g rest) (suc i) h =
      one f (less i fs) (over m (size f + spans (take i fs)) ys) long (subst (Good f) (sym front) g)
      (subst (Laid (less i fs)) (sym (behind ∙ ap (λ ys. over (drop (size f) m) (spans (take i fs)) (take (later i fs) ys)) (sym (drop-drop (past i fs) (size f) m)))) (laid_less rest i (le_of_suc-le-suc h)))
    where
      ys : List ℕ
      ys = take (later i fs) (drop (size f + past i fs) m)

      front : take (size f) (over m (size f + spans (take i fs)) ys) ≡ take (size f) m
      front = over_front m ys (size f) (size f + spans (take i fs)) (omega arith) l

      behind : drop (size f) (over m (size f + spans (take i fs)) ys) ≡ over (drop (size f) m) (spans (take i fs)) ys
      behind = over_behind m ys (size f) (spans (take i fs)) l

      long : size f ≤ length (over m (size f + spans (take i fs)) ys)
      long =
          let q : length (take (size f) (over m (size f + spans (take i fs)) ys)) ≡ size f = ap length front ∙ length-take-le (size f) m l in
          let k = length-take (size f) (over m (size f + spans (take i fs)) ys) in
          omega (arith, q, k)
