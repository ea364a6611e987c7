-- Laws of `all`, a test of each entry, and how it goes over into `every`.
-- Assumes nothing.
use Prim.Native.Nat.{ℕ, zero, suc, ◌<◌}
use mathlib.Core.Bool.{Bool, true, ◌&&◌, and_assoc, and-true}
use mathlib.Core.List.{List, [], ◌∷◌, ◌++◌, map}
use mathlib.Core.Path.{◌≡◌, refl, sym, ap, ap₂, ◌∙◌}
use lib.ListN.{length, take, drop, get_or, take-append-drop}
use native.Mathlib.Nat.{not-suc-le-zero}
use native.Mathlib.Omega.{arith}
use Rattle.base_lists.specs.Lists.{tab, joined, all, every}
use Rattle.base_lists.proofs.Tabs.{and_left, and_right, and_both, every_at, every_all}

pub all_append : (p : ℕ → Bool) (xs ys : List ℕ) → all p (xs ++ ys) ≡ (all p xs && all p ys)
unfolding all
all_append p [] ys = refl
all_append p (x ∷ xs) ys = ap (λ b. p x && b) (all_append p xs ys) ∙ sym (and_assoc (p x) (all p xs) (all p ys))

-- a list of one entry
pub all_one : (p : ℕ → Bool) {x : ℕ} → p x ≡ true → all p (x ∷ []) ≡ true
unfolding all
all_one p {x} h = and_both (p x) true h refl

-- both parts of a list
pub all_both : (p : ℕ → Bool) (xs ys : List ℕ) → all p xs ≡ true → all p ys ≡ true → all p (xs ++ ys) ≡ true
all_both p xs ys h l = all_append p xs ys ∙ and_both (all p xs) (all p ys) h l

-- each entry meets it
pub all_at : (p : ℕ → Bool) (xs : List ℕ) → all p xs ≡ true → (i d : ℕ) → i < length xs → p (get_or xs i d) ≡ true
unfolding all
all_at p [] h i d l = absurd (not-suc-le-zero l)
all_at p (x ∷ xs) h zero d l = and_left (p x) (all p xs) h
all_at p (x ∷ xs) h (suc i) d l = all_at p xs (and_right (p x) (all p xs) h) i d (omega arith)

-- each entry meets it, so all do
pub all_from : (p : ℕ → Bool) (xs : List ℕ) (d : ℕ) → ((i : ℕ) → i < length xs → p (get_or xs i d) ≡ true) → all p xs ≡ true
unfolding all
all_from p [] d h = refl
all_from p (x ∷ xs) d h = and_both (p x) (all p xs) (h zero (omega arith)) (all_from p xs d (λ i l. h (suc i) (omega arith)))

pub all_tab_every : (p : ℕ → Bool) (n : ℕ) (f : ℕ → ℕ) → all p (tab n f) ≡ every n (λ i. p (f i))
unfolding all tab every
all_tab_every p zero f = refl
all_tab_every p (suc n) f = all_append p (tab n f) (f n ∷ []) ∙ ap₂ (λ a b. a && b) (all_tab_every p n f) (and-true (p (f n)))

pub all_joined_every : (p : ℕ → Bool) (n : ℕ) (f : ℕ → List ℕ) → all p (joined n f) ≡ every n (λ i. all p (f i))
unfolding all joined every
all_joined_every p zero f = refl
all_joined_every p (suc n) f = all_append p (joined n f) (f n) ∙ ap (λ a. a && all p (f n)) (all_joined_every p n f)

pub all_take_drop : (p : ℕ → Bool) (n : ℕ) (xs : List ℕ) → (all p (take n xs) && all p (drop n xs)) ≡ all p xs
all_take_drop p n xs = sym (all_append p (take n xs) (drop n xs)) ∙ ap (all p) (take-append-drop n xs)

pub all_take : (p : ℕ → Bool) (n : ℕ) (xs : List ℕ) → all p xs ≡ true → all p (take n xs) ≡ true
all_take p n xs h = and_left (all p (take n xs)) (all p (drop n xs)) (all_take_drop p n xs ∙ h)

pub all_drop : (p : ℕ → Bool) (n : ℕ) (xs : List ℕ) → all p xs ≡ true → all p (drop n xs) ≡ true
all_drop p n xs h = and_right (all p (take n xs)) (all p (drop n xs)) (all_take_drop p n xs ∙ h)

-- the entries of a tabulated list meet it where f's values do
pub all_tab : (p : ℕ → Bool) (n : ℕ) (f : ℕ → ℕ) → ((i : ℕ) → i < n → p (f i) ≡ true) → all p (tab n f) ≡ true
all_tab p n f h = all_tab_every p n f ∙ every_all n (λ i. p (f i)) h

-- the entries of lists one behind the other meet it where those of each list do
pub all_joined : (p : ℕ → Bool) (n : ℕ) (f : ℕ → List ℕ) → ((i : ℕ) → i < n → all p (f i) ≡ true) → all p (joined n f) ≡ true
all_joined p n f h = all_joined_every p n f ∙ every_all n (λ i. all p (f i)) h

-- and back
pub all_joined_at : (p : ℕ → Bool) (n : ℕ) (f : ℕ → List ℕ) → all p (joined n f) ≡ true → (i : ℕ) → i < n → all p (f i) ≡ true
all_joined_at p n f h i l = every_at n (λ k. all p (f k)) (sym (all_joined_every p n f) ∙ h) i l

-- a test of the mapped entries is a test of the entries
pub all_map : (p q : ℕ → Bool) (g : ℕ → ℕ) (xs : List ℕ) → ((x : ℕ) → p x ≡ true → q (g x) ≡ true) → all p xs ≡ true → all q (map g xs) ≡ true
unfolding all
all_map p q g [] k h = refl
all_map p q g (x ∷ xs) k h =
    and_both (q (g x)) (all q (map g xs)) (k x (and_left (p x) (all p xs) h)) (all_map p q g xs k (and_right (p x) (all p xs) h))
