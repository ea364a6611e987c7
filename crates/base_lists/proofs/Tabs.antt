-- Laws of `tab`, the list f 0 .. f (n - 1), and of `every`.
-- Assumes nothing.
use Prim.Native.Nat.{ℕ, zero, suc, ◌+◌, ◌≤◌, ◌<◌}
use mathlib.Core.Bool.{Bool, true, false, ◌&&◌}
use mathlib.Core.List.{List, [], ◌∷◌, ◌++◌, map}
use mathlib.Core.Logic.{⊎_elim}
use mathlib.Core.Path.{◌≡◌, refl, sym, ap, ap₂, ◌∙◌}
use lib.ListN.{length, take, get_or, length-append, get_or-append}
use lib.Seq.{get_or_at, ext_get_or, take-suc, take-length}
use native.Mathlib.Nat.{eq-or-lt_of_le, le_of_suc-le-suc, not-suc-le-zero}
use native.Mathlib.Omega.{arith}
use native.Mathlib.Numerals.{add-one}
use Rattle.base_lists.specs.Lists.{tab, every}

pub length_tab : {A : Type 0} (n : ℕ) (f : ℕ → A) → length (tab n f) ≡ n
unfolding tab
length_tab zero f = refl
length_tab (suc n) f = rw (length-append, length_tab n f) (omega arith)

pub tab_suc : {A : Type 0} (n : ℕ) (f : ℕ → A) → tab (n + 1) f ≡ tab n f ++ (f n ∷ [])
unfolding tab
tab_suc n f = rw add-one refl

-- the entry at i is f i
pub get_or_tab : {A : Type 0} (n : ℕ) (f : ℕ → A) (i : ℕ) (d : A) → i < n → get_or (tab n f) i d ≡ f i
unfolding tab
get_or_tab zero f i d h = absurd (not-suc-le-zero h)
get_or_tab (suc n) f i d h = ⊎_elim last (λ l. before l (get_or_tab n f i d l)) (eq-or-lt_of_le (le_of_suc-le-suc h))
  where
    last : i ≡ n → get_or (tab n f ++ (f n ∷ [])) i d ≡ f i
    last e = get_or_at (tab n f) (f n) [] d i (length_tab n f ∙ sym e) ∙ ap f (sym e)

    before : i < n → get_or (tab n f) i d ≡ f i → get_or (tab n f ++ (f n ∷ [])) i d ≡ f i
    before l e = get_or-append (tab n f) (f n ∷ []) d i (rw length_tab l) ∙ e

-- two functions that agree below n give one list
pub tab_cong : {A : Type 0} (n : ℕ) {f g : ℕ → A} → ((i : ℕ) → i < n → f i ≡ g i) → tab n f ≡ tab n g
unfolding tab
tab_cong zero h = refl
tab_cong (suc n) h = ap₂ (λ t x. t ++ (x ∷ [])) (tab_cong n (λ i l. h i (omega arith))) (h n (omega arith))

-- a list is the list of its entries
pub tab_get_or : {A : Type 0} (s : List A) (d : A) (n : ℕ) → n ≤ length s → tab n (λ k. get_or s k d) ≡ take n s
unfolding tab
tab_get_or s d zero h = refl
tab_get_or s d (suc n) h = rw (tab_get_or s d n (omega arith), take-suc s n d) refl

pub tab_all : {A : Type 0} (s : List A) (d : A) → tab (length s) (λ k. get_or s k d) ≡ s
tab_all s d = tab_get_or s d (length s) (omega arith) ∙ take-length s

pub map_append : {A B : Type 0} (g : A → B) (xs ys : List A) → map g (xs ++ ys) ≡ map g xs ++ map g ys
map_append g [] ys = refl
map_append g (x ∷ xs) ys = ap (λ t. g x ∷ t) (map_append g xs ys)

-- a list of n entries whose i-th is f i
pub eq_tab : {A : Type 0} (s : List A) (n : ℕ) (f : ℕ → A) (d : A) → length s ≡ n → ((i : ℕ) → i < n → get_or s i d ≡ f i) → s ≡ tab n f
eq_tab s n f d e h = ext_get_or d s (tab n f) (rw length_tab e) (λ i l. h i (omega arith) ∙ sym (get_or_tab n f i d (omega arith)))

-- ---- every

pub and_left : (a b : Bool) → (a && b) ≡ true → a ≡ true
and_left true b h = refl
and_left false b h = h

pub and_right : (a b : Bool) → (a && b) ≡ true → b ≡ true
and_right true b h = h
and_right false true h = refl
and_right false false h = h

pub and_both : (a b : Bool) → a ≡ true → b ≡ true → (a && b) ≡ true
and_both a b p q = rw (p, q) refl

pub every_at : (n : ℕ) (f : ℕ → Bool) → every n f ≡ true → (i : ℕ) → i < n → f i ≡ true
unfolding every
every_at zero f h i l = absurd (not-suc-le-zero l)
every_at (suc n) f h i l =
    ⊎_elim
    (λ e. ap f e ∙ and_right (every n f) (f n) h)
    (λ m. every_at n f (and_left (every n f) (f n) h) i m)
    (eq-or-lt_of_le (le_of_suc-le-suc l))

pub every_all : (n : ℕ) (f : ℕ → Bool) → ((i : ℕ) → i < n → f i ≡ true) → every n f ≡ true
unfolding every
every_all zero f h = refl
every_all (suc n) f h = and_both (every n f) (f n) (every_all n f (λ i l. h i (omega arith))) (h n (omega arith))

-- one more
pub every_suc : (n : ℕ) (f : ℕ → Bool) → every (n + 1) f ≡ (every n f && f n)
unfolding every
every_suc n f = rw add-one refl

-- two tests that agree below n hold of all alike
pub every_cong : (n : ℕ) {f g : ℕ → Bool} → ((i : ℕ) → i < n → f i ≡ g i) → every n f ≡ every n g
unfolding every
every_cong zero h = refl
every_cong (suc n) h = ap₂ (λ a b. a && b) (every_cong n (λ i l. h i (omega arith))) (h n (omega arith))

-- one that fails is enough
pub every_not : (n : ℕ) (f : ℕ → Bool) (i : ℕ) → i < n → f i ≡ false → every n f ≡ false
unfolding every
every_not n f i l e = go (every n f) refl
  where
    go : (b : Bool) → every n f ≡ b → every n f ≡ false
    go false q = q
    go true q = q ∙ (sym (every_at n f q i l) ∙ e)
