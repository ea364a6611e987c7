-- Laws of `times`, and of a filled slice one of whose entries is counted up.
-- Assumes nothing.
use Prim.Native.Nat.{ℕ, zero, suc, ◌+◌, ◌≤◌, ◌<◌}
use mathlib.Core.Bool.{Bool, true, false, cond}
use mathlib.Core.List.{List, [], ◌∷◌, ◌++◌}
use mathlib.Core.Logic.{⊎_elim}
use mathlib.Core.Path.{◌≡◌, refl, sym, ap, ap₂, ◌∙◌}
use lib.Dec.{eqb, ltb}
use lib.ListN.{length, take, drop, get_or, set, length-set, get_or-append}
use lib.Seq.{get_or-set_same, get_or-set_other, set-append_left, drop_at, take-suc, take-take, take-nil}
use native.Mathlib.Numerals.{add-one}
use native.Mathlib.Nat.{suc-add, eq-or-lt_of_le, le_of_suc-le-suc, not-suc-le-zero}
use native.Mathlib.Omega.{arith}
use borrow.Author.Tests.{ltb-true, eqb-true, eqb-false, eq-eqb, ne_eqb}
use Rattle.base_lists.specs.Lists.{tab, sum, total, all, times, filled}
use Rattle.base_lists.proofs.Tabs.{length_tab, get_or_tab, tab_cong, eq_tab, and_left, and_right}
use Rattle.base_lists.proofs.Windows.{get_d_part, length_part}
use Rattle.base_lists.proofs.Sums.{sum_add, sum_cong, sum_const, total_append, total_take_drop}

-- ---- times

pub times_append : (k : ℕ) (xs ys : List ℕ) → times k (xs ++ ys) ≡ times k xs + times k ys
unfolding times
times_append k [] ys = omega arith
times_append k (x ∷ xs) ys = rw (times_append k xs ys) (omega arith)

-- whether the one number x is k
pub times_same : (k x : ℕ) → x ≡ k → times k (x ∷ []) ≡ 1
unfolding times
times_same k x e = rw (eq-eqb x k e) refl

pub times_other : (k x : ℕ) → (x ≡ k → ⊥) → times k (x ∷ []) ≡ 0
unfolding times
times_other k x e = rw (ne_eqb x k e) refl

pub times_one_le : (k x : ℕ) → times k (x ∷ []) ≤ 1
unfolding times
times_one_le k x = go (eqb x k)
  where
    go : (b : Bool) → cond b 1 0 + 0 ≤ 1
    go true = omega arith
    go false = omega arith

pub times_cons : (k x : ℕ) (xs : List ℕ) → times k (x ∷ xs) ≡ times k (x ∷ []) + times k xs
unfolding times
times_cons k x xs = omega arith

-- a number stands no more often in a list than the list is long
pub times_le : (k : ℕ) (xs : List ℕ) → times k xs ≤ length xs
unfolding times
times_le k [] = omega arith
times_le k (x ∷ xs) = omega (arith, times_one_le k x, times_le k xs)

-- over the numbers below b, the one number x stands once
pub sum_times_one : (b x : ℕ) → x < b → sum b (λ k. times k (x ∷ [])) ≡ 1
unfolding sum
sum_times_one zero x h = absurd (not-suc-le-zero h)
sum_times_one (suc b) x h = ⊎_elim last (λ l. before l (sum_times_one b x l)) (eq-or-lt_of_le (le_of_suc-le-suc h))
  where
    none : x ≡ b → sum b (λ k. times k (x ∷ [])) ≡ 0
    none e = sum_cong b {g = λ k. 0} (λ k l. times_other k x (λ q. omega arith)) ∙ sum_const b 0 ∙ omega arith

    last : x ≡ b → sum b (λ k. times k (x ∷ [])) + times b (x ∷ []) ≡ 1
    last e = omega (arith, none e, times_same b x e)

    before : x < b → sum b (λ k. times k (x ∷ [])) ≡ 1 → sum b (λ k. times k (x ∷ [])) + times b (x ∷ []) ≡ 1
    before l e = omega (arith, times_other b x (λ e. omega arith))

-- each entry of a list of numbers below b is counted once
pub sum_times : (b : ℕ) (xs : List ℕ) → all (λ x. ltb x b) xs ≡ true → sum b (λ k. times k xs) ≡ length xs
unfolding all times
sum_times b [] h = sum_const b 0 ∙ omega arith
sum_times b (x ∷ xs) h =
    let one : sum b (λ k. times k (x ∷ [])) ≡ 1 = sum_times_one b x (ltb-true x b (and_left (ltb x b) (all (λ x. ltb x b) xs) h)) in
    let rest : sum b (λ k. times k xs) ≡ length xs = sum_times b xs (and_right (ltb x b) (all (λ x. ltb x b) xs) h) in
    sum_cong b {g = λ k. times k (x ∷ []) + times k xs} (λ k l. times_cons k x xs) ∙ sum_add b (λ k. times k (x ∷ [])) (λ k. times k xs) ∙ omega arith

-- ---- a part of a slice, and entries of a filled one

-- the w entries from a on, by index
pub part_tab : (s : List ℕ) (a w : ℕ) → a + w ≤ length s → take w (drop a s) ≡ tab w (λ x. get_or s (a + x) 0)
part_tab s a w h =
    eq_tab
    (take w (drop a s))
    w
    (λ x. get_or s (a + x) 0)
    0
    (length_part s w a h)
    (λ i l. get_d_part s w a l)

pub get_or_filled : (f : ℕ → ℕ) (d : List ℕ) (n i : ℕ) → i < n → get_or (filled f d n) i 0 ≡ f i
unfolding filled
get_or_filled f d n i h = get_or-append (tab n f) (drop n d) 0 i (rw length_tab h) ∙ get_or_tab n f i 0 h

pub filled_cong : {f g : ℕ → ℕ} (d : List ℕ) (n : ℕ) → ((i : ℕ) → i < n → f i ≡ g i) → filled f d n ≡ filled g d n
unfolding filled
filled_cong d n h = ap (λ t. t ++ drop n d) (tab_cong n h)

-- a second filling of as many entries is the second alone
pub filled_filled : (f g : ℕ → ℕ) (d : List ℕ) (n : ℕ) → filled g (filled f d n) n ≡ filled g d n
unfolding filled
filled_filled f g d n = ap (λ t. tab n g ++ t) (drop_at (tab n f) (drop n d) n (length_tab n f))

-- one more at entry j is one more where k is j
pub tab_bump : (f : ℕ → ℕ) (n j : ℕ) → j < n → set (tab n f) j (f j + 1) ≡ tab n (λ k. f k + times k (j ∷ []))
tab_bump f n j h =
    eq_tab (set (tab n f) j (f j + 1)) n (λ k. f k + times k (j ∷ [])) 0 (length-set (tab n f) j (f j + 1) ∙ length_tab n f) (λ i l. go i l (eqb j i) refl)
  where
    go : (i : ℕ) → i < n → (b : Bool) → eqb j i ≡ b → get_or (set (tab n f) j (f j + 1)) i 0 ≡ f i + times i (j ∷ [])
    go i l true e =
        let q : j ≡ i = eqb-true j i e in
        let m : j < length (tab n f) = rw length_tab h in
        ap (λ k. get_or (set (tab n f) j (f j + 1)) k 0) (sym q)
        ∙ get_or-set_same (tab n f) j (f j + 1) 0 m
        ∙ ap₂ (λ a b. f a + b) q (sym (times_same i j q))
    go i l false e =
        let r : j ≡ i → ⊥ = eqb-false j i e in
        get_or-set_other (tab n f) j i (f j + 1) 0 (λ q. r (sym q))
        ∙ get_or_tab n f i 0 l
        ∙ omega (arith, times_other i j r)

pub filled_set : (f : ℕ → ℕ) (d : List ℕ) (n j v : ℕ) → j < n → set (filled f d n) j v ≡ set (tab n f) j v ++ drop n d
unfolding filled
filled_set f d n j v h = set-append_left (tab n f) (drop n d) j v (rw length_tab h)

pub filled_tab : (f : ℕ → ℕ) (d : List ℕ) (n : ℕ) → filled f d n ≡ tab n f ++ drop n d
unfolding filled
filled_tab f d n = refl

-- one more at entry j of a filled slice
pub filled_bump : (f : ℕ → ℕ) (d : List ℕ) (n j : ℕ) → j < n
    → set (filled f d n) j (get_or (filled f d n) j 0 + 1) ≡ filled (λ k. f k + times k (j ∷ [])) d n
filled_bump f d n j h =
    ap (λ v. set (filled f d n) j (v + 1)) (get_or_filled f d n j h)
    ∙ filled_set f d n j (f j + 1) h
    ∙ ap (λ t. t ++ drop n d) (tab_bump f n j h)
    ∙ sym (filled_tab (λ k. f k + times k (j ∷ [])) d n)

-- ---- running sums

-- the sum up to one entry more
pub total_next : (xs : List ℕ) (k : ℕ) → k < length xs → total (take (k + 1) xs) ≡ total (take k xs) + get_or xs k 0
unfolding total
total_next xs k h =
    ap total (ap (λ j. take j xs) (add-one k) ∙ take-suc xs k 0 h) ∙ total_append (take k xs) (get_or xs k 0 ∷ []) ∙ omega arith

-- it is at most the whole
pub total_take_le : (k : ℕ) (xs : List ℕ) → total (take k xs) ≤ total xs
total_take_le k xs = omega (arith, total_take_drop k xs)

-- and never falls
pub total_take_mono : (xs : List ℕ) (k j : ℕ) → k ≤ j → total (take k xs) ≤ total (take j xs)
total_take_mono xs k j h = omega (arith, total_take_le k (take j xs), ap total (take-take k j xs h))

-- one entry further it grows by at most that entry, and by nothing behind the last
pub total_next_le : (xs : List ℕ) (k : ℕ) → total (take (k + 1) xs) ≤ total (take k xs) + get_or xs k 0
unfolding total
total_next_le [] zero = omega arith
total_next_le [] (suc k) = rw (take-nil (suc k + 1)) (omega arith)
total_next_le (x ∷ xs) zero = omega arith
total_next_le (x ∷ xs) (suc k) = rw (suc-add k 1) (omega (arith, total_next_le xs k))
