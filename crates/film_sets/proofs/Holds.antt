-- The sets that a room holds: one more, one taken out, and where a number stands among them.
-- Assumes nothing.
use Prim.Native.Nat.{ℕ, zero, suc, ◌+◌, ◌-◌, ◌≤◌, ◌<◌}
use mathlib.Core.Bool.{Bool, true, false, cond, ◌||◌, ◌&&◌}
use mathlib.Core.List.{List, [], ◌∷◌, ◌++◌, map}
use mathlib.Core.Path.{◌≡◌, refl, sym, ap, ap₂, subst, ◌∙◌}
use native.Mathlib.Nat.{not-suc-le-zero, le_of_suc-le-suc}
use native.Mathlib.Omega.{arith}
use lib.Dec.{leb, ltb, eqb}
use lib.ListN.{length, get_or, set}
use lib.Seq.{get_or-set_same, get_or-set_other}
use borrow.Author.Tests.{eqb-true, eqb-false, eq-eqb, ne_eqb, ltb-true, ltb-false, lt-ltb, le-ltb, leb-true, leb-false}
use Rattle.base_lists.specs.Lists.{tab}
use native.Mathlib.Numerals.{add-one}
use Rattle.base_lists.proofs.Tabs.{length_tab, tab_suc, tab_cong, tab_all, get_or_tab}
use Rattle.film_sets.specs.declared.Set.{Set}
use Rattle.film_sets.specs.declared.Room.{Room}
use Rattle.film_sets.specs.Sets.{no_set_of, set_size, held, span_of, among, twice, before, with_set_of, without_set_of, moved_from_of}
use Rattle.film_sets.proofs.Laid.{less, spans}

-- ---- two truths

or_left : (a b : Bool) → (a || b) ≡ false → a ≡ false
or_left false b e = refl
or_left true b e = e

or_right : (a b : Bool) → (a || b) ≡ false → b ≡ false
or_right false b e = e
or_right true false e = refl
or_right true true e = e

-- ---- one set more

-- as many sets as the room counts
pub length_held : (room : Room) → length (held room) ≡ room.count
unfolding held
length_held room = length_tab room.count _

pub held_more : (room : Room) (r : Set) → room.count < length room.sets → held (with_set_of room r) ≡ held room ++ (r ∷ [])
unfolding held with_set_of
held_more room r l =
    tab_suc n (λ i. get_or (set room.sets n r) i no_set_of)
    ∙ ap₂ (λ a b. a ++ (b ∷ [])) (tab_cong n (λ i q. get_or-set_other room.sets n i r no_set_of (λ e. omega (arith, e)))) (get_or-set_same room.sets n r no_set_of l)
  where
    n : ℕ
    n = room.count

-- its number is among them
among_more : (n : ℕ) (rs : List Set) (r : Set) → among n rs ≡ false → eqb r.film n ≡ false → among n (rs ++ (r ∷ [])) ≡ false
unfolding among
among_more n [] r h e = rw e refl
among_more n (q ∷ rs) r h e = rw (or_left (eqb q.film n) (among n rs) h) (among_more n rs r (or_right (eqb q.film n) (among n rs) h) e)

-- a new number is not there twice
pub twice_more : (rs : List Set) (r : Set) → twice rs ≡ false → among r.film rs ≡ false → twice (rs ++ (r ∷ [])) ≡ false
unfolding twice among
twice_more [] r h k = refl
twice_more (q ∷ rs) r h k =
    rw (among_more q.film rs r (or_left (among q.film rs) (twice rs) h) (ne_eqb r.film q.film (λ e. eqb-false q.film r.film (or_left (eqb q.film r.film) (among r.film rs) k) (sym e))))
    (twice_more rs r (or_right (among q.film rs) (twice rs) h) (or_right (eqb q.film r.film) (among r.film rs) k))

-- ---- one set less

module _ {A : Type 0} where
  pub length_less : (i : ℕ) (rs : List A) → i < length rs → length (less i rs) ≡ length rs - 1
  unfolding less
  length_less i [] h = omega arith
  length_less zero (r ∷ rs) h = omega arith
  length_less (suc i) (r ∷ []) h = absurd (not-suc-le-zero (le_of_suc-le-suc h))
  length_less (suc i) (r ∷ q ∷ rs) h = let l = length_less i (q ∷ rs) (le_of_suc-le-suc h) in omega (arith, l)

  -- those before it stay, the later ones move down a place
  pub less_before : (i : ℕ) (rs : List A) (k : ℕ) (d : A) → k < i → get_or (less i rs) k d ≡ get_or rs k d
  unfolding less
  less_before i [] k d h = refl
  less_before zero (r ∷ rs) k d h = absurd (not-suc-le-zero h)
  less_before (suc i) (r ∷ rs) zero d h = refl
  less_before (suc i) (r ∷ rs) (suc k) d h = less_before i rs k d (le_of_suc-le-suc h)

  pub less_behind : (i : ℕ) (rs : List A) (k : ℕ) (d : A) → i ≤ k → get_or (less i rs) k d ≡ get_or rs (suc k) d
  unfolding less
  less_behind i [] k d h = refl
  less_behind zero (r ∷ rs) k d h = refl
  less_behind (suc i) (r ∷ rs) zero d h = absurd (not-suc-le-zero h)
  less_behind (suc i) (r ∷ rs) (suc k) d h = less_behind i rs k d (le_of_suc-le-suc h)

-- a number that is not among some is not among fewer
pub among_less : (n i : ℕ) (rs : List Set) → among n rs ≡ false → among n (less i rs) ≡ false
unfolding among less
among_less n i [] h = refl
among_less n zero (r ∷ rs) h = or_right (eqb r.film n) (among n rs) h
among_less n (suc i) (r ∷ rs) h = rw (or_left (eqb r.film n) (among n rs) h) (among_less n i rs (or_right (eqb r.film n) (among n rs) h))

pub twice_less : (i : ℕ) (rs : List Set) → twice rs ≡ false → twice (less i rs) ≡ false
unfolding twice less
twice_less i [] h = refl
twice_less zero (r ∷ rs) h = or_right (among r.film rs) (twice rs) h
twice_less (suc i) (r ∷ rs) h = rw (among_less r.film i rs (or_left (among r.film rs) (twice rs) h)) (twice_less i rs (or_right (among r.film rs) (twice rs) h))

-- a number that is among them stands before the end
pub before_in : (n : ℕ) (rs : List Set) → among n rs ≡ true → before n rs < length rs
unfolding among before
before_in n [] h = absurd (omega (arith, ap {B = ℕ} (λ b. cond b 1 0) h))
before_in n (r ∷ rs) h = go (eqb r.film n) refl (before_in n rs)
  where
    go : (b : Bool) → eqb r.film n ≡ b → (among n rs ≡ true → before n rs < length rs) → cond (eqb r.film n) 0 (suc (before n rs)) < suc (length rs)
    go true e rest = rw e (omega arith)
    go false e rest = let l = rest (sym (ap (λ c. c || among n rs) e) ∙ h) in rw e (omega (arith, l))

-- the room without the set at place i holds the others
pub held_less : (room : Room) (i : ℕ) → i < room.count → room.count ≤ 8 → held (without_set_of room i) ≡ less i (held room)
unfolding held without_set_of
held_less room i l few =
    tab_cong (n - 1) (λ k q. get_or_tab 8 (λ k. get_or room.sets (moved_from_of i n k) no_set_of) k no_set_of (omega arith) ∙ each k q (leb i k) refl)
    ∙ ap (λ m. tab m (λ k. get_or (less i rs) k no_set_of)) (sym (length_less i rs (rw (length_tab n (λ k. get_or room.sets k no_set_of)) l) ∙ ap (λ m. m - 1) (length_tab n (λ k. get_or room.sets k no_set_of))))
    ∙ tab_all (less i rs) no_set_of
  where
    n : ℕ
    n = room.count

    rs : List Set
    rs = tab n (λ k. get_or room.sets k no_set_of)

    each : (k : ℕ) → k < n - 1 → (b : Bool) → leb i k ≡ b → get_or room.sets (moved_from_of i n k) no_set_of ≡ get_or (less i rs) k no_set_of
    each k q true e =
        ap₂ (λ a b. get_or room.sets (cond (a && b) (k + 1) k) no_set_of) e (lt-ltb (k + 1) n (omega arith))
        ∙ ap (λ m. get_or room.sets m no_set_of) (add-one k)
        ∙ sym (less_behind i rs k no_set_of (leb-true i k e) ∙ get_or_tab n (λ k. get_or room.sets k no_set_of) (suc k) no_set_of (omega arith))
    each k q false e =
        ap (λ a. get_or room.sets (cond (a && ltb (k + 1) n) (k + 1) k) no_set_of) e
        ∙ sym (less_before i rs k no_set_of (leb-false i k e) ∙ get_or_tab n (λ k. get_or room.sets k no_set_of) k no_set_of (omega arith))

-- ---- the set at a place

-- a number that is not among them is no set's
pub among_not : (n : ℕ) (rs : List Set) (i : ℕ) (d : Set) → among n rs ≡ false → i < length rs → eqb (get_or rs i d).film n ≡ false
unfolding among
among_not n [] i d h l = absurd (not-suc-le-zero l)
among_not n (r ∷ rs) zero d h l = or_left (eqb r.film n) (among n rs) h
among_not n (r ∷ rs) (suc i) d h l = among_not n rs i d (or_right (eqb r.film n) (among n rs) h) (le_of_suc-le-suc l)

-- a set's own number is among them
pub among_own : (rs : List Set) (i : ℕ) (d : Set) → i < length rs → among (get_or rs i d).film rs ≡ true
unfolding among
among_own [] i d l = absurd (not-suc-le-zero l)
among_own (r ∷ rs) zero d l = rw (eq-eqb r.film r.film refl) refl
among_own (r ∷ rs) (suc i) d l = rw (among_own rs i d (le_of_suc-le-suc l)) (go (eqb r.film (get_or rs i d).film))
  where
    go : (b : Bool) → (b || true) ≡ true
    go true = refl
    go false = refl

-- and where no number is there twice, it stands at its own place
pub before_own : (rs : List Set) (i : ℕ) (d : Set) → twice rs ≡ false → i < length rs → before (get_or rs i d).film rs ≡ i
unfolding before twice
before_own [] i d h l = absurd (not-suc-le-zero l)
before_own (r ∷ rs) zero d h l = rw (eq-eqb r.film r.film refl) refl
before_own (r ∷ rs) (suc i) d h l =
    let no : eqb r.film (get_or rs i d).film ≡ false =
    ne_eqb r.film (get_or rs i d).film (λ e. eqb-false (get_or rs i d).film r.film (among_not r.film rs i d (or_left (among r.film rs) (twice rs) h) (le_of_suc-le-suc l)) (sym e)) in
    rw no (ap suc (before_own rs i d (or_right (among r.film rs) (twice rs) h) (le_of_suc-le-suc l)))

ltb_suc : (x y : ℕ) → ltb x y ≡ ltb (suc x) (suc y)
ltb_suc x y = go (ltb x y) refl
  where
    go : (b : Bool) → ltb x y ≡ b → ltb x y ≡ ltb (suc x) (suc y)
    go true q = q ∙ sym (lt-ltb (suc x) (suc y) (omega (arith, ltb-true x y q)))
    go false q = q ∙ sym (le-ltb (suc x) (suc y) (omega (arith, ltb-false x y q)))

-- a number is among them where it stands before the end
pub among_before : (n : ℕ) (rs : List Set) → among n rs ≡ ltb (before n rs) (length rs)
unfolding among before
among_before n [] = refl
among_before n (r ∷ rs) = go (eqb r.film n) refl (among_before n rs)
  where
    go : (b : Bool) → eqb r.film n ≡ b → among n rs ≡ ltb (before n rs) (length rs) → (eqb r.film n || among n rs) ≡ ltb (cond (eqb r.film n) 0 (suc (before n rs))) (suc (length rs))
    go true e rest = rw e (sym (lt-ltb 0 (suc (length rs)) (omega arith)))
    go false e rest = rw (e, rest) (ltb_suc (before n rs) (length rs))

-- the set of a number that is among them is of that number
pub number_own : (n : ℕ) (rs : List Set) → among n rs ≡ true → (get_or rs (before n rs) no_set_of).film ≡ n
unfolding among before
number_own n [] e = absurd (let z : ◌≡◌ {A = ℕ} 0 1 = ap (λ b. cond b 1 0) e in omega arith)
number_own n (r ∷ rs) e = go (eqb r.film n) refl e (number_own n rs)
  where
    go : (b : Bool) → eqb r.film n ≡ b → among n (r ∷ rs) ≡ true → (among n rs ≡ true → (get_or rs (before n rs) no_set_of).film ≡ n)
        → (get_or (r ∷ rs) (cond (eqb r.film n) 0 (suc (before n rs))) no_set_of).film ≡ n
    go true q u more = rw q (eqb-true r.film n q)
    go false q u more = rw q (more (subst (λ b. (b || among n rs) ≡ true) q u))

-- ---- no set, and one in front of others

-- a room of count 0 holds none
pub held_none : (room : Room) → room.count ≡ 0 → held room ≡ []
unfolding held tab
held_none room e = rw e refl

-- and no number twice
pub twice_nil : twice [] ≡ false
unfolding twice
twice_nil = refl

-- a number stands before none of no sets
pub before_nil : (n : ℕ) → before n [] ≡ 0
unfolding before
before_nil n = refl

-- before the first where that is its own, and else behind it
pub before_cons : (n : ℕ) (r : Set) (rs : List Set) → before n (r ∷ rs) ≡ cond (eqb r.film n) 0 (suc (before n rs))
unfolding before
before_cons n r rs = refl

-- one set less
pub span_less : (rs : List Set) (i : ℕ) → i < length rs → span_of (less i rs) + set_size (get_or rs i no_set_of) ≡ span_of rs
unfolding span_of less
span_less [] i l = absurd (not-suc-le-zero l)
span_less (r ∷ rs) zero l = omega arith
span_less (r ∷ rs) (suc i) l = let q = span_less rs i (le_of_suc-le-suc l) in omega (arith, q)

-- the entries of the sets of some films, each of the film's own size
pub span_map : {A : Type 0} (size : A → ℕ) (Good : A → List ℕ → Type 0) (g : A → Set) → ((x : A) → set_size (g x) ≡ size x) → (xs : List A) → span_of (map g xs) ≡ spans size Good xs
unfolding span_of spans
span_map size Good g same [] = refl
span_map size Good g same (x ∷ xs) = ap₂ (λ a b. a + b) (same x) (span_map size Good g same xs)
