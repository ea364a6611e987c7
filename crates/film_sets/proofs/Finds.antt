-- Looking for a set: what is left of the sets from i on.
-- Assumes nothing.
use Prim.Native.Nat.{ℕ, zero, suc, ◌+◌, ◌-◌, ◌≤◌, ◌<◌}
use mathlib.Core.Bool.{Bool, true, false, cond, ◌||◌}
use mathlib.Core.List.{List, [], ◌∷◌, ◌++◌}
use mathlib.Core.Path.{◌≡◌, refl, sym, ap, ◌∙◌}
use native.Mathlib.Omega.{arith}
use native.Mathlib.Numerals.{add-one, one-add}
use lib.Dec.{eqb, ltb}
use lib.ListN.{length, take, drop, get_or, drop_of_length-le}
use lib.Seq.{drop-cons, take-suc, take_all}
use borrow.Author.Tests.{ltb-false}
use Rattle.std.proofs.Common.{Option, Some, None}
use Rattle.std.specs.Option.{unwrap_or}
use Rattle.std.specs.List.{list_any, position_or_len}
use Rattle.std.proofs.lemmas.List.{take_rest}
use Rattle.std.proofs.lemmas.List.Recursion.{is_position_or_len}
use Rattle.base_lists.proofs.Tabs.{length_tab, get_or_tab, tab_get_or}
use Rattle.film_sets.specs.declared.Set.{Set}
use Rattle.film_settings.specs.Settings.{entries_of}
use Rattle.film_sets.specs.declared.Room.{Room}
use Rattle.film_sets.specs.Sets.{no_set_of, held, span_of, before, among, twice}

-- the sets that a room holds are the first of its eight
pub held_is : (room : Room) → room.count ≤ length room.sets → held room ≡ take room.count room.sets
unfolding held
held_is room l = tab_get_or room.sets no_set_of room.count l

-- ---- what `position` and `any` find, and what is left of the sets from i on

-- "how many sets stand before the one of this number" is the place that `position` finds
before_place : (number : ℕ) (rs : List Set) → before number rs ≡ position_or_len (λ (r : Set). eqb r.film number) rs
unfolding before
before_place number = is_position_or_len (before number) (λ (r : Set). eqb r.film number) refl (λ r rs. ap (λ n. cond (eqb r.film number) 0 n) (sym (one-add (before number rs))))

before_most : (number : ℕ) (rs : List Set) → before number rs ≤ length rs
unfolding before
before_most number [] = omega arith
before_most number (r ∷ rs) = go (eqb r.film number) (before_most number rs)
  where
    go : (b : Bool) → before number rs ≤ length rs → cond b 0 (suc (before number rs)) ≤ suc (length rs)
    go true h = omega arith
    go false h = omega arith

-- or all of them where it finds none
pub before_found : (number : ℕ) (rs : List Set) {p : Option ℕ}
    → p ≡ cond (ltb (position_or_len (λ (r : Set). eqb r.film number) rs) (length rs)) (Some (position_or_len (λ (r : Set). eqb r.film number) rs)) None
    → unwrap_or p (length rs) ≡ before number rs
before_found number rs e = rw (e, ← before_place number rs) (go (ltb (before number rs) (length rs)) refl)
  where
    go : (b : Bool) → ltb (before number rs) (length rs) ≡ b → unwrap_or (cond b (Some (before number rs)) None) (length rs) ≡ before number rs
    go true q = refl
    go false q = let l = before_most number rs in let g = ltb-false _ _ q in omega (arith, l, g)

pub among_any : (number : ℕ) (rs : List Set) → list_any (λ (r : Set). eqb r.film number) rs ≡ among number rs
unfolding among
among_any number [] = refl
among_any number (r ∷ rs) = ap (λ b. eqb r.film number || b) (among_any number rs)

-- a set whose number one behind it has, and one whose number none has
module _ (rs : List Set) (i : ℕ) (d : Set) {b : Bool} (l : i < length rs) (e : b ≡ among (get_or rs i d).film (take (length rs - (i + 1)) (drop (i + 1) rs))) where
  next : drop i rs ≡ get_or rs i d ∷ drop (i + 1) rs
  next = rw add-one (drop-cons rs i d l)

  behind : b ≡ among (get_or rs i d).film (drop (i + 1) rs)
  behind = e ∙ ap (among (get_or rs i d).film) (take_rest rs (i + 1))

  pub twice_found : b ≡ true → twice (drop i rs) ≡ true
  unfolding twice
  twice_found o = rw (next, ← behind, o) refl

  pub twice_other : b ≡ false → twice (drop i rs) ≡ twice (drop (i + 1) rs)
  unfolding twice
  twice_other o = ap twice next ∙ ap (λ c. c || twice (drop (i + 1) rs)) (sym behind ∙ o)

pub twice_end : (rs : List Set) (i : ℕ) → length rs ≤ i → twice (drop i rs) ≡ false
unfolding twice
twice_end rs i l = rw (drop_of_length-le rs {i = i} l) refl

-- ---- the entries of the first sets

-- one set more behind them
pub span_append : (rs : List Set) (r : Set) → span_of (rs ++ (r ∷ [])) ≡ span_of rs + entries_of r.settings
unfolding span_of
span_append [] r = omega arith
span_append (q ∷ rs) r = let h = span_append rs r in omega (arith, h)

-- of a room's
pub span_next : (room : Room) (i : ℕ) {r : Set} → i < room.count → r ≡ get_or room.sets i no_set_of
    → span_of (take (i + 1) (held room)) ≡ span_of (take i (held room)) + entries_of r.settings
unfolding held
span_next room i {r} l e =
    ap (λ k. span_of (take k (held room))) (add-one i)
    ∙ ap span_of (take-suc (held room) i no_set_of (rw length_tab l))
    ∙ span_append (take i (held room)) (get_or (held room) i no_set_of)
    ∙ ap (λ (q : Set). span_of (take i (held room)) + entries_of q.settings) (get_or_tab room.count (λ i. get_or room.sets i no_set_of) i no_set_of l ∙ sym e)

-- those of the first are no more than all
pub span_most : (i : ℕ) (rs : List Set) → span_of (take i rs) ≤ span_of rs
unfolding span_of
span_most zero rs = omega arith
span_most (suc i) [] = omega arith
span_most (suc i) (r ∷ rs) = let h = span_most i rs in omega (arith, h)

-- of the set at i, and of those before it
pub span_at : (rs : List Set) (i : ℕ) (d : Set) → i < length rs → entries_of (get_or rs i d).settings + span_of (take i rs) ≡ span_of (take (i + 1) rs)
span_at rs i d l =
    let q = span_append (take i rs) (get_or rs i d) in
    let e : span_of (take (suc i) rs) ≡ span_of (take i rs ++ (get_or rs i d ∷ [])) = ap span_of (take-suc rs i d l) in
    rw add-one (omega (arith, q, e))

pub span_none : span_of [] ≡ 0
unfolding span_of
span_none = refl

pub span_whole : (room : Room) (i : ℕ) → room.count ≤ i → span_of (take i (held room)) ≡ span_of (held room)
unfolding held
span_whole room i l = ap span_of (take_all i (held room) (rw length_tab l))
