-- How store judges and ends.
-- Assumes nothing.
use Prim.Native.Nat.{ℕ, zero, suc, ◌-◌, ◌≤◌, ◌<◌}
use mathlib.Core.Bool.{Bool, true, false, cond}
use mathlib.Core.List.{List, ◌++◌}
use mathlib.Core.Logic.{◌≢◌}
use mathlib.Core.Path.{◌≡◌, refl, sym, ap, ◌∙◌}
use native.Mathlib.Omega.{arith}
use lib.Dec.{ltb, eqb}
use lib.ListN.{length, take, drop, length-drop, take-append-drop}
use borrow.Author.Tests.{lt-ltb, le-ltb, ltb-false, eq-eqb, ne_eqb, eqb-false}
use Rattle.base_lists.specs.Lists.{all}
use Rattle.base_rows.specs.Refuse.{Row, first, unless, numbers_of, Numbered, Says, accepted, refused}
use Rattle.base_rows.proofs.Walk.{front, behind, first_both, first_none, each_append, unless_refused}
use Rattle.film_settings.specs.declared.Settings.{Settings}
use Rattle.film_settings.specs.declared.Footer.{Footer}
use Rattle.film_tiles.specs.Tiles.{foot_of}
use Rattle.film_settings.specs.declared.MapRecord.{MapRecord}
use Rattle.film_prepare.specs.Prepare.{prepare_rows, PrepareOut, prepare_leaves, prepared_of, prepare_of}
use Rattle.film_sets.specs.declared.Room.{Room}
use Rattle.film_sets.specs.Sets.{set_for_of, held, span_of, among, before, fit_rows, with_set_of}
use Rattle.film_room.specs.Room.{place_rows, enter_rows, store_rows, StoreOut, store_leaves, stored_of, store_of, instead}
use Rattle.film_sets.proofs.Tables.{fit_numbered, fit_few, fit_forty}
use Rattle.film_room.proofs.Drops.{there}
use Rattle.film_room.proofs.Instead.{first_instead, none_instead}

-- ---- 40, 35 and 36

pub enter_numbered : (room : Room) (film size : ℕ) → Numbered (enter_rows room film size)
unfolding enter_rows place_rows all numbers_of
enter_numbered room film size = each_append (ltb 0) (fit_rows room size) (place_rows film room) (fit_numbered room size) refl

module _ (room : Room) (film size : ℕ) {fit : ℕ} (e : fit ≡ first (fit_rows room size)) where
  module _ (z : fit ≡ 0) {i : ℕ} (q : i ≡ before film (held room)) where
    pub enter_35 : i < room.count → 35 ≡ first (enter_rows room film size)
    unfolding enter_rows place_rows first
    enter_35 l = behind (fit_rows room size) _ (fit_numbered room size) e z (rw (there room film, ← q, lt-ltb i room.count l) refl)

    pub enter_36 : room.count ≤ i → room.count ≡ 8 → 36 ≡ first (enter_rows room film size)
    unfolding enter_rows place_rows first
    enter_36 l n = behind (fit_rows room size) _ (fit_numbered room size) e z (rw (there room film, ← q, le-ltb i room.count l, eq-eqb room.count 8 n) refl)

    pub enter_well : room.count ≤ i → (room.count ≡ 8 → ⊥) → 0 ≡ first (enter_rows room film size)
    unfolding enter_rows place_rows first
    enter_well l n = behind (fit_rows room size) _ (fit_numbered room size) e z (rw (there room film, ← q, le-ltb i room.count l, ne_eqb room.count 8 n) refl)

-- what a film that may enter knows
pub record Entering (room : Room) (film size : ℕ) : Type 0 where
  pub few : room.count < 8
  pub new : among film (held room) ≡ false
  pub fits : span_of (held room) ≤ size

pub entering : (room : Room) (film size : ℕ) {r : ℕ} → r ≡ first (enter_rows room film size) → r ≡ 0 → Entering room film size
unfolding enter_rows place_rows all numbers_of
entering room film size e z =
    let a = first_both (fit_rows room size) (place_rows film room) (fit_numbered room size) (sym e ∙ z) in
    let b = first_none (place_rows film room) refl a.1 in
    let c = fit_few room size a.0 in
    record { few = omega (arith, c.0, eqb-false room.count 8 b.1.0); new = b.0; fits = c.2 }

-- 40 where the record is wild
pub store_40 : (room : Room) (film w h : ℕ) (pic : List ℕ) (s : Settings) (size scratch list : ℕ) → first (fit_rows room size) ≢ 0
    → 40 ≡ first (store_rows room film w h pic s size scratch list)
unfolding store_rows enter_rows
store_40 room film w h pic s size scratch list z =
    let wild : ◌≡◌ {A = ℕ} 40 0 → ⊥ = λ q. omega (arith, q) in
    front (enter_rows room film size) _ (front (fit_rows room size) (place_rows film room) (sym (fit_forty room size z)) wild) wild

-- and what one that is stored knows
pub record Storing (room : Room) (film w h : ℕ) (pic : List ℕ) (s : Settings) (size scratch list : ℕ) : Type 0 where
  pub enters : Entering room film size
  pub own : first (prepare_rows w h pic s (size - span_of (held room)) scratch list) ≡ 0

pub storing : (room : Room) (film w h : ℕ) (pic : List ℕ) (s : Settings) (size scratch list : ℕ) → first (store_rows room film w h pic s size scratch list) ≡ 0
    → Storing room film w h pic s size scratch list
unfolding store_rows
storing room film w h pic s size scratch list e =
    let a = first_both (enter_rows room film size) _ (enter_numbered room film size) e in
    record { enters = entering room film size refl a.0; own = none_instead 11 37 _ refl refl a.1 }

-- and a store that nothing speaks against is done
pub store_free : (room : Room) (film w h : ℕ) (pic : List ℕ) (s : Settings) (size scratch list : ℕ) → first (fit_rows room size) ≡ 0 → among film (held room) ≡ false → room.count < 8
    → first (prepare_rows w h pic s (size - span_of (held room)) scratch list) ≡ 0 → first (store_rows room film w h pic s size scratch list) ≡ 0
unfolding store_rows
store_free room film w h pic s size scratch list fits new few good =
    sym (behind (enter_rows room film size) (instead 11 37 rows) (enter_numbered room film size) entered refl (sym (first_instead 11 37 rows refl ∙ ap (λ n. cond (eqb n 11) 37 n) good)))
  where
    rows : List Row
    rows = prepare_rows w h pic s (size - span_of (held room)) scratch list

    none : room.count ≤ before film (held room)
    none = ltb-false (before film (held room)) room.count (sym (there room film) ∙ new)

    entered : 0 ≡ first (enter_rows room film size)
    entered = enter_well room film size (sym fits) refl refl none (λ q. omega (arith, q, few))

-- ---- the endings

abbrev foot_in : Says (MapRecord × Footer) → Footer → Footer
foot_in (accepted v) d = v.1
foot_in (refused n) d = d

abbrev done_in : Says (MapRecord × Footer) → ℕ
done_in (accepted v) = 1
done_in (refused n) = 0

told_some : (k : ℕ) → cond (eqb (suc k) 11) 37 (suc k) ≡ 0 → ⊥
told_some k = go (eqb (suc k) 11)
  where
    go : (b : Bool) → cond b 37 (suc k) ≡ 0 → ⊥
    go true q = omega (arith, q)
    go false q = omega (arith, q)

abbrev number_in : Says (MapRecord × Footer) → ℕ
number_in (accepted v) = 0
number_in (refused n) = n

module _ (room : Room) (film w h : ℕ) (pic : List ℕ) (s : Settings) (m t ls : List ℕ) {r : ℕ} (e : r ≡ first (enter_rows room film (length m))) where
  abbrev outcome : ℕ → StoreOut
  outcome n = unless n (λ k. store_leaves (refused k) room m t ls) (stored_of room film w h pic s m t ls)

  pub store_no : (r ≡ 0 → ⊥) → store_leaves (refused r) room m t ls ≡ store_of room film w h pic s m t ls
  unfolding store_of store_rows
  store_no z =
      unless_refused r (λ n. store_leaves (refused n) room m t ls) (stored_of room film w h pic s m t ls) z
      ∙ ap outcome (front (enter_rows room film (length m)) _ e z)

  module _ (z : r ≡ 0) {a : ℕ} (at : a ≡ span_of (held room)) {p : Says (MapRecord × Footer)} {mp t' ls' : List ℕ} (made : prepare_leaves p mp t' ls' ≡ prepare_of film w h pic s (drop a m) t ls) where
    abbrev n : ℕ
    n = first (prepare_rows w h pic s (length (drop a m)) (length t) (length ls))

    own : first (prepare_rows w h pic s (length m - span_of (held room)) (length t) (length ls)) ≡ n
    own = ap (λ k. first (prepare_rows w h pic s k (length t) (length ls))) (ap (λ k. length m - k) (sym at) ∙ sym (length-drop a m))

    rows : first (store_rows room film w h pic s (length m) (length t) (length ls)) ≡ cond (eqb n 11) 37 n
    unfolding store_rows
    rows =
        sym (behind (enter_rows room film (length m)) _ (enter_numbered room film (length m)) e z (sym (first_instead 11 37 (prepare_rows w h pic s (length m - span_of (held room)) (length t) (length ls)) refl)))
        ∙ ap (λ k. cond (eqb k 11) 37 k) own

    stores : store_of room film w h pic s m t ls ≡ outcome (cond (eqb n 11) 37 n)
    unfolding store_of
    stores = ap outcome rows

    ends : (k : ℕ) → n ≡ k → prepare_leaves p mp t' ls' ≡ unless k (λ j. prepare_leaves (refused j) (drop a m) t ls) (prepared_of film w h pic s (drop a m) t ls)
    unfolding prepare_of
    ends k q = made ∙ ap (λ j. unless j (λ j. prepare_leaves (refused j) (drop a m) t ls) (prepared_of film w h pic s (drop a m) t ls)) q

    pub store_done : {k : MapRecord} {foot : Footer} {next : Room} {m' : List ℕ} → p ≡ accepted (k, foot) → next ≡ with_set_of room (set_for_of film w h s) → m' ≡ take a m ++ mp
        → store_leaves (accepted foot) next m' t' ls' ≡ store_of room film w h pic s m t ls
    unfolding stored_of prepared_of
    store_done {k} {foot} {next} {m'} done is back = go n refl
      where
        go : (k : ℕ) → n ≡ k → store_leaves (accepted foot) next m' t' ls' ≡ store_of room film w h pic s m t ls
        go zero q =
            let x = ends 0 q in
            let f : foot ≡ foot_of w h s = ap (λ z. foot_in z foot) (sym done) ∙ ap (λ (y : PrepareOut). foot_in y.answer foot) x in
            rw (is, back, f, ap (λ (y : PrepareOut). y.map) x, ap (λ (y : PrepareOut). y.scratch) x, ap (λ (y : PrepareOut). y.list) x, at) (sym (stores ∙ ap (λ j. outcome (cond (eqb j 11) 37 j)) q))
        go (suc k) q = absurd (omega (arith, ap done_in (sym done) ∙ ap (λ (y : PrepareOut). done_in y.answer) (ends (suc k) q)))

    pub store_not : {j told : ℕ} {m' : List ℕ} → p ≡ refused j → told ≡ cond (eqb j 11) 37 j → m' ≡ take a m ++ mp
        → store_leaves (refused told) room m' t' ls' ≡ store_of room film w h pic s m t ls
    unfolding prepared_of
    store_not {j} {told} {m'} gave is back = go n refl
      where
        go : (k : ℕ) → n ≡ k → store_leaves (refused told) room m' t' ls' ≡ store_of room film w h pic s m t ls
        go zero q = absurd (omega (arith, ap done_in (sym gave) ∙ ap (λ (y : PrepareOut). done_in y.answer) (ends 0 q)))
        go (suc k) q =
            let x = ends (suc k) q in
            let f : j ≡ suc k = ap number_in (sym gave) ∙ ap (λ (y : PrepareOut). number_in y.answer) x in
            rw (is, back, ap (λ (y : PrepareOut). y.map) x, ap (λ (y : PrepareOut). y.scratch) x, ap (λ (y : PrepareOut). y.list) x, take-append-drop a m, f)
            (unless_refused (cond (eqb (suc k) 11) 37 (suc k)) (λ n. store_leaves (refused n) room m t ls) (stored_of room film w h pic s m t ls) (told_some k) ∙ sym (stores ∙ ap (λ j. outcome (cond (eqb j 11) 37 j)) q))
