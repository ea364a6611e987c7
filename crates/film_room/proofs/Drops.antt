-- How drop judges and ends.
-- Assumes nothing.
use Prim.Native.Nat.{ℕ, ◌+◌, ◌≤◌, ◌<◌}
use mathlib.Core.Bool.{true, false}
use mathlib.Core.List.{List}
use mathlib.Core.Logic.{◌≢◌}
use mathlib.Core.Path.{◌≡◌, refl, sym, ap, ◌∙◌}
use native.Mathlib.Omega.{arith}
use lib.Dec.{ltb}
use lib.ListN.{length, take}
use borrow.Author.Tests.{lt-ltb, le-ltb, ltb-true, not-false}
use Rattle.base_lists.specs.Lists.{all}
use Rattle.base_rows.specs.Refuse.{first, unless, numbers_of, Numbered, accepted, refused}
use Rattle.base_rows.proofs.Walk.{front, behind, first_both, first_none, each_append, unless_refused}
use Rattle.film_sets.specs.declared.Room.{Room}
use Rattle.film_sets.specs.Sets.{held, span_of, among, before, fit_rows, without_set_of, moved_down}
use Rattle.film_sets.proofs.Holds.{length_held, among_before}
use Rattle.film_sets.proofs.Finds.{span_next, span_most, span_whole}
use Rattle.film_sets.proofs.Tables.{fit_numbered, fit_few, fit_forty}
use Rattle.film_room.specs.Room.{stored_rows, drop_rows, drop_leaves, dropped_of, drop_of}

-- the number of 38's row, and of both tables, is above 0
pub stored_numbered : (film : ℕ) (room : Room) → Numbered (stored_rows film room)
unfolding stored_rows all numbers_of
stored_numbered film room = refl

pub drop_numbered : (room : Room) (film size : ℕ) → Numbered (drop_rows room film size)
unfolding drop_rows
drop_numbered room film size = each_append (ltb 0) (fit_rows room size) (stored_rows film room) (fit_numbered room size) (stored_numbered film room)

-- a set of this number is there where it stands before the end
pub there : (room : Room) (film : ℕ) → among film (held room) ≡ ltb (before film (held room)) room.count
there room film = among_before film (held room) ∙ ap (ltb (before film (held room))) (length_held room)

module _ (room : Room) (film size : ℕ) {fit : ℕ} (e : fit ≡ first (fit_rows room size)) where
  module _ (z : fit ≡ 0) {i : ℕ} (q : i ≡ before film (held room)) where
    pub drop_here : i < room.count → 0 ≡ first (drop_rows room film size)
    unfolding drop_rows stored_rows first
    drop_here l = behind (fit_rows room size) _ (fit_numbered room size) e z (rw (there room film, ← q, lt-ltb i room.count l) refl)

    pub drop_not : room.count ≤ i → 38 ≡ first (drop_rows room film size)
    unfolding drop_rows stored_rows first
    drop_not l = behind (fit_rows room size) _ (fit_numbered room size) e z (rw (there room film, ← q, le-ltb i room.count l) refl)

-- what an accepted drop knows
pub record Dropping (room : Room) (film size : ℕ) : Type 0 where
  pub few : room.count ≤ 8
  pub fits : span_of (held room) ≤ size
  pub here : before film (held room) < room.count

pub dropping : (room : Room) (film size : ℕ) {r : ℕ} → r ≡ first (drop_rows room film size) → r ≡ 0 → Dropping room film size
unfolding drop_rows stored_rows all numbers_of
dropping room film size e z =
    let a = first_both (fit_rows room size) (stored_rows film room) (fit_numbered room size) (sym e ∙ z) in
    let b = first_none (stored_rows film room) refl a.1 in
    let c = fit_few room size a.0 in
    record { few = c.0; fits = c.2; here = ltb-true _ _ (sym (there room film) ∙ not-false (among film (held room)) b.0) }

-- a film that is dropped or drawn is among the sets
pub dropping_among : {room : Room} {film size : ℕ} → Dropping room film size → among film (held room) ≡ true
dropping_among {room} {film} known = there room film ∙ lt-ltb (before film (held room)) room.count known.here

-- and one that is among them is not refused for it
pub stored_free : (film : ℕ) (room : Room) → among film (held room) ≡ true → first (stored_rows film room) ≡ 0
unfolding stored_rows first
stored_free film room here = rw here refl

-- 38 where the record is good and the number is not among its sets
pub drop_38 : (room : Room) (film size : ℕ) → first (fit_rows room size) ≡ 0 → among film (held room) ≡ false → 38 ≡ first (drop_rows room film size)
unfolding drop_rows stored_rows first
drop_38 room film size fits none = behind (fit_rows room size) (stored_rows film room) (fit_numbered room size) (sym fits) refl (rw none refl)

-- 40 where the record is not
pub drop_40 : (room : Room) (film size : ℕ) → first (fit_rows room size) ≢ 0 → 40 ≡ first (drop_rows room film size)
unfolding drop_rows
drop_40 room film size z = front (fit_rows room size) (stored_rows film room) (sym (fit_forty room size z)) (λ q. omega (arith, q))

-- so what is moved lies in order
pub drop_moves : {room : Room} {film size : ℕ} → Dropping room film size → {i a b c : ℕ} → i ≡ before film (held room) → a ≡ span_of (take i (held room))
    → b ≡ span_of (take (i + 1) (held room)) → c ≡ span_of (take room.count (held room)) → (a ≤ b) × (b ≤ c) × (c ≤ size)
drop_moves {room} {film} {size} known {i} q p o n =
    let l : i < room.count = omega (arith, q, known.here) in
    let whole = span_whole room room.count (omega arith) in
    (omega (arith, p, o, span_next room i l refl), omega (arith, o, n, whole, span_most (i + 1) (held room)), omega (arith, n, whole, known.fits))

-- ---- the endings

module _ (room : Room) (film : ℕ) (m : List ℕ) {r : ℕ} (e : r ≡ first (drop_rows room film (length m))) where
  pub drop_refused : (r ≡ 0 → ⊥) → drop_leaves (refused r) room m ≡ drop_of room film m
  unfolding drop_of
  drop_refused z =
      unless_refused r (λ n. drop_leaves (refused n) room m) (dropped_of room film m) z
      ∙ ap (λ k. unless k (λ n. drop_leaves (refused n) room m) (dropped_of room film m)) e

  pub drop_done : r ≡ 0 → {i a b c : ℕ} {left : Room} {m' : List ℕ} → i ≡ before film (held room) → a ≡ span_of (take i (held room)) → b ≡ span_of (take (i + 1) (held room))
      → c ≡ span_of (take room.count (held room)) → m' ≡ moved_down m a b c → left ≡ without_set_of room i → drop_leaves (accepted tt) left m' ≡ drop_of room film m
  unfolding drop_of dropped_of
  drop_done z {i} {a} {b} {c} q p o n t s =
      rw (s, t, p, o, n, span_whole room room.count (omega arith), q)
      (ap (λ k. unless k (λ x. drop_leaves (refused x) room m) (dropped_of room film m)) (sym z ∙ e))
