-- The rows of 40, and where a set comes from that moves down a place.
-- Assumes nothing.
use Prim.Native.Nat.{ℕ, ◌+◌, ◌≤◌, ◌<◌}
use mathlib.Core.Bool.{false, ◌||◌}
use mathlib.Core.List.{[], ◌∷◌}
use mathlib.Core.Logic.{◌≢◌}
use mathlib.Core.Path.{◌≡◌, refl, sym, ap, ◌∙◌}
use lib.Dec.{eqb}
use borrow.Author.Tests.{ltb-false, lt-ltb, le-ltb, le-leb, lt-leb, eqb-true, ne_eqb}
use Rattle.base_lists.specs.Lists.{all}
use Rattle.base_rows.specs.Refuse.{first, numbers_of, Numbered}
use Rattle.base_rows.proofs.Walk.{first_none, each_first}
use Rattle.film_sets.specs.declared.Room.{Room}
use Rattle.film_sets.specs.Sets.{held, span_of, twice, fit_rows, moved_from_of}

-- ---- what the rows of 40 tell

-- their numbers
pub fit_numbers : (room : Room) (size : ℕ) → numbers_of (fit_rows room size) ≡ 40 ∷ 40 ∷ 40 ∷ []
unfolding numbers_of fit_rows
fit_numbers room size = refl

-- all above 0
pub fit_numbered : (room : Room) (size : ℕ) → Numbered (fit_rows room size)
unfolding all
fit_numbered room size = rw (fit_numbers room size) refl

-- none applies: at most eight sets, no number twice, and sets that end to end lie in the buffer
pub fit_few : (room : Room) (size : ℕ) → first (fit_rows room size) ≡ 0 → (room.count ≤ 8) × (twice (held room) ≡ false) × (span_of (held room) ≤ size)
unfolding fit_rows
fit_few room size e =
    let n = first_none (fit_rows room size) (fit_numbered room size) e in
    (ltb-false 8 room.count n.0, n.1.0, ltb-false size (span_of (held room)) n.1.1.0)

-- and the other way
pub fit_free : (room : Room) (size : ℕ) → room.count ≤ 8 → twice (held room) ≡ false → span_of (held room) ≤ size → first (fit_rows room size) ≡ 0
unfolding fit_rows first
fit_free room size few once fits = rw (le-ltb 8 room.count few, once, le-ltb size (span_of (held room)) fits) refl

-- one applies: 40
pub fit_forty : (room : Room) (size : ℕ) → first (fit_rows room size) ≢ 0 → first (fit_rows room size) ≡ 40
unfolding all
fit_forty room size d =
    eqb-true (first (fit_rows room size)) 40
    (sym (ap (λ b. b || eqb (first (fit_rows room size)) 40) (ne_eqb (first (fit_rows room size)) 0 d))
    ∙ each_first (λ n. eqb n 0 || eqb n 40) (fit_rows room size) refl (rw (fit_numbers room size) refl))

-- ---- a place less

pub moved_stays : (i n k : ℕ) → k < i → k ≡ moved_from_of i n k
moved_stays i n k l = rw (lt-leb i k l) refl

pub moved_comes : (i n k : ℕ) → i ≤ k → k + 1 < n → k + 1 ≡ moved_from_of i n k
moved_comes i n k l q = rw (le-leb i k l, lt-ltb (k + 1) n q) refl

pub moved_last : (i n k : ℕ) → i ≤ k → n ≤ k + 1 → k ≡ moved_from_of i n k
moved_last i n k l q = rw (le-leb i k l, le-ltb (k + 1) n q) refl
