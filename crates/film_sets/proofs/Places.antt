-- What `without_set` leaves: the later sets are a place lower, and the places behind the last hold what they held.
-- Assumes nothing.
use Rattle.std.proofs.Common.{ℕ, ◌+◌, ◌-◌, ◌≤◌, ◌<◌, Bool, true, false, List, ◌≡◌, ltb, length, get_or, refl, ap, ◌∙◌, arith}
use Rattle.std.specs.List.{CopiedTo, SameBelow, SameFrom}
use borrow.Author.Tests.{ltb-true, ltb-false}
use Rattle.base_lists.proofs.Tabs.{eq_tab}
use Rattle.film_sets.specs.declared.Set.{Set}
use Rattle.film_sets.specs.declared.Room.{Room}
use Rattle.film_sets.specs.Sets.{no_set_of, moved_from_of, without_set_of}
use Rattle.film_sets.proofs.Tables.{moved_stays, moved_comes, moved_last}

pub placed : (room : Room) (i : ℕ) {s : List Set} → length room.sets ≡ 8 → i < room.count → length s ≡ length room.sets
    → CopiedTo room.sets s (i + 1) i (room.count - (i + 1)) → SameBelow room.sets s i → SameFrom room.sets s (i + (room.count - (i + 1)))
    → record { count = room.count - 1; sets = s } ≡ without_set_of room i
unfolding without_set_of
placed room i {s} eight here long copied below from =
    ap (λ (t : List Set). record { count = room.count - 1; sets = t }) (eq_tab s 8 (λ k. get_or room.sets (moved_from_of i room.count k) no_set_of) no_set_of (long ∙ eight) each)
  where
    each : (k : ℕ) → k < 8 → get_or s k no_set_of ≡ get_or room.sets (moved_from_of i room.count k) no_set_of
    each k l = go (ltb k i) (ltb (k + 1) room.count) refl refl
      where
        go : (a b : Bool) → ltb k i ≡ a → ltb (k + 1) room.count ≡ b → get_or s k no_set_of ≡ get_or room.sets (moved_from_of i room.count k) no_set_of
        go true b p q = below k no_set_of (ltb-true k i p) ∙ ap (λ n. get_or room.sets n no_set_of) (moved_stays i room.count k (ltb-true k i p))
        go false true p q =
            let le : i ≤ k = ltb-false k i p in
            let lt : k + 1 < room.count = ltb-true (k + 1) room.count q in
            let n : i + 1 + (k - i) ≡ k + 1 = omega arith in
            copied k no_set_of le (omega arith) ∙ ap (λ n. get_or room.sets n no_set_of) (n ∙ moved_comes i room.count k le lt)
        go false false p q =
            let le : i ≤ k = ltb-false k i p in
            let ge : room.count ≤ k + 1 = ltb-false (k + 1) room.count q in
            from k no_set_of (omega arith) ∙ ap (λ n. get_or room.sets n no_set_of) (moved_last i room.count k le ge)
