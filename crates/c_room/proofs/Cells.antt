-- The turns of `room_numbers`: the places filled so far hold the numbers of their sets.
-- Assumes nothing.
use Prim.Native.Nat.{ℕ, ◌+◌, ◌-◌, ◌*◌, ◌≤◌, ◌<◌}
use mathlib.Core.List.{List}
use mathlib.Core.Path.{◌≡◌, refl, ap, ◌∙◌}
use native.Mathlib.Omega.{arith}
use lib.ListN.{length, take, drop, get_or, length-drop}
use lib.Seq.{length-take-le}
use borrow.Rule.Slice.PartMut.{put_mid}
use Rattle.base_lists.specs.Lists.{blocks, onto}
use Rattle.base_lists.proofs.Fills.{length_over}
use Rattle.base_lists.proofs.Maps.{over_part}
use Rattle.base_lists.proofs.Blocks.{blocks_over, blocks_end}
use Rattle.base_lists.proofs.Windows.{blocks_whole}
use Rattle.film_sets.specs.declared.Set.{Set}
use Rattle.film_sets.specs.declared.Room.{Room}
use Rattle.film_sets.specs.Sets.{no_set_of}
use Rattle.c_room.specs.Flat.{set_numbers_of, room_numbers_of}

-- the ten numbers of the set in place i
abbrev pub numbers_at : Room → ℕ → List ℕ
numbers_at room i = set_numbers_of (get_or room.sets i no_set_of)

-- they fit into their place
pub numbers_fit : (r : Set) {ns : List ℕ} (m : List ℕ) (i : ℕ) → ns ≡ set_numbers_of r → i < 8 → length m ≡ 80 → length ns ≤ length (take (i * 10 + 10 - i * 10) (drop (i * 10) m))
numbers_fit r {ns} m i e l h =
    let n : length ns ≡ 10 = ap length e in
    let w : i * 10 + 10 - i * 10 ≡ 10 = omega arith in
    let k = length-take-le (i * 10 + 10 - i * 10) (drop (i * 10) m) (omega (arith, length-drop (i * 10) m)) in
    omega (arith, n, w, k)

-- one place more
pub numbers_next : (room : Room) (d : List ℕ) {m ns ys : List ℕ} (r : Set) {i : ℕ} → m ≡ blocks 10 (numbers_at room) d i → i < 8 → length m ≡ 80
    → r ≡ get_or room.sets i no_set_of → ns ≡ set_numbers_of r → ys ≡ onto (take (i * 10 + 10 - i * 10) (drop (i * 10) m)) ns
    → put_mid (i * 10) (i * 10 + 10 - i * 10) m ys ≡ blocks 10 (numbers_at room) d (i + 1)
numbers_next room d {m} {ns} {ys} r {i} so l h at is ends =
    blocks_over 10 (numbers_at room) d i (λ k q. refl) so
    (over_part m (numbers_at room i) (i * 10) 10 (omega (arith, h)) refl
    (ends ∙ ap (onto (take (i * 10 + 10 - i * 10) (drop (i * 10) m))) (is ∙ ap set_numbers_of at)))

-- its length stays
pub length_next : (m ns : List ℕ) (i : ℕ) {ys : List ℕ} → length m ≡ 80 → i < 8 → length ns ≡ 10 → ys ≡ onto (take (i * 10 + 10 - i * 10) (drop (i * 10) m)) ns
    → length (put_mid (i * 10) (i * 10 + 10 - i * 10) m ys) ≡ 80
length_next m ns i {ys} h l n ends =
    ap length (over_part m ns (i * 10) 10 (omega (arith, h)) n ends) ∙ length_over m (i * 10) ns (omega (arith, h, n)) ∙ h

-- all of them
pub numbers_end : (room : Room) (d : List ℕ) {m : List ℕ} {i : ℕ} → m ≡ blocks 10 (numbers_at room) d i → length d ≡ 80 → i ≤ 8 → 8 ≤ i → m ≡ room_numbers_of room
unfolding room_numbers_of
numbers_end room d so h l q = blocks_end 10 (numbers_at room) d so l q ∙ blocks_whole 10 (numbers_at room) d 8 h
