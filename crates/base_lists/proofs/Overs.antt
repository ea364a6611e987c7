-- Laws of `over` and `onto`: writers that follow each other, from the front or from a place on.
-- Assumes nothing.
use Prim.Native.Nat.{ℕ, suc, ◌+◌, ◌-◌, ◌≤◌, ◌<◌}
use mathlib.Core.List.{List, [], ◌∷◌, ◌++◌, append_assoc, append-nil}
use mathlib.Core.Path.{◌≡◌, refl, sym, ap, ap₂, ◌∙◌}
use lib.ListN.{length, take, drop, set, length-set, length-append, length-drop, take-append-drop, drop_of_length-le}
use lib.Seq.{set_split, take-suc-set, drop-set-lt, append_snoc, take-set-le, drop_at, take_at, length-take-le, drop-drop, drop-append-add, take-append_seam}
use native.Mathlib.Nat.{add-zero}
use native.Mathlib.Omega.{arith}
use native.Mathlib.Numerals.{add-one}
use Rattle.base_lists.specs.Lists.{onto, over}
use Rattle.base_lists.proofs.Fills.{length_over}

-- nothing written
pub onto_nil : (d : List ℕ) → d ≡ onto d []
unfolding onto
onto_nil d = refl

pub over_nil : (d : List ℕ) (at : ℕ) → over d at [] ≡ d
unfolding over
over_nil d at = rw add-zero (take-append-drop at d)

-- one entry more behind what is written at the front
pub onto_set : (d xs : List ℕ) (i x : ℕ) {s : List ℕ} → s ≡ onto d xs → i ≡ length xs → i < length d → set s i x ≡ onto d (xs ++ (x ∷ []))
unfolding onto
onto_set d xs i x {s} e q h = rw (e, q) go
  where
    l : length xs < length d
    l = omega arith

    bound : length xs < length (xs ++ drop (length xs) d)
    bound = rw (length-append, length-drop) (omega arith)

    n : length (xs ++ (x ∷ [])) ≡ suc (length xs)
    n = rw length-append (omega arith)

    front : take (length xs) (xs ++ drop (length xs) d) ≡ xs
    front = take-append_seam xs (drop (length xs) d)

    rest : drop (suc (length xs)) (xs ++ drop (length xs) d) ≡ drop (suc (length xs)) d
    rest = rw (← add-one, drop-append-add xs (drop (length xs) d) 1) (drop-drop 1 (length xs) d)

    go : set (xs ++ drop (length xs) d) (length xs) x ≡ xs ++ (x ∷ []) ++ drop (length (xs ++ (x ∷ []))) d
    go = rw (set_split (xs ++ drop (length xs) d) (length xs) x bound, front, rest, n) (sym (append_assoc xs (x ∷ []) (drop (suc (length xs)) d)))

-- a list more behind what is written at the front
pub onto_over : (d xs ys : List ℕ) (at : ℕ) {s : List ℕ} → s ≡ onto d xs → at ≡ length xs → over s at ys ≡ onto d (xs ++ ys)
unfolding onto over
onto_over d xs ys at {s} e q =
    rw (e, q, take-append_seam xs (drop (length xs) d), drop-append-add xs (drop (length xs) d) (length ys), drop-drop, length-append) (sym (append_assoc xs ys _))

-- an entry written behind the place of ys, and then ys, are ys and the entry
pub over_set : (d ys : List ℕ) (at k x : ℕ) → length ys ≡ k → at + k < length d → over (set d (at + k) x) at ys ≡ over d at (ys ++ (x ∷ []))
unfolding over
over_set d ys at k x e h = rw (e, take-set-le at d (at + k) x (omega arith), rest, n) (ap (λ t. take at d ++ t) (sym (append_assoc ys (x ∷ []) (drop (suc (at + k)) d))))
  where
    n : at + length (ys ++ (x ∷ [])) ≡ suc (at + k)
    n = rw length-append (omega arith)

    rest : drop (at + k) (set d (at + k) x) ≡ x ∷ drop (suc (at + k)) d
    rest = rw (set_split d (at + k) x h) (drop_at (take (at + k) d) (x ∷ drop (suc (at + k)) d) (at + k) (length-take-le (at + k) d (omega arith)))

-- two writings, the second straight behind the first
pub over_over : (d xs ys : List ℕ) (at : ℕ) → at ≤ length d → over (over d at xs) (at + length xs) ys ≡ over d at (xs ++ ys)
unfolding over
over_over d xs ys at h = ap₂ (λ a b. a ++ (ys ++ b)) front rest ∙ (append_assoc (take at d) xs _ ∙ ap (λ t. take at d ++ t) (sym (append_assoc xs ys _)))
  where
    n : length (take at d ++ xs) ≡ at + length xs
    n = rw (length-append, length-take-le at d h) refl

    front : take (at + length xs) (take at d ++ (xs ++ drop (at + length xs) d)) ≡ take at d ++ xs
    front = rw (← append_assoc) (take_at (take at d ++ xs) (drop (at + length xs) d) (at + length xs) n)

    m : at + length xs + length ys ≡ length (take at d ++ xs) + length ys
    m = rw n refl

    k : at + length xs + length ys ≡ at + length (xs ++ ys)
    k = rw length-append (omega arith)

    rest : drop (at + length xs + length ys) (take at d ++ (xs ++ drop (at + length xs) d)) ≡ drop (at + length (xs ++ ys)) d
    rest =
        rw (m, ← append_assoc, drop-append-add (take at d ++ xs) (drop (at + length xs) d) (length ys), drop-drop, k) refl

-- a part that starts at `at` and runs to the end, lent and written at its front
pub over_tail : (e ys : List ℕ) (at : ℕ) {p : List ℕ} → p ≡ onto (drop at e) ys → take at e ++ (p ++ drop (length e - at) (drop at e)) ≡ over e at ys
unfolding onto over
over_tail e ys at {p} q = rw (q, none, drop-drop) (ap (λ t. take at e ++ t) (append-nil _))
  where
    none : drop (length e - at) (drop at e) ≡ []
    none =
        let l : length (drop at e) ≤ length e - at = rw length-drop (omega arith) in
        drop_of_length-le (drop at e) l

-- the same where what lies before it was written at the front
pub onto_tail : (d xs ys : List ℕ) (at : ℕ) {e p : List ℕ} → e ≡ onto d xs → at ≡ length xs → p ≡ onto (drop at e) ys
    → take at e ++ (p ++ drop (length e - at) (drop at e)) ≡ onto d (xs ++ ys)
onto_tail d xs ys at {e} {p} q n h = over_tail e ys at h ∙ onto_over d xs ys at q n

-- a single entry written
pub set_over : (d : List ℕ) (i x : ℕ) → i < length d → set d i x ≡ over d i (x ∷ [])
unfolding over
set_over d i x h = rw (set_split d i x h, add-one i) refl

-- two entries written, one behind the other
pub over_two : (d : List ℕ) (a x y : ℕ) → a + 1 < length d → set (set d a x) (a + 1) y ≡ over d a (x ∷ y ∷ [])
unfolding over
over_two d a x y h =
    let l : suc a < length (set d a x) = rw length-set (omega arith) in
    let q : suc (suc a) ≡ a + 2 = omega arith in
    rw (add-one a, set_split (set d a x) (suc a) y l, take-suc-set d a x (omega arith), drop-set-lt (suc (suc a)) d a x (omega arith), append_snoc, q) refl

-- an entry written straight behind ys
pub over_step : (d ys : List ℕ) (at x : ℕ) {s : List ℕ} {i : ℕ} → s ≡ over d at ys → i ≡ at + length ys → i < length d
    → set s i x ≡ over d at (ys ++ (x ∷ []))
over_step d ys at x {s} {i} e q h = rw (e, q) (set_over (over d at ys) (at + length ys) x l ∙ over_over d ys (x ∷ []) at (omega arith))
  where
    l : at + length ys < length (over d at ys)
    l = rw (length_over d at ys (omega arith)) (omega arith)
