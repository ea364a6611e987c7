-- Laws of the header's reader: one for each case of its definitions, and where a number ends.
-- Assumes nothing.
use Prim.Native.Nat.{ℕ, zero, suc, ◌+◌, ◌-◌, ◌*◌, ◌≤◌, ◌<◌}
use mathlib.Core.Bool.{Bool, true, false, cond, true≢false}
use mathlib.Core.List.{List, [], ◌∷◌}
use mathlib.Core.Logic.{⊎_elim}
use mathlib.Core.Path.{◌≡◌, refl, sym, ap, ◌∙◌}
use lib.Dec.{leb, eqb}
use lib.ListN.{length, drop, get_or, drop_of_length-le, get_or-eq_default, length-drop}
use lib.Seq.{drop-cons, drop-drop, get_or-drop}
use native.Mathlib.Nat.{add-zero, le_refl, mul_assoc, mul-le-mul_right, le-mul_of_pos_right, not-suc-le-zero}
use native.Mathlib.Omega.{arith}
use native.Mathlib.Numerals.{add-one}
use borrow.Author.Tests.{leb-true, eq-eqb, ne_eqb}
use Rattle.base_lists.proofs.Orders.{lt_or_ge}
use Rattle.base_lists.proofs.Tabs.{and_left, and_right}
use Rattle.pgm_header.specs.Header.{Number}
use Rattle.pgm_header.specs.Header.{Read, Misfit}
use Rattle.pgm_header.specs.Header.{Head}
use Rattle.pgm_header.specs.Header.{Found, Refused}
use Rattle.pgm_header.specs.Header.{is_white_of, is_digit_of, misfit_of, white_of, digits_of, first_digit_of, number_of, then_head, head_end, head_fields, header_of}

-- ---- a byte that is something lies within the bytes

-- a test that 0 fails holds only of bytes within the list
pub test_within : (f : ℕ → Bool) → f 0 ≡ false → (s : List ℕ) (i : ℕ) → f (get_or s i 0) ≡ true → i < length s
test_within f z s i h = ⊎_elim (λ l. l) past (lt_or_ge i (length s))
  where
    past : length s ≤ i → i < length s
    past l = let e : get_or s i 0 ≡ 0 = get_or-eq_default s 0 l in absurd (true≢false (sym h ∙ (ap f e ∙ z)))

-- white space lies within the bytes
pub white_within : (s : List ℕ) (i : ℕ) → is_white_of (get_or s i 0) ≡ true → i < length s
unfolding is_white_of
white_within s i h = test_within is_white_of refl s i h

-- a digit lies within the bytes
pub digit_within : (s : List ℕ) (i : ℕ) → is_digit_of (get_or s i 0) ≡ true → i < length s
unfolding is_digit_of
digit_within s i h = test_within is_digit_of refl s i h

-- a digit is at least `0`
pub digit_low : (b : ℕ) → is_digit_of b ≡ true → 48 ≤ b
unfolding is_digit_of
digit_low b h = leb-true 48 b (and_left (leb 48 b) (leb b 57) h)

-- a digit is at most `9`
pub digit_high : (b : ℕ) → is_digit_of b ≡ true → b ≤ 57
unfolding is_digit_of
digit_high b h = leb-true b 57 (and_right (leb 48 b) (leb b 57) h)

-- a digit is no white space
pub digit_not_white : (b : ℕ) → is_digit_of b ≡ true → is_white_of b ≡ false
unfolding is_white_of
digit_not_white b h =
    let l : 48 ≤ b = digit_low b h in
    rw (ne_eqb b 32 (λ q. omega arith), ne_eqb b 9 (λ q. omega arith), ne_eqb b 13 (λ q. omega arith), ne_eqb b 10 (λ q. omega arith)) refl

-- ---- white space

-- white space in front is passed over
pub white_cons : (b : ℕ) (bs : List ℕ) (i : ℕ) → is_white_of b ≡ true → white_of (b ∷ bs) i ≡ white_of bs (i + 1)
unfolding white_of
white_cons b bs i h = ap (λ (t : Bool). elim t [ true ↦ white_of bs (i + 1) | false ↦ i ]) h

-- any other byte ends the white space
pub white_other : (b : ℕ) (bs : List ℕ) (i : ℕ) → is_white_of b ≡ false → white_of (b ∷ bs) i ≡ i
unfolding white_of
white_other b bs i h = ap (λ (t : Bool). elim t [ true ↦ white_of bs (i + 1) | false ↦ i ]) h

-- no white space in front, none is passed over
pub white_head : (bs : List ℕ) (i : ℕ) → is_white_of (get_or bs 0 0) ≡ false → white_of bs i ≡ i
unfolding white_of
white_head [] i h = refl
white_head (b ∷ bs) i h = ap (λ (t : Bool). elim t [ true ↦ white_of bs (i + 1) | false ↦ i ]) h

-- a turn of the loop over white space
pub white_step : (s : List ℕ) (i : ℕ) → is_white_of (get_or s i 0) ≡ true → white_of (drop i s) i ≡ white_of (drop (i + 1) s) (i + 1)
white_step s i h = rw (drop-cons s i 0 (white_within s i h)) (white_cons (get_or s i 0) (drop (suc i) s) i h ∙ rw (add-one i) refl)

-- its end at another byte
pub white_stop : (s : List ℕ) (i : ℕ) → is_white_of (get_or s i 0) ≡ false → white_of (drop i s) i ≡ i
unfolding white_of
white_stop s i h =
    ⊎_elim
    (λ l. rw (drop-cons s i 0 l) (white_other (get_or s i 0) (drop (suc i) s) i h))
    (λ l. rw (drop_of_length-le s l) refl)
    (lt_or_ge i (length s))

-- past the end nothing is white
pub white_end_lem : (s : List ℕ) (i : ℕ) → length s ≤ i → white_of (drop i s) i ≡ i
unfolding white_of
white_end_lem s i l = rw (drop_of_length-le s l) refl

-- white space ends at most where the bytes end
pub white_upto : (bs : List ℕ) (i : ℕ) → white_of bs i ≤ i + length bs
unfolding white_of
white_upto [] i = omega arith
white_upto (b ∷ bs) i = go (is_white_of b) (white_upto bs (i + 1))
  where
    go : (t : Bool) → white_of bs (i + 1) ≤ i + 1 + length bs → elim t [ true ↦ white_of bs (i + 1) | false ↦ i ] ≤ i + length (b ∷ bs)
    go true h = omega arith
    go false h = omega arith

-- the same, from a place within the bytes on
pub white_le : (s : List ℕ) (i : ℕ) → i ≤ length s → white_of (drop i s) i ≤ length s
white_le s i h = omega (arith, white_upto (drop i s) i, length-drop i s)

-- ---- digits

-- no bytes, no digits
pub digit_nil : (k v i : ℕ) → digits_of k [] v i ≡ Read v i
unfolding digits_of
digit_nil zero v i = refl
digit_nil (suc k) v i = refl

-- a digit in front is taken in
pub digit_cons : (b : ℕ) (bs : List ℕ) (k v i : ℕ) → is_digit_of b ≡ true → digits_of (suc k) (b ∷ bs) v i ≡ digits_of k bs (v * 10 + (b - 48)) (i + 1)
unfolding digits_of
digit_cons b bs k v i h = ap (λ (t : Bool). elim t [ true ↦ digits_of k bs (v * 10 + (b - 48)) (i + 1) | false ↦ Read v i ]) h

-- any other byte ends the digits
pub digit_other : (b : ℕ) (bs : List ℕ) (k v i : ℕ) → is_digit_of b ≡ false → digits_of k (b ∷ bs) v i ≡ Read v i
unfolding digits_of
digit_other b bs zero v i h = refl
digit_other b bs (suc k) v i h = ap (λ (t : Bool). elim t [ true ↦ digits_of k bs (v * 10 + (b - 48)) (i + 1) | false ↦ Read v i ]) h

-- a turn of the loop over digits
pub digit_step : (s : List ℕ) (i k v : ℕ) → is_digit_of (get_or s i 0) ≡ true
    → digits_of (suc k) (drop i s) v i ≡ digits_of k (drop (i + 1) s) (v * 10 + (get_or s i 0 - 48)) (i + 1)
digit_step s i k v h = rw (drop-cons s i 0 (digit_within s i h)) (digit_cons (get_or s i 0) (drop (suc i) s) k v i h ∙ rw (add-one i) refl)

-- its end at another byte
pub digit_stop : (s : List ℕ) (i k v : ℕ) → is_digit_of (get_or s i 0) ≡ false → digits_of k (drop i s) v i ≡ Read v i
digit_stop s i k v h =
    ⊎_elim
    (λ l. rw (drop-cons s i 0 l) (digit_other (get_or s i 0) (drop (suc i) s) k v i h))
    (λ l. ap (λ t. digits_of k t v i) (drop_of_length-le s l) ∙ digit_nil k v i)
    (lt_or_ge i (length s))

-- no digit more is allowed
pub digit_none : (bs : List ℕ) (i v : ℕ) → digits_of 0 bs v i ≡ Read v i
unfolding digits_of
digit_none bs i v = refl

-- digits end at most where the bytes end
pub digits_upto : (k : ℕ) (bs : List ℕ) (v i w e : ℕ) → digits_of k bs v i ≡ Read w e → e ≤ i + length bs
unfolding digits_of
digits_upto zero bs v i w e h = let q : i ≡ e = cc in omega arith
digits_upto (suc k) [] v i w e h = let q : i ≡ e = cc in omega arith
digits_upto (suc k) (b ∷ bs) v i w e h = go (is_digit_of b) (λ q. digits_upto k bs (v * 10 + (b - 48)) (i + 1) w e q) h
  where
    go : (t : Bool) → (digits_of k bs (v * 10 + (b - 48)) (i + 1) ≡ Read w e → e ≤ i + 1 + length bs)
        → elim t [ true ↦ digits_of k bs (v * 10 + (b - 48)) (i + 1) | false ↦ Read v i ] ≡ Read w e → e ≤ i + length (b ∷ bs)
    go true f h = omega (arith, f h)
    go false f h = let q : i ≡ e = cc in omega arith

-- digits are no misfit
pub digits_never : (k : ℕ) (bs : List ℕ) (v i n : ℕ) → digits_of k bs v i ≡ Misfit n → ⊥
unfolding digits_of
digits_never zero bs v i n q = let z : ◌≡◌ {A = ℕ} 0 1 = cc in omega arith
digits_never (suc k) [] v i n q = let z : ◌≡◌ {A = ℕ} 0 1 = cc in omega arith
digits_never (suc k) (b ∷ bs) v i n q = go (is_digit_of b) (digits_never k bs (v * 10 + (b - 48)) (i + 1) n) q
  where
    go : (t : Bool) → (digits_of k bs (v * 10 + (b - 48)) (i + 1) ≡ Misfit n → ⊥)
        → elim t [ true ↦ digits_of k bs (v * 10 + (b - 48)) (i + 1) | false ↦ Read v i ] ≡ Misfit n → ⊥
    go true f q = f q
    go false f q = let z : ◌≡◌ {A = ℕ} 0 1 = cc in omega arith

-- a turn of the loop that reads digits, where the byte read is b
pub digit_next : (s : List ℕ) (i v left b : ℕ) → 0 < left → b ≡ get_or s i 0 → is_digit_of b ≡ true
    → digits_of left (drop i s) v i ≡ digits_of (left - 1) (drop (i + 1) s) (v * 10 + (b - 48)) (i + 1)
digit_next s i v zero b l q h = absurd (not-suc-le-zero l)
digit_next s i v (suc k) b l q h =
    let e : suc k - 1 ≡ k = omega arith in
    rw (e, q) (digit_step s i k v (rw q at h))

-- 10 to the k
unfoldable pub tens : ℕ → ℕ
tens zero = 1
tens (suc k) = 10 * tens k

tens_pos : (k : ℕ) → 0 < tens k
unfolding tens
tens_pos zero = omega arith
tens_pos (suc k) = omega (arith, tens_pos k)

-- at the start there is room for five digits
pub tens_five : 1 * tens 5 ≤ 100000
unfolding tens
tens_five = omega arith

-- a number that has room for k more digits below 100000 is below 100000
pub digits_small : (v k : ℕ) → (v + 1) * tens k ≤ 100000 → v < 100000
digits_small v k h = omega (arith, le-mul_of_pos_right (v + 1) (tens_pos k))

-- one digit more takes one place of the room
pub digits_room : (v k d : ℕ) → 0 < k → d < 10 → (v + 1) * tens k ≤ 100000 → (v * 10 + d + 1) * tens (k - 1) ≤ 100000
unfolding tens
digits_room v zero d l q h = absurd (not-suc-le-zero l)
digits_room v (suc k) d l q h =
    let e : suc k - 1 ≡ k = omega arith in
    let f : (v + 1) * 10 ≡ v * 10 + 10 = omega arith in
    let g : (v * 10 + 10) * tens k ≤ 100000 = rw (← f, mul_assoc) h in
    let m : v * 10 + d + 1 ≤ v * 10 + 10 = omega arith in
    rw e (omega (arith, mul-le-mul_right (tens k) m))

-- ---- a number

-- a digit starts a number
pub first_digits : (s : List ℕ) (at : ℕ) → is_digit_of (get_or s at 0) ≡ true → first_digit_of s at ≡ digits_of 5 (drop at s) 0 at
unfolding first_digit_of
first_digits s at h = rw h refl

-- any other byte is a misfit
pub first_misfit : (s : List ℕ) (at : ℕ) → is_digit_of (get_or s at 0) ≡ false → first_digit_of s at ≡ Misfit (misfit_of (get_or s at 0))
unfolding first_digit_of
first_misfit s at h = rw h refl

-- behind white space a number is read
pub number_behind : (s : List ℕ) (at : ℕ) → is_white_of (get_or s at 0) ≡ true → number_of s at ≡ first_digit_of s (white_of (drop at s) at)
unfolding number_of
number_behind s at h = rw h refl

-- any other byte is a misfit
pub number_misfit : (s : List ℕ) (at : ℕ) → is_white_of (get_or s at 0) ≡ false → number_of s at ≡ Misfit (misfit_of (get_or s at 0))
unfolding number_of
number_misfit s at h = rw h refl

-- a number that was read ends within the bytes
pub first_within : (s : List ℕ) (at v e : ℕ) → at ≤ length s → first_digit_of s at ≡ Read v e → e ≤ length s
unfolding first_digit_of
first_within s at v e l h = go (is_digit_of (get_or s at 0)) h
  where
    go : (t : Bool) → cond t (digits_of 5 (drop at s) 0 at) (Misfit (misfit_of (get_or s at 0))) ≡ Read v e → e ≤ length s
    go true h = omega (arith, digits_upto 5 (drop at s) 0 at v e h, length-drop at s)
    go false h = let z : ◌≡◌ {A = ℕ} 0 1 = cc in omega arith

-- the same behind white space
pub number_within : (s : List ℕ) (at v e : ℕ) → at ≤ length s → number_of s at ≡ Read v e → e ≤ length s
unfolding number_of
number_within s at v e l h = go (is_white_of (get_or s at 0)) h
  where
    go : (t : Bool) → cond t (first_digit_of s (white_of (drop at s) at)) (Misfit (misfit_of (get_or s at 0))) ≡ Read v e → e ≤ length s
    go true h = first_within s (white_of (drop at s) at) v e (white_le s at l) h
    go false h = let z : ◌≡◌ {A = ℕ} 0 1 = cc in omega arith

-- ---- the header

-- white space ends the header
pub end_found : (s : List ℕ) (w h m at : ℕ) → is_white_of (get_or s at 0) ≡ true → head_end s w h m at ≡ Found w h m (at + 1)
unfolding head_end
end_found s w h m at q = rw q refl

-- any other byte is a misfit
pub end_misfit : (s : List ℕ) (w h m at : ℕ) → is_white_of (get_or s at 0) ≡ false → head_end s w h m at ≡ Refused (misfit_of (get_or s at 0))
unfolding head_end
end_misfit s w h m at q = rw q refl

-- what stands behind a number that was read, and one that was not
pub behind_read : {x : Number} {v e : ℕ} (k : ℕ → ℕ → Head) → x ≡ Read v e → then_head x k ≡ k v e
behind_read k q = ap (λ n. then_head n k) q

-- a misfit is the refusal
pub behind_misfit : {x : Number} {n : ℕ} (k : ℕ → ℕ → Head) → x ≡ Misfit n → then_head x k ≡ Refused n
behind_misfit k q = ap (λ n. then_head n k) q

-- what is found behind a number was found behind one that was read
pub behind_found : (x : Number) (k : ℕ → ℕ → Head) {w h m at : ℕ} {P : Type 0}
    → ((v e : ℕ) → x ≡ Read v e → k v e ≡ Found w h m at → P) → then_head x k ≡ Found w h m at → P
behind_found (Read v e) k f q = f v e refl q
behind_found (Misfit n) k f q = absurd (let z : ◌≡◌ {A = ℕ} 0 1 = cc in omega arith)

-- what is refused behind a number is refused for the number, or behind one that was read
pub behind_refused : (x : Number) (k : ℕ → ℕ → Head) {n : ℕ} {P : Type 0}
    → (x ≡ Misfit n → P) → ((v e : ℕ) → x ≡ Read v e → k v e ≡ Refused n → P) → then_head x k ≡ Refused n → P
behind_refused (Read v e) k f g q = g v e refl q
behind_refused (Misfit l) k {n} f g q = let e : l ≡ n = cc in f (ap Misfit e)

-- the magic's first byte is another, its second is another, or both are right
pub header_first : (s : List ℕ) → (get_or s 0 0 ≡ 80 → ⊥) → header_of s ≡ Refused 20
unfolding header_of
header_first s h = rw (ne_eqb (get_or s 0 0) 80 h) refl

-- the first is right, the second is another
pub header_second : (s : List ℕ) → get_or s 0 0 ≡ 80 → (get_or s 1 0 ≡ 53 → ⊥) → header_of s ≡ Refused 20
unfolding header_of
header_second s p h = rw (eq-eqb (get_or s 0 0) 80 p, ne_eqb (get_or s 1 0) 53 h) refl

-- both are right
pub header_magic : (s : List ℕ) → get_or s 0 0 ≡ 80 → get_or s 1 0 ≡ 53
    → header_of s ≡ then_head (number_of s 2) (λ w e. then_head (number_of s e) (λ h e. then_head (number_of s e) (λ m e. head_end s w h m e)))
unfolding header_of head_fields
header_magic s p q = rw (eq-eqb (get_or s 0 0) 80 p, eq-eqb (get_or s 1 0) 53 q) refl

-- then the numbers behind them decide
pub header_fields : (s : List ℕ) → get_or s 0 0 ≡ 80 → get_or s 1 0 ≡ 53 → header_of s ≡ head_fields s
unfolding header_of
header_fields s p q = rw (eq-eqb (get_or s 0 0) 80 p, eq-eqb (get_or s 1 0) 53 q) refl

-- a number that was read, or not, behind the first two bytes
pub fields_read : (s : List ℕ) {w e : ℕ} → number_of s 2 ≡ Read w e → head_fields s ≡ then_head (number_of s e) (λ h e. then_head (number_of s e) (λ m e. head_end s w h m e))
unfolding head_fields
fields_read s q = behind_read _ q

pub fields_misfit : (s : List ℕ) {n : ℕ} → number_of s 2 ≡ Misfit n → head_fields s ≡ Refused n
unfolding head_fields
fields_misfit s q = behind_misfit _ q

-- three numbers that were read, and the end behind them
pub fields_ended : (s : List ℕ) {w h m i j k : ℕ} → number_of s 2 ≡ Read w i → number_of s i ≡ Read h j → number_of s j ≡ Read m k → head_fields s ≡ head_end s w h m k
fields_ended s p q r = fields_read s p ∙ (behind_read _ q ∙ behind_read _ r)

-- ---- what stands behind the first two bytes decides alone

byte_same : (s t : List ℕ) (at : ℕ) → drop at s ≡ drop at t → get_or s at 0 ≡ get_or t at 0
byte_same s t at q =
    ap (λ i. get_or s i 0) (sym (add-zero at)) ∙ (sym (get_or-drop at s 0 0) ∙ (ap (λ u. get_or u 0 0) q ∙ (get_or-drop at t 0 0 ∙ ap (λ i. get_or t i 0) (add-zero at))))

behind_same : (s t : List ℕ) (at e : ℕ) → at ≤ e → drop at s ≡ drop at t → drop e s ≡ drop e t
behind_same s t at e l q =
    let z : at + (e - at) ≡ e = omega arith in
    ap (λ k. drop k s) (sym z) ∙ (sym (drop-drop (e - at) at s) ∙ (ap (drop (e - at)) q ∙ (drop-drop (e - at) at t ∙ ap (λ k. drop k t) z)))

white_from : (bs : List ℕ) (i : ℕ) → i ≤ white_of bs i
unfolding white_of
white_from [] i = le_refl i
white_from (b ∷ bs) i = go (is_white_of b) (white_from bs (i + 1))
  where
    go : (t : Bool) → i + 1 ≤ white_of bs (i + 1) → i ≤ elim t [ true ↦ white_of bs (i + 1) | false ↦ i ]
    go true h = omega arith
    go false h = le_refl i

digits_from : (k : ℕ) (bs : List ℕ) (v i w e : ℕ) → digits_of k bs v i ≡ Read w e → i ≤ e
unfolding digits_of
digits_from zero bs v i w e h = let q : i ≡ e = cc in omega arith
digits_from (suc k) [] v i w e h = let q : i ≡ e = cc in omega arith
digits_from (suc k) (b ∷ bs) v i w e h = go (is_digit_of b) (λ q. digits_from k bs (v * 10 + (b - 48)) (i + 1) w e q) h
  where
    go : (t : Bool) → (digits_of k bs (v * 10 + (b - 48)) (i + 1) ≡ Read w e → i + 1 ≤ e)
        → elim t [ true ↦ digits_of k bs (v * 10 + (b - 48)) (i + 1) | false ↦ Read v i ] ≡ Read w e → i ≤ e
    go true f h = omega (arith, f h)
    go false f h = let q : i ≡ e = cc in omega arith

first_from : (s : List ℕ) (at v e : ℕ) → first_digit_of s at ≡ Read v e → at ≤ e
unfolding first_digit_of
first_from s at v e h = go (is_digit_of (get_or s at 0)) h
  where
    go : (t : Bool) → cond t (digits_of 5 (drop at s) 0 at) (Misfit (misfit_of (get_or s at 0))) ≡ Read v e → at ≤ e
    go true h = digits_from 5 (drop at s) 0 at v e h
    go false h = let z : ◌≡◌ {A = ℕ} 0 1 = cc in omega arith

number_from : (s : List ℕ) (at v e : ℕ) → number_of s at ≡ Read v e → at ≤ e
unfolding number_of
number_from s at v e h = go (is_white_of (get_or s at 0)) h
  where
    go : (t : Bool) → cond t (first_digit_of s (white_of (drop at s) at)) (Misfit (misfit_of (get_or s at 0))) ≡ Read v e → at ≤ e
    go true h = omega (arith, white_from (drop at s) at, first_from s (white_of (drop at s) at) v e h)
    go false h = let z : ◌≡◌ {A = ℕ} 0 1 = cc in omega arith

first_same : (s t : List ℕ) (at : ℕ) → drop at s ≡ drop at t → first_digit_of s at ≡ first_digit_of t at
unfolding first_digit_of
first_same s t at q = rw (byte_same s t at q, q) refl

number_same : (s t : List ℕ) (at : ℕ) → drop at s ≡ drop at t → number_of s at ≡ number_of t at
unfolding number_of
number_same s t at q =
    let start : ℕ = white_of (drop at t) at in
    rw (byte_same s t at q, q) (ap (λ x. cond (is_white_of (get_or t at 0)) x (Misfit (misfit_of (get_or t at 0)))) (first_same s t start (behind_same s t at start (white_from (drop at t) at) q)))

end_same : (s t : List ℕ) (w h m at : ℕ) → drop at s ≡ drop at t → head_end s w h m at ≡ head_end t w h m at
unfolding head_end
end_same s t w h m at q = rw (byte_same s t at q) refl

-- two headers that are read the same up to a number are read the same behind it
then_same : (s t : List ℕ) (at : ℕ) (k l : ℕ → ℕ → Head) → drop at s ≡ drop at t → ((v e : ℕ) → drop e s ≡ drop e t → k v e ≡ l v e)
    → then_head (number_of s at) k ≡ then_head (number_of t at) l
then_same s t at k l q f = ap (λ x. then_head x k) (number_same s t at q) ∙ go (number_of t at) refl
  where
    go : (x : Number) → number_of t at ≡ x → then_head x k ≡ then_head x l
    go (Read v e) h = f v e (behind_same s t at e (number_from t at v e h) q)
    go (Misfit n) h = refl

-- so a plain file's numbers are read as those of the raw file with the same bytes behind its first two
pub fields_same : (s t : List ℕ) → drop 2 s ≡ drop 2 t → head_fields s ≡ head_fields t
unfolding head_fields
fields_same s t q =
    then_same s t 2 _ _ q
    (λ w e p. then_same s t e _ _ p (λ h e p. then_same s t e _ _ p (λ m e p. end_same s t w h m e p)))

-- a second byte that is right is there
pub magic_within : (s : List ℕ) → get_or s 1 0 ≡ 53 → 2 ≤ length s
magic_within s h = test_within (λ b. eqb b 53) refl s 1 (eq-eqb (get_or s 1 0) 53 h)
