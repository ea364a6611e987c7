-- Laws of the header's writer: the digits of a number, their count, and the header laid down piece by piece.
-- Assumes nothing.
use Prim.Native.Nat.{ℕ, zero, suc, ◌+◌, ◌-◌, ◌/◌, ◌%◌, ◌≤◌, ◌<◌}
use mathlib.Core.Bool.{Bool, true, false}
use mathlib.Core.List.{List, [], ◌∷◌, ◌++◌, append_assoc}
use mathlib.Core.Logic.{⊎_elim}
use mathlib.Core.Path.{◌≡◌, refl, sym, ap, ◌∙◌}
use lib.ListN.{length, set, length-append}
use native.Mathlib.Nat.{not-suc-le-zero}
use native.Mathlib.Omega.{arith}
use native.Mathlib.Numerals.{add-one}
use borrow.Author.Tests.{lt-ltb, le-ltb}
use Rattle.base_lists.specs.Lists.{onto, over}
use Rattle.base_lists.proofs.Orders.{lt_or_ge}
use Rattle.base_lists.proofs.Overs.{onto_nil, onto_set, onto_over, over_nil, over_set}
use Rattle.pgm_header.specs.Header.{decimal_of, header_bytes}

-- ---- the digits of a number

-- a number below 10 is one digit
pub decimal_one : (k n : ℕ) → n < 10 → decimal_of (suc k) n ≡ (48 + n) ∷ []
unfolding decimal_of
decimal_one k n h =
    ap (λ (t : Bool). elim t [ true ↦ (48 + n) ∷ [] | false ↦ decimal_of k (n / 10) ++ ((48 + n % 10) ∷ []) ]) (lt-ltb n 10 h)

-- any other is the digits of its tenth, then its last digit
pub decimal_more : (k n : ℕ) → 10 ≤ n → decimal_of (suc k) n ≡ decimal_of k (n / 10) ++ ((48 + n % 10) ∷ [])
unfolding decimal_of
decimal_more k n h =
    ap (λ (t : Bool). elim t [ true ↦ (48 + n) ∷ [] | false ↦ decimal_of k (n / 10) ++ ((48 + n % 10) ∷ []) ]) (le-ltb n 10 h)

-- one digit below 10
pub count_one : (k n : ℕ) → n < 10 → length (decimal_of (suc k) n) ≡ 1
count_one k n h = ap length (decimal_one k n h)

-- one digit more than its tenth has
pub count_more : (k n : ℕ) → 10 ≤ n → length (decimal_of (suc k) n) ≡ length (decimal_of k (n / 10)) + 1
count_more k n h = rw (decimal_more k n h) (length-append (decimal_of k (n / 10)) ((48 + n % 10) ∷ []))

-- at most as many digits as are allowed
pub count_most : (k n : ℕ) → length (decimal_of k n) ≤ k
unfolding decimal_of
count_most zero n = omega arith
count_most (suc k) n =
    ⊎_elim (λ h. omega (arith, count_one k n h)) (λ h. omega (arith, count_more k n h, count_most k (n / 10))) (lt_or_ge n 10)

-- one digit at least
pub count_least : (k n : ℕ) → 0 < length (decimal_of (suc k) n)
count_least k n = ⊎_elim (λ h. omega (arith, count_one k n h)) (λ h. omega (arith, count_more k n h)) (lt_or_ge n 10)

-- the count of digits goes by the powers of ten
pub count_1 : (n : ℕ) → n < 10 → 1 ≡ length (decimal_of 5 n)
count_1 n h = sym (count_one 4 n h)

-- two digits
pub count_2 : (n : ℕ) → 10 ≤ n → n < 100 → 2 ≡ length (decimal_of 5 n)
count_2 n l h = omega (arith, count_more 4 n l, count_one 3 (n / 10) (omega arith))

-- three digits
pub count_3 : (n : ℕ) → 100 ≤ n → n < 1000 → 3 ≡ length (decimal_of 5 n)
count_3 n l h = omega (arith, count_more 4 n (omega arith), count_more 3 (n / 10) (omega arith), count_one 2 (n / 10 / 10) (omega arith))

-- four digits
pub count_4 : (n : ℕ) → 1000 ≤ n → n < 10000 → 4 ≡ length (decimal_of 5 n)
count_4 n l h =
    omega (
      arith,
      count_more 4 n (omega arith),
      count_more 3 (n / 10) (omega arith),
      count_more 2 (n / 10 / 10) (omega arith),
      count_one 1 (n / 10 / 10 / 10) (omega arith),
    )

-- five digits
pub count_5 : (n : ℕ) → 10000 ≤ n → n < 100000 → 5 ≡ length (decimal_of 5 n)
count_5 n l h =
    omega (
      arith,
      count_more 4 n (omega arith),
      count_more 3 (n / 10) (omega arith),
      count_more 2 (n / 10 / 10) (omega arith),
      count_more 1 (n / 10 / 10 / 10) (omega arith),
      count_one 0 (n / 10 / 10 / 10 / 10) (omega arith),
    )

-- ---- the loop that writes digits, the last one first

-- the last k digits of n
unfoldable pub fixed : ℕ → ℕ → List ℕ
fixed zero n = []
fixed (suc k) n = fixed k (n / 10) ++ ((48 + n % 10) ∷ [])

-- they are k
pub length_fixed : (k n : ℕ) → length (fixed k n) ≡ k
unfolding fixed
length_fixed zero n = refl
length_fixed (suc k) n = rw (length-append, length_fixed k (n / 10)) (omega arith)

fixed_one : (k n : ℕ) → n < 10 → decimal_of (suc k) n ≡ fixed (length (decimal_of (suc k) n)) n
unfolding fixed
fixed_one k n h = let e : n % 10 ≡ n = omega arith in rw (count_one k n h, decimal_one k n h, e) refl

fixed_more : (k n : ℕ) → 10 ≤ n → decimal_of k (n / 10) ≡ fixed (length (decimal_of k (n / 10))) (n / 10)
    → decimal_of (suc k) n ≡ fixed (length (decimal_of (suc k) n)) n
unfolding fixed
fixed_more k n h e = rw (count_more k n h, decimal_more k n h, add-one) (ap (λ t. t ++ ((48 + n % 10) ∷ [])) e)

-- a number's digits are as many of its last digits as there are
pub decimal_fixed : (k n : ℕ) → decimal_of k n ≡ fixed (length (decimal_of k n)) n
unfolding decimal_of fixed
decimal_fixed zero n = refl
decimal_fixed (suc k) n = ⊎_elim (fixed_one k n) (λ h. fixed_more k n h (decimal_fixed k (n / 10))) (lt_or_ge n 10)

-- a turn of the loop: one digit is laid down, and what is left to do gives the same
pub digit_laid : (out : List ℕ) (at v k : ℕ) → 0 < k → at + k ≤ length out
    → over (set out (at + (k - 1)) (48 + v % 10)) at (fixed (k - 1) (v / 10)) ≡ over out at (fixed k v)
unfolding fixed
digit_laid out at v zero l h = absurd (not-suc-le-zero l)
digit_laid out at v (suc k) l h =
    let e : suc k - 1 ≡ k = omega arith in
    rw e (over_set out (fixed k (v / 10)) at k (48 + v % 10) (length_fixed k (v / 10)) (omega arith))

-- its end
pub digits_laid : (out : List ℕ) (at v k : ℕ) → k ≤ 0 → over out at (fixed k v) ≡ out
unfolding fixed
digits_laid out at v zero h = over_nil out at
digits_laid out at v (suc k) h = absurd (not-suc-le-zero h)

-- ---- the header

-- a header's length is the sum of its pieces'
pub length_header : (w h m : ℕ)
    → length (header_bytes w h m) ≡ 3 + length (decimal_of 5 w) + 1 + length (decimal_of 5 h) + 1 + length (decimal_of 5 m) + 1
unfolding header_bytes
length_header w h m = simp length-append (omega arith)

-- `P5` and LF
pub magic_laid : (d : List ℕ) → 3 ≤ length d → set (set (set d 0 80) 1 53) 2 10 ≡ onto d (80 ∷ 53 ∷ 10 ∷ [])
magic_laid d l =
    onto_set d (80 ∷ 53 ∷ []) 2 10 (onto_set d (80 ∷ []) 1 53 (onto_set d [] 0 80 (onto_nil d) refl (omega arith)) refl (omega arith)) refl (omega arith)

-- the pieces, one behind the other, are the header
pub header_joined : (w h m : ℕ)
    → (80 ∷ 53 ∷ 10 ∷ []) ++ (decimal_of 5 w ++ (32 ∷ [])) ++ (decimal_of 5 h ++ (10 ∷ [])) ++ (decimal_of 5 m ++ (10 ∷ [])) ≡ header_bytes w h m
unfolding header_bytes
header_joined w h m = simp append_assoc

-- the pieces laid down one behind the other are the header at the front
pub header_laid : (d : List ℕ) (w h m : ℕ) {s t u : List ℕ} {a b : ℕ} → 3 ≤ length d
    → s ≡ over (set (set (set d 0 80) 1 53) 2 10) 3 (decimal_of 5 w ++ (32 ∷ []))
    → a ≡ 3 + length (decimal_of 5 w) + 1
    → t ≡ over s a (decimal_of 5 h ++ (10 ∷ []))
    → b ≡ a + length (decimal_of 5 h) + 1
    → u ≡ over t b (decimal_of 5 m ++ (10 ∷ []))
    → u ≡ onto d (header_bytes w h m)
header_laid d w h m {s} {t} {u} {a} {b} l p q p' q' p'' = p'' ∙ (onto_over d three (decimal_of 5 m ++ (10 ∷ [])) b upto_height third ∙ ap (onto d) (header_joined w h m))
  where
    two : List ℕ
    two = (80 ∷ 53 ∷ 10 ∷ []) ++ (decimal_of 5 w ++ (32 ∷ []))

    three : List ℕ
    three = two ++ (decimal_of 5 h ++ (10 ∷ []))

    upto_width : s ≡ onto d two
    upto_width = p ∙ onto_over d (80 ∷ 53 ∷ 10 ∷ []) (decimal_of 5 w ++ (32 ∷ [])) 3 (magic_laid d l) refl

    second : a ≡ length two
    second = simp length-append (omega arith)

    upto_height : t ≡ onto d three
    upto_height = p' ∙ onto_over d two (decimal_of 5 h ++ (10 ∷ [])) a upto_width second

    third : b ≡ length three
    third = simp length-append (omega arith)
