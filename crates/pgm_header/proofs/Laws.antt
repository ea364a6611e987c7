-- Laws of the header for the calls that read and write it: where a header that is found ends, which refusals there are,
-- how long a written header is, that it is one of the grammar, and so is read back as it was written.
-- Assumes nothing.
use Prim.Native.Nat.{ℕ, zero, suc, ◌+◌, ◌-◌, ◌*◌, ◌/◌, ◌%◌, ◌≤◌, ◌<◌}
use mathlib.Core.Bool.{Bool, true, false, ◌&&◌, cond}
use mathlib.Core.List.{List, [], ◌∷◌, ◌++◌, append_assoc}
use mathlib.Core.Logic.{◌⊎◌, inl, inr, ⊎_elim}
use mathlib.Core.Path.{◌≡◌, refl, sym, ap, ◌∙◌}
use lib.Dec.{leb, eqb}
use lib.ListN.{length, drop, get_or, length-append}
use native.Mathlib.Omega.{arith}
use borrow.Author.Tests.{le-leb}
use Rattle.base_lists.specs.Lists.{all}
use Rattle.base_lists.proofs.Orders.{lt_or_ge}
use Rattle.base_lists.proofs.Tabs.{and_both}
use Rattle.base_lists.proofs.Alls.{all_one, all_both}
use Rattle.pgm_header.specs.Header.{Misfit}
use Rattle.pgm_header.specs.Header.{Found, Refused}
use Rattle.pgm_header.specs.Header.{is_white_of, is_digit_of, misfit_of, white_of, digits_of, first_digit_of, number_of, then_head, head_end, head_fields, header_of, decimal_of, header_bytes}
use Rattle.pgm_header.specs.Grammar.{value_of, Numeral, Header}
use Rattle.pgm_header.proofs.Reading.{digits_never, behind_refused, tens}
use Rattle.pgm_header.proofs.Writing.{decimal_one, decimal_more, count_most, count_least, length_header}
use Rattle.pgm_header.proofs.Grammar.{header_complete, header_sound}

-- ---- what a header that is found, or refused, tells

-- the place of the raster is within the bytes
pub found_within : (s : List ℕ) {w h m at : ℕ} → header_of s ≡ Found w h m at → at ≤ length s
found_within s q = (header_sound s q).0

abbrev Number20 : ℕ → Type 0
Number20 n = (n ≡ 20) ⊎ (n ≡ 21)

misfit_number : (b : ℕ) → Number20 (misfit_of b)
unfolding misfit_of
misfit_number b = go (eqb b 35)
  where
    go : (t : Bool) → Number20 (cond t 21 20)
    go true = inr refl
    go false = inl refl

misfit_same : (b : ℕ) {n : ℕ} → Misfit (misfit_of b) ≡ Misfit n → Number20 n
misfit_same b {n} q = let e : misfit_of b ≡ n = cc in ⊎_elim (λ p. inl (sym e ∙ p)) (λ p. inr (sym e ∙ p)) (misfit_number b)

first_refused : (s : List ℕ) (i : ℕ) {n : ℕ} → first_digit_of s i ≡ Misfit n → Number20 n
unfolding first_digit_of
first_refused s i {n} q = go (is_digit_of (get_or s i 0)) q
  where
    go : (t : Bool) → cond t (digits_of 5 (drop i s) 0 i) (Misfit (misfit_of (get_or s i 0))) ≡ Misfit n → Number20 n
    go true q = absurd (digits_never 5 (drop i s) 0 i n q)
    go false q = misfit_same (get_or s i 0) q

number_refused : (s : List ℕ) (i : ℕ) {n : ℕ} → number_of s i ≡ Misfit n → Number20 n
unfolding number_of
number_refused s i {n} q = go (is_white_of (get_or s i 0)) q
  where
    go : (t : Bool) → cond t (first_digit_of s (white_of (drop i s) i)) (Misfit (misfit_of (get_or s i 0))) ≡ Misfit n → Number20 n
    go true q = first_refused s (white_of (drop i s) i) q
    go false q = misfit_same (get_or s i 0) q

end_refused : (s : List ℕ) (w h m i : ℕ) {n : ℕ} → head_end s w h m i ≡ Refused n → Number20 n
unfolding head_end
end_refused s w h m i {n} q = go (is_white_of (get_or s i 0)) q
  where
    go : (t : Bool) → cond t (Found w h m (i + 1)) (Refused (misfit_of (get_or s i 0))) ≡ Refused n → Number20 n
    go true q = absurd (let z : ◌≡◌ {A = ℕ} 0 1 = cc in omega arith)
    go false q =
        let e : misfit_of (get_or s i 0) ≡ n = cc in
        ⊎_elim (λ p. inl (sym e ∙ p)) (λ p. inr (sym e ∙ p)) (misfit_number (get_or s i 0))

-- "20" and "21" are the only refusals of a header
pub refused_number : (s : List ℕ) {n : ℕ} → header_of s ≡ Refused n → (n ≡ 20) ⊎ (n ≡ 21)
unfolding header_of head_fields
refused_number s {n} q = go (eqb (get_or s 0 0) 80 && eqb (get_or s 1 0) 53) q
  where
    go : (t : Bool)
        → cond t
        (then_head (number_of s 2) (λ w at. then_head (number_of s at) (λ h at. then_head (number_of s at) (λ m at. head_end s w h m at))))
        (Refused 20)
        ≡ Refused n
        → (n ≡ 20) ⊎ (n ≡ 21)
    go true q =
        behind_refused (number_of s 2) _ (number_refused s 2)
        (λ w e p q.
        behind_refused (number_of s e) _ (number_refused s e)
        (λ h e p q. behind_refused (number_of s e) _ (number_refused s e) (λ m e p q. end_refused s w h m e q) q)
        q)
        q
    go false q = let e : n ≡ 20 = cc in inl e

-- ---- how long a written header is

-- a written header takes at most 21 bytes
pub header_bytes_small : (w h m : ℕ) → length (header_bytes w h m) ≤ 21
header_bytes_small w h m = omega (arith, length_header w h m, count_most 5 w, count_most 5 h, count_most 5 m)

-- ---- a written header is one of the grammar

digit_of_lem : (n : ℕ) → n < 10 → is_digit_of (48 + n) ≡ true
unfolding is_digit_of
digit_of_lem n h = and_both (leb 48 (48 + n)) (leb (48 + n) 57) (le-leb 48 (48 + n) (omega arith)) (le-leb (48 + n) 57 (omega arith))

-- what the writer lays down for a number is digits
pub decimal_digits : (k n : ℕ) → all is_digit_of (decimal_of k n) ≡ true
unfolding decimal_of all
decimal_digits zero n = refl
decimal_digits (suc k) n =
    ⊎_elim
    (λ h. ap (all is_digit_of) (decimal_one k n h) ∙ all_one is_digit_of (digit_of_lem n h))
    (λ h.
    ap (all is_digit_of) (decimal_more k n h)
    ∙ all_both is_digit_of (decimal_of k (n / 10)) _ (decimal_digits k (n / 10)) (all_one is_digit_of (digit_of_lem (n % 10) (omega arith))))
    (lt_or_ge n 10)

value_append : (v : ℕ) (xs ys : List ℕ) → value_of v (xs ++ ys) ≡ value_of (value_of v xs) ys
unfolding value_of
value_append v [] ys = refl
value_append v (x ∷ xs) ys = value_append (v * 10 + (x - 48)) xs ys

value_more : (k n : ℕ) → 10 ≤ n → value_of 0 (decimal_of k (n / 10)) ≡ n / 10 → value_of 0 (decimal_of (suc k) n) ≡ n
unfolding value_of
value_more k n h q =
    ap (value_of 0) (decimal_more k n h)
    ∙ (value_append 0 (decimal_of k (n / 10)) ((48 + n % 10) ∷ []) ∙ (ap (λ v. v * 10 + (48 + n % 10 - 48)) q ∙ omega arith))

-- and their value is the number
pub decimal_value : (k n : ℕ) → n < tens k → value_of 0 (decimal_of k n) ≡ n
unfolding decimal_of value_of tens
decimal_value zero n l = omega arith
decimal_value (suc k) n l =
    ⊎_elim
    (λ h. ap (value_of 0) (decimal_one k n h) ∙ omega arith)
    (λ h. value_more k n h (decimal_value k (n / 10) (omega arith)))
    (lt_or_ge n 10)

numeral_written : (b n : ℕ) → is_white_of b ≡ true → n < 100000 → Numeral (b ∷ decimal_of 5 n) n
unfolding tens
numeral_written b n h l =
    record {
      white = b ∷ [];
      digits = decimal_of 5 n;
      bytes = refl;
      some_white = omega arith;
      all_white = all_one is_white_of h;
      some_digits = count_least 4 n;
      few_digits = count_most 5 n;
      all_digits = decimal_digits 5 n;
      value = decimal_value 5 n l;
    }

-- what the writer lays down is a header, whatever stands behind it
pub header_written : (w h m : ℕ) (rest : List ℕ) → w < 100000 → h < 100000 → m < 100000 → Header (header_bytes w h m ++ rest) w h m rest
unfolding header_bytes is_white_of
header_written w h m rest lw lh lm =
    record {
      width = 10 ∷ decimal_of 5 w;
      height = 32 ∷ decimal_of 5 h;
      maxval = 10 ∷ decimal_of 5 m;
      last = 10;
      bytes = simp append_assoc;
      width_is = numeral_written 10 w refl lw;
      height_is = numeral_written 32 h refl lh;
      maxval_is = numeral_written 10 m refl lm;
      last_white = refl;
    }

-- so it is read back as it was written
pub round_trip : (w h m : ℕ) (rest : List ℕ) → w < 100000 → h < 100000 → m < 100000
    → header_of (header_bytes w h m ++ rest) ≡ Found w h m (length (header_bytes w h m))
round_trip w h m rest lw lh lm =
    let e : length (header_bytes w h m ++ rest) - length rest ≡ length (header_bytes w h m) = omega (arith, length-append (header_bytes w h m) rest) in
    header_complete (header_written w h m rest lw lh lm) ∙ ap (Found w h m) e
