-- Document 01, "Raw PGM" and refusals 20 and 21: the header of a raw PGM file, as its reader takes it and as its writer lays it down.
-- Which bytes are a header, with no reader, is in Grammar.
-- A file is a list of bytes; the end of input reads as 0, which is no white space, no digit and no `#`.
-- Assumes nothing.
use Rattle.std.specs.Prelude.{ℕ, zero, suc, ◌+◌, ◌-◌, ◌*◌, ◌/◌, ◌%◌, Bool, true, false, ◌&&◌, ◌||◌, cond, List, [], ◌∷◌, ◌++◌, leb, ltb, eqb, drop, get_or}

-- a number with the place behind it, or the refusal of what stands in its place
pub data Number : Type 0 where
  Read : (value end : ℕ) → Number
  Misfit : ℕ → Number

-- a header: width, height, maxval and the place where the raster starts; or its refusal
pub data Head : Type 0 where
  Found : (w h m at : ℕ) → Head
  Refused : ℕ → Head

-- "White space is space, tab, CR, LF."
unfoldable pub is_white_of : ℕ → Bool
is_white_of b = eqb b 32 || eqb b 9 || eqb b 13 || eqb b 10

-- a digit, `0` to `9`
unfoldable pub is_digit_of : ℕ → Bool
is_digit_of b = leb 48 b && leb b 57

-- "a `#` instead of white space or a digit is 21 and any other misfit, or the end of input, is 20"
unfoldable pub misfit_of : ℕ → ℕ
misfit_of b = cond (eqb b 35) 21 20

-- the place behind the white space bytes that stand in front of bs, which starts at `at`
unfoldable pub white_of : List ℕ → ℕ → ℕ
white_of [] at = at
white_of (b ∷ bs) at = elim (is_white_of b) [ true ↦ white_of bs (at + 1) | false ↦ at ]

-- "numbers of 1 to 5 digits", "Leading zeros count as digits": at most `most` more digits behind a number v so far
unfoldable pub digits_of : (most : ℕ) (bs : List ℕ) (v at : ℕ) → Number
digits_of zero bs v at = Read v at
digits_of (suc most) [] v at = Read v at
digits_of (suc most) (b ∷ bs) v at =
    elim (is_digit_of b) [ true ↦ digits_of most bs (v * 10 + (b - 48)) (at + 1) | false ↦ Read v at ]

-- one digit at least, at the place `at`
unfoldable pub first_digit_of : List ℕ → ℕ → Number
first_digit_of s at = cond (is_digit_of (get_or s at 0)) (digits_of 5 (drop at s) 0 at) (Misfit (misfit_of (get_or s at 0)))

-- a number "after one or more white space bytes", at the place `at`
unfoldable pub number_of : List ℕ → ℕ → Number
number_of s at = cond (is_white_of (get_or s at 0)) (first_digit_of s (white_of (drop at s) at)) (Misfit (misfit_of (get_or s at 0)))

-- what stands behind a number
abbrev pub then_head : Number → (ℕ → ℕ → Head) → Head
then_head (Read v at) k = k v at
then_head (Misfit n) k = Refused n

-- "exactly one white space byte at the end"
unfoldable pub head_end : (s : List ℕ) (w h m at : ℕ) → Head
head_end s w h m at = cond (is_white_of (get_or s at 0)) (Found w h m (at + 1)) (Refused (misfit_of (get_or s at 0)))

-- three numbers behind the first two bytes, width, height and maxval
unfoldable pub head_fields : List ℕ → Head
head_fields s = then_head (number_of s 2) (λ w at. then_head (number_of s at) (λ h at. then_head (number_of s at) (λ m at. head_end s w h m at)))

-- "P5", then three numbers, width, height and maxval; what is found ends with the place where the raster starts
unfoldable pub header_of : List ℕ → Head
header_of s =
    cond (eqb (get_or s 0 0) 80 && eqb (get_or s 1 0) 53)
    (head_fields s)
    (Refused 20)

-- ---- the writer

-- the decimal digits of n, "no leading zeros", for an n of at most `most` digits
unfoldable pub decimal_of : ℕ → ℕ → List ℕ
decimal_of zero n = []
decimal_of (suc most) n = elim (ltb n 10) [ true ↦ (48 + n) ∷ [] | false ↦ decimal_of most (n / 10) ++ ((48 + n % 10) ∷ []) ]

-- "The writer lays down `P5`, LF, width, space, height, LF, maxval, LF"
unfoldable pub header_bytes : ℕ → ℕ → ℕ → List ℕ
header_bytes w h m =
    (80 ∷ 53 ∷ 10 ∷ []) ++ (decimal_of 5 w ++ ((32 ∷ []) ++ (decimal_of 5 h ++ ((10 ∷ []) ++ (decimal_of 5 m ++ (10 ∷ []))))))
