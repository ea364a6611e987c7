-- Document 01, refusals 20 and 21 and "Raw PGM": which bytes are the header of a raw PGM file, with no word on how it is read.
-- Assumes nothing.
use Rattle.std.specs.Prelude.{ℕ, ◌+◌, ◌-◌, ◌*◌, ◌≤◌, ◌<◌, true, List, [], ◌∷◌, ◌++◌, ◌≡◌, length}
use Rattle.base_lists.specs.Lists.{all}
use Rattle.pgm_header.specs.Header.{is_white_of, is_digit_of}

-- the decimal value of digits behind a number v so far; "Leading zeros count as digits"
unfoldable pub value_of : ℕ → List ℕ → ℕ
value_of v [] = v
value_of v (b ∷ bs) = value_of (v * 10 + (b - 48)) bs

-- a number n of the header: "numbers of 1 to 5 digits, each after one or more white space bytes"
pub record Numeral (bs : List ℕ) (n : ℕ) : Type 0 where
  pub white : List ℕ
  pub digits : List ℕ
  pub bytes : bs ≡ white ++ digits
  -- "one or more white space bytes"
  pub some_white : 0 < length white
  pub all_white : all is_white_of white ≡ true
  -- "1 to 5 digits"
  pub some_digits : 0 < length digits
  pub few_digits : length digits ≤ 5
  pub all_digits : all is_digit_of digits ≡ true
  pub value : value_of 0 digits ≡ n

-- bytes that start with a header of width w, height h and maxval m: "P5", then three numbers, "and exactly one white space byte at the end"; what is left is the raster's
pub record Header (bs : List ℕ) (w h m : ℕ) (rest : List ℕ) : Type 0 where
  pub width : List ℕ
  pub height : List ℕ
  pub maxval : List ℕ
  pub last : ℕ
  pub bytes : bs ≡ (80 ∷ 53 ∷ []) ++ (width ++ (height ++ (maxval ++ (last ∷ rest))))
  pub width_is : Numeral width w
  pub height_is : Numeral height h
  pub maxval_is : Numeral maxval m
  pub last_white : is_white_of last ≡ true

-- bytes where, "behind `P5`, a `#`" stands "instead of white space or a digit": what is before it, with another byte in its place and more behind that, is a whole header
pub record Hash (bs : List ℕ) : Type 0 where
  pub before : List ℕ
  pub behind : List ℕ
  pub bytes : bs ≡ (80 ∷ 53 ∷ []) ++ (before ++ (35 ∷ behind))
  pub due : ℕ
  pub more : List ℕ
  pub w : ℕ
  pub h : ℕ
  pub m : ℕ
  pub header : Header ((80 ∷ 53 ∷ []) ++ (before ++ (due ∷ more))) w h m []
