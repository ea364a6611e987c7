-- Order 9: which bytes are a plain PGM file, with no word on how it is read. w, h and m are width, height and maxval.
-- Assumes nothing.
use Rattle.std.specs.Prelude.{ℕ, ◌*◌, ◌≤◌, ◌<◌, true, List, [], ◌∷◌, ◌++◌, ◌⊎◌, ◌≡◌, length, get_or}
use Rattle.base_lists.specs.Lists.{all}
use Rattle.pgm_header.specs.Header.{is_white_of, is_digit_of}
use Rattle.pgm_header.specs.Grammar.{value_of, Header, Hash}

-- bytes that start with a plain file's header, "20 (with P2) to 23 as 01 does": with 5 in the place of 2 they start with a raw file's
pub record PlainHeader (bs : List ℕ) (w h m : ℕ) (rest : List ℕ) : Type 0 where
  pub behind : List ℕ
  pub bytes : bs ≡ 80 ∷ 50 ∷ behind
  pub raw : Header (80 ∷ 53 ∷ behind) w h m rest

-- bytes with a `#` in the header, "no comments": with 5 in the place of 2 they are such bytes of a raw file
pub record PlainHash (bs : List ℕ) : Type 0 where
  pub behind : List ℕ
  pub bytes : bs ≡ 80 ∷ 50 ∷ behind
  pub raw : Hash (80 ∷ 53 ∷ behind)

-- one sample v, and what is left behind it
pub record SampleIn (m : ℕ) (bs : List ℕ) (v : ℕ) (rest : List ℕ) : Type 0 where
  pub white : List ℕ
  pub digits : List ℕ
  pub bytes : bs ≡ white ++ (digits ++ rest)
  -- "parted by white space"
  pub all_white : all is_white_of white ≡ true
  -- "1 to 5 digits"
  pub some_digits : 0 < length digits
  pub few_digits : length digits ≤ 5
  pub all_digits : all is_digit_of digits ≡ true
  pub value : value_of 0 digits ≡ v
  -- not "above maxval"
  pub most : v ≤ m
  -- "all bytes up to white space or the end"
  pub ends : (rest ≡ []) ⊎ (is_white_of (get_or rest 0 0) ≡ true)

-- the samples vs, and "nothing but white space behind the last sample"
abbrev pub Samples : ℕ → List ℕ → List ℕ → Type 0
Samples m bs [] = all is_white_of bs ≡ true
Samples m bs (v ∷ vs) = (rest : List ℕ) × SampleIn m bs v rest × Samples m rest vs

-- a plain file with the greys vs, width x height of them
pub record PlainFile (bs : List ℕ) (w h m : ℕ) (vs : List ℕ) : Type 0 where
  pub rest : List ℕ
  pub header : PlainHeader bs w h m rest
  pub samples : Samples m rest vs
  pub count : length vs ≡ w * h
