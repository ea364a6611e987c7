-- A printed line as a value: a letter and a row's number, then further fields, each behind a tab, and LF. Numbers are decimal, and the
-- bits of a float hexadecimal.
-- Assumes nothing.
use Rattle.std.specs.Prelude.{ℕ, ◌+◌, Bool, cond, ◌&&◌, List, [], ◌∷◌, ltb, leb, set, length, replicate}
use Rattle.io.specs.Digits.{last_digits}
use Rattle.pgm_header.specs.Header.{decimal_of}
use Rattle.test_text.specs.declared.Text.{Text}

-- f over the entries of a list, from a on
unfoldable pub run : {A : Type 0} → (A → ℕ → A) → A → List ℕ → A
run f a [] = a
run f a (b ∷ bs) = run f (f a b) bs

-- a line with no byte
unfoldable pub blank_text : Text
blank_text = record { bytes = replicate 1368 0; end = 0 }

-- one byte more; as it is where it is full
unfoldable pub put_of : Text → ℕ → Text
put_of t b = cond (ltb t.end 1368) (record { bytes = set t.bytes t.end b; end = t.end + 1 }) t

-- all bytes of a list more
abbrev pub puts_of : Text → List ℕ → Text
puts_of t bs = run put_of t bs

-- a tab and a number's decimal digits: 2^64 has 20
unfoldable pub field_of : Text → ℕ → Text
field_of t n = puts_of (put_of t 9) (decimal_of 20 n)

-- the fields of all entries
abbrev pub fields_of : Text → List ℕ → Text
fields_of t ns = run field_of t ns

-- a tab and the last so many hexadecimal digits of a float's bits; `to_bits` has one NaN's for all
unfoldable pub hex_field_of : Text → ℕ → ℕ → Text
hex_field_of t count bits = puts_of (put_of t 9) (last_digits 16 count bits)

-- the letter and the row's number
abbrev pub line_start : ℕ → ℕ → Text
line_start letter n = field_of (put_of blank_text letter) n

-- LF ends a line
abbrev pub line_end : Text → Text
line_end t = put_of t 10

-- a whole line with these numbers
unfoldable pub line_of : ℕ → ℕ → List ℕ → Text
line_of letter n ns = line_end (fields_of (line_start letter n) ns)

-- a buffer of so many entries is listed
unfoldable pub is_small_of : ℕ → Bool
is_small_of n = ltb 0 n && leb n 64

-- the line that lists a small buffer's entries; none for any other
unfoldable pub small_of : ℕ → ℕ → List ℕ → Text
small_of letter n s = cond (is_small_of (length s)) (line_of letter n s) blank_text
