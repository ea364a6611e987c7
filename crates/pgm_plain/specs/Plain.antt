-- Order 9: the samples of a plain PGM: "numbers parted by white space, no comments, nothing but white space behind the last sample".
-- A file is a list of bytes, m is maxval.
-- Assumes nothing.
use Rattle.std.specs.Prelude.{ℕ, zero, suc, ◌≤◌, Bool, ◌&&◌, ◌||◌, cond, List, [], ◌∷◌, ◌++◌, ◌≡◌, leb, ltb, eqb, length, drop, get_or}
use Rattle.base_lists.specs.Lists.{joined}
use Rattle.pgm_header.specs.Header.{Head}
use Rattle.pgm_header.specs.Header.{Number}
use Rattle.pgm_header.specs.Header.{Read, Misfit}
use Rattle.pgm_header.specs.Header.{is_white_of, white_of, digits_of, header_of, decimal_of, header_bytes}
use Rattle.pgm_plain.specs.Sample.{Sample}
use Rattle.pgm_plain.specs.Scan.{Scan}

-- ---- the header

-- "20 (with P2) to 23 as 01 does": what 01 says of the raw file with 5 in the place of 2
unfoldable pub plain_head_of : List ℕ → Head
plain_head_of s = cond (eqb (get_or s 0 0) 80 && eqb (get_or s 1 0) 50) (header_of (80 ∷ 53 ∷ drop 2 s)) (Head.Refused 20)

-- "our three header lines", with 2 in the place of 5
unfoldable pub plain_head_bytes : ℕ → ℕ → ℕ → List ℕ
plain_head_bytes w h m = 80 ∷ 50 ∷ drop 2 (header_bytes w h m)

-- ---- one sample

-- "all bytes up to white space or the end": a sample may end at the place e
unfoldable pub ends_at : List ℕ → ℕ → Bool
ends_at s e = leb (length s) e || is_white_of (get_or s e 0)

-- "missing or not 1 to 5 digits (24) or above maxval (26)": digits that were read from a place on, as a sample
unfoldable pub judged_sample : ℕ → List ℕ → ℕ → Number → Sample
judged_sample m s from (Read v e) = cond (ltb from e && ends_at s e) (cond (leb v m) (Sample.Grey v e) (Sample.Refused 26)) (Sample.Refused 24)
judged_sample m s from (Misfit n) = Sample.Refused 24

-- the sample at the place `from`, behind white space
unfoldable pub token_of : ℕ → List ℕ → ℕ → Sample
token_of m s from = judged_sample m s from (digits_of 5 (drop from s) 0 from)

-- the next sample from a place on: its grey and the place behind it, or its refusal
unfoldable pub sample_of : ℕ → List ℕ → ℕ → Sample
sample_of m s at = token_of m s (white_of (drop at s) at)

-- ---- all samples

-- what stands behind a sample
abbrev pub then_scan : Sample → (ℕ → Scan) → Scan
then_scan (Sample.Grey v e) k = k e
then_scan (Sample.Refused n) k = Scan.Refused n

-- n samples from a place on: where they end, or the refusal "at the first sample" that is not in order
unfoldable pub scan_of : (n m : ℕ) (s : List ℕ) (at : ℕ) → Scan
scan_of zero m s at = Scan.Done at
scan_of (suc n) m s at = then_scan (sample_of m s at) (scan_of n m s)

-- a sample's grey, and those behind it
abbrev pub then_greys : Sample → (ℕ → List ℕ) → List ℕ
then_greys (Sample.Grey v e) k = v ∷ k e
then_greys (Sample.Refused n) k = []

-- the greys of n samples
unfoldable pub greys_from : (n m : ℕ) (s : List ℕ) (at : ℕ) → List ℕ
greys_from zero m s at = []
greys_from (suc n) m s at = then_greys (sample_of m s at) (greys_from n m s)

-- ---- the writer

-- "one sample and LF per line"
abbrev pub sample_line : ℕ → List ℕ
sample_line v = decimal_of 5 v ++ (10 ∷ [])

-- the samples of a film, a line each
unfoldable pub lines_of : List ℕ → List ℕ
lines_of pic = joined (length pic) (λ i. sample_line (get_or pic i 0))

-- ---- what the functions ask

-- samples that are all in order, greys that fit 16 bits, and room for them
pub record LayAsks (count m : ℕ) (s : List ℕ) (at room : ℕ) : Type 0 where
  pub within : at ≤ length s
  pub deep : m ≤ 4095
  pub end : ℕ
  pub sound : scan_of count m s at ≡ Scan.Done end
  pub fitting : count ≤ room
