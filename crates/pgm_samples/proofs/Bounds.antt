-- Laws of `none_above_of`: what it says of each grey, and what a scan by the greatest sample has found so far.
-- Assumes nothing.
use Prim.Native.Nat.{ℕ, ◌+◌, ◌≤◌, ◌<◌, min, max}
use mathlib.Core.Bool.{Bool, true, false, ◌&&◌}
use mathlib.Core.List.{List, [], ◌∷◌}
use mathlib.Core.Path.{◌≡◌, refl, sym, ap, ◌∙◌}
use lib.Dec.{leb, leb-zero}
use lib.ListN.{length, take, get_or}
use native.Mathlib.Omega.{arith}
use borrow.Author.Tests.{le-leb, leb-true, leb-false}
use Rattle.base_lists.specs.Lists.{all}
use Rattle.base_lists.proofs.Tabs.{length_tab, get_or_tab}
use Rattle.base_lists.proofs.Alls.{all_at, all_from}
use Rattle.base_range.specs.Scan.{within}
use Rattle.base_range.proofs.Spans.{Spans, spans_next, spans_end}
use Rattle.pgm_samples.specs.Samples.{is_wide, sample_at, unpacked, none_above_of, PackAsks}

-- ---- of a list of greys

-- none is above maxval where all lie in 0 to maxval
pub none_within : (maxval : ℕ) (vs : List ℕ) → none_above_of maxval vs ≡ all (within 0 maxval) vs
unfolding none_above_of all within
none_within maxval [] = refl
none_within maxval (x ∷ xs) = rw (leb-zero x) (ap (λ b. leb x maxval && b) (none_within maxval xs))

-- no entry is above
pub bound_at : (maxval : ℕ) (vs : List ℕ) → none_above_of maxval vs ≡ true → (i : ℕ) → i < length vs → get_or vs i 0 ≤ maxval
unfolding none_above_of
bound_at maxval vs h i l = leb-true (get_or vs i 0) maxval (all_at (λ v. leb v maxval) vs h i 0 l)

-- no entry is above, so none is
pub bound_from : (maxval : ℕ) (vs : List ℕ) → ((i : ℕ) → i < length vs → get_or vs i 0 ≤ maxval) → none_above_of maxval vs ≡ true
unfolding none_above_of
bound_from maxval vs h = all_from (λ v. leb v maxval) vs 0 (λ i l. le-leb (get_or vs i 0) maxval (h i l))

-- greys that take one byte each may be laid down as greys of at most 255
pub narrow_asks : (maxval : ℕ) (vs : List ℕ) {len : ℕ} → is_wide maxval ≡ false → PackAsks maxval vs len → PackAsks 255 vs len
unfolding is_wide
narrow_asks maxval vs n h =
    let m : maxval < 256 = leb-false 256 maxval n in
    record { bounded = bound_from 255 vs (λ i l. omega (arith, bound_at maxval vs h.bounded i l)); room = rw n at h.room }

-- ---- of the samples of a raster

-- a raster of n samples gives n greys
pub length_unpacked : (two : Bool) (bs : List ℕ) (n : ℕ) → length (unpacked two bs n) ≡ n
unfolding unpacked
length_unpacked two bs n = length_tab n (sample_at two bs)

-- grey i is sample i
pub get_or_unpacked : (two : Bool) (bs : List ℕ) (n i : ℕ) → i < n → get_or (unpacked two bs n) i 0 ≡ sample_at two bs i
unfolding unpacked
get_or_unpacked two bs n i l = get_or_tab n (sample_at two bs) i 0 l

-- no byte is above 255
pub bytes_bounded : (maxval : ℕ) (bs : List ℕ) (n : ℕ) → ((i : ℕ) → get_or bs i 0 ≤ 255) → 255 ≤ maxval → none_above_of maxval (unpacked false bs n) ≡ true
bytes_bounded maxval bs n h m =
    bound_from maxval (unpacked false bs n) (λ i l. omega (arith, length_unpacked false bs n, h i, get_or_unpacked false bs n i (omega (arith, length_unpacked false bs n))))

-- a scan by the greatest sample: of the first i samples none is above maxval where w, the greatest of them, is not
pub record Scanned (maxval : ℕ) (two : Bool) (bs : List ℕ) (n i w : ℕ) : Type 0 where
  pub spans : Spans 0 maxval (take i (unpacked two bs n)) 0 w

-- no sample was passed yet
pub scanned_first : {maxval : ℕ} {two : Bool} {bs : List ℕ} {n : ℕ} → Scanned maxval two bs n 0 0
unfolding all
scanned_first {maxval} = record { spans = record { told = rw (leb-zero maxval) refl } }

-- one sample more was passed
pub scanned_next : {maxval : ℕ} {two : Bool} {bs : List ℕ} {n i v w : ℕ} → Scanned maxval two bs n i w → i < n → v ≡ sample_at two bs i → Scanned maxval two bs n (i + 1) (max w v)
scanned_next {maxval} {two} {bs} {n} {i} {v} h l e =
    let q : min 0 v ≡ 0 = omega arith in
    let g : get_or (unpacked two bs n) i 0 ≡ v = get_or_unpacked two bs n i l ∙ sym e in
    record { spans = rw (g, q) at (spans_next 0 maxval (unpacked two bs n) {i = i} h.spans (rw length_unpacked l)) }

-- all samples were passed
pub scanned_end : {maxval : ℕ} {two : Bool} {bs : List ℕ} {n i w : ℕ} → Scanned maxval two bs n i w → n ≤ i → leb w maxval ≡ none_above_of maxval (unpacked two bs n)
scanned_end {maxval} {two} {bs} {n} {i} h l =
    spans_end 0 maxval (unpacked two bs n) {i = i} h.spans (rw length_unpacked l) (omega arith) ∙ sym (none_within maxval (unpacked two bs n))
