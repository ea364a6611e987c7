-- Laws of one sample, one for each case, and of the loops over samples.
-- Assumes nothing.
use Prim.Native.Nat.{ℕ, zero, suc, ◌+◌, ◌-◌, ◌≤◌, ◌<◌}
use mathlib.Core.Bool.{Bool, true, false, ◌&&◌, cond}
use mathlib.Core.List.{List, [], ◌∷◌}
use mathlib.Core.Path.{◌≡◌, refl, sym, ap, ◌∙◌}
use lib.Dec.{leb, ltb}
use lib.ListN.{length, drop, get_or, set, length-drop, length-set}
use native.Mathlib.Numerals.{add-one}
use native.Mathlib.Omega.{arith}
use borrow.Author.Tests.{le-leb, lt-leb, lt-ltb, le-ltb, leb-true}
use Rattle.base_lists.specs.Lists.{onto, filled}
use Rattle.base_lists.proofs.Fills.{filled_none, filled_step, filled_copy, filled_end}
use Rattle.pgm_header.specs.Header.{Number}
use Rattle.pgm_header.specs.Header.{Read, Misfit}
use Rattle.pgm_header.specs.Header.{is_white_of, white_of, digits_of}
use Rattle.pgm_header.proofs.Reading.{digits_upto, digits_never, white_le}
use Rattle.pgm_plain.specs.Sample.{Sample}
use Rattle.pgm_plain.specs.Scan.{Scan}
use Rattle.pgm_plain.specs.Plain.{ends_at, judged_sample, token_of, sample_of, then_scan, scan_of, then_greys, greys_from, LayAsks}

-- ---- one sample

pub judged_none : (m : ℕ) (s : List ℕ) (from v e : ℕ) → e ≤ from → Sample.Refused 24 ≡ judged_sample m s from (Read v e)
unfolding judged_sample
judged_none m s from v e l = rw (le-ltb from e l) refl

pub judged_other : (m : ℕ) (s : List ℕ) (from v e : ℕ) → from < e → ends_at s e ≡ false → Sample.Refused 24 ≡ judged_sample m s from (Read v e)
unfolding judged_sample
judged_other m s from v e l h = rw (lt-ltb from e l, h) refl

pub judged_above : (m : ℕ) (s : List ℕ) (from v e : ℕ) → from < e → ends_at s e ≡ true → m < v → Sample.Refused 26 ≡ judged_sample m s from (Read v e)
unfolding judged_sample
judged_above m s from v e l h a = rw (lt-ltb from e l, h, lt-leb v m a) refl

pub judged_grey : (m : ℕ) (s : List ℕ) (from v e : ℕ) → from < e → ends_at s e ≡ true → v ≤ m → Sample.Grey v e ≡ judged_sample m s from (Read v e)
unfolding judged_sample
judged_grey m s from v e l h a = rw (lt-ltb from e l, h, le-leb v m a) refl

pub token_read : (m : ℕ) (s : List ℕ) (from : ℕ) {v e : ℕ} {r : Sample} → Read v e ≡ digits_of 5 (drop from s) 0 from → r ≡ judged_sample m s from (Read v e) → r ≡ token_of m s from
unfolding token_of
token_read m s from q h = h ∙ ap (judged_sample m s from) q

pub sample_token : (m : ℕ) (s : List ℕ) (at : ℕ) {from : ℕ} {r : Sample} → from ≡ white_of (drop at s) at → r ≡ token_of m s from → r ≡ sample_of m s at
unfolding sample_of
sample_token m s at q h = h ∙ ap (token_of m s) q

-- a sample that is in order ends within the bytes, and is not above maxval
pub record InOrder (m : ℕ) (s : List ℕ) (v e : ℕ) : Type 0 where
  pub within : e ≤ length s
  pub most : v ≤ m

judged_order : (m : ℕ) (s : List ℕ) (from : ℕ) (x : Number) {v e : ℕ} → ((w k : ℕ) → x ≡ Read w k → k ≤ length s) → judged_sample m s from x ≡ Sample.Grey v e → InOrder m s v e
unfolding judged_sample
judged_order m s from (Read w k) {v} {e} near q = go (ltb from k && ends_at s k) (leb w m) refl q
  where
    go : (a b : Bool) → leb w m ≡ b → cond a (cond b (Sample.Grey w k) (Sample.Refused 26)) (Sample.Refused 24) ≡ Sample.Grey v e → InOrder m s v e
    go true true h q =
        let x : w ≡ v = cc in
        let y : k ≡ e = cc in
        record { within = rw (← y) (near w k refl); most = rw (← x) (leb-true w m h) }
    go true false h q = absurd (let z : ◌≡◌ {A = ℕ} 0 1 = cc in omega arith)
    go false b h q = absurd (let z : ◌≡◌ {A = ℕ} 0 1 = cc in omega arith)
judged_order m s from (Misfit n) near q = absurd (let z : ◌≡◌ {A = ℕ} 0 1 = cc in omega arith)

pub sample_order : (m : ℕ) (s : List ℕ) (at : ℕ) {v e : ℕ} → at ≤ length s → sample_of m s at ≡ Sample.Grey v e → InOrder m s v e
unfolding sample_of token_of
sample_order m s at l q =
    judged_order m s (white_of (drop at s) at) _
    (λ w k h. omega (arith, digits_upto 5 (drop (white_of (drop at s) at) s) 0 (white_of (drop at s) at) w k h, length-drop (white_of (drop at s) at) s, white_le s at l))
    q

-- a refusal of a sample is 24 or 26, so above 0
judged_number_lem : (m : ℕ) (s : List ℕ) (from : ℕ) (x : Number) {n : ℕ} → judged_sample m s from x ≡ Sample.Refused n → 0 < n
unfolding judged_sample
judged_number_lem m s from (Read w k) {n} q = go (ltb from k && ends_at s k) (leb w m) q
  where
    go : (a b : Bool) → cond a (cond b (Sample.Grey w k) (Sample.Refused 26)) (Sample.Refused 24) ≡ Sample.Refused n → 0 < n
    go true true q = absurd (let z : ◌≡◌ {A = ℕ} 0 1 = cc in omega arith)
    go true false q = let z : 26 ≡ n = cc in omega arith
    go false b q = let z : 24 ≡ n = cc in omega arith
judged_number_lem m s from (Misfit w) {n} q = let z : 24 ≡ n = cc in omega arith

pub sample_number : (m : ℕ) (s : List ℕ) (at : ℕ) {n : ℕ} → sample_of m s at ≡ Sample.Refused n → 0 < n
unfolding sample_of token_of
sample_number m s at q = judged_number_lem m s (white_of (drop at s) at) _ q

-- ---- the loop that looks

left_next : (count i : ℕ) → i < count → count - i ≡ suc (count - (i + 1))
left_next count i l = omega arith

pub scan_first : (m : ℕ) (s : List ℕ) (count p : ℕ) → scan_of count m s p ≡ scan_of (count - 0) m s p
scan_first m s count p = ap (λ k. scan_of k m s p) (let z : count ≡ count - 0 = omega arith in z)

pub scan_next : (m : ℕ) (s : List ℕ) (count i p : ℕ) {v e : ℕ} → i < count → Sample.Grey v e ≡ sample_of m s p → scan_of (count - i) m s p ≡ scan_of (count - (i + 1)) m s e
unfolding scan_of
scan_next m s count i p l q = ap (λ k. scan_of k m s p) (left_next count i l) ∙ ap (λ x. then_scan x (scan_of (count - (i + 1)) m s)) (sym q)

pub scan_refused : (m : ℕ) (s : List ℕ) (count i p : ℕ) {n : ℕ} → i < count → Sample.Refused n ≡ sample_of m s p → scan_of (count - i) m s p ≡ Scan.Refused n
unfolding scan_of
scan_refused m s count i p l q = ap (λ k. scan_of k m s p) (left_next count i l) ∙ ap (λ x. then_scan x (scan_of (count - (i + 1)) m s)) (sym q)

pub scan_end : (m : ℕ) (s : List ℕ) (count i p : ℕ) → count ≤ i → scan_of (count - i) m s p ≡ Scan.Done p
unfolding scan_of
scan_end m s count i p l = ap (λ k. scan_of k m s p) (let z : count - i ≡ 0 = omega arith in z)

-- ---- the loop that lays the greys down

pub greys_next : (m : ℕ) (s : List ℕ) (count i p : ℕ) {v e : ℕ} → i < count → Sample.Grey v e ≡ sample_of m s p → greys_from (count - i) m s p ≡ v ∷ greys_from (count - (i + 1)) m s e
unfolding greys_from
greys_next m s count i p l q = ap (λ k. greys_from k m s p) (left_next count i l) ∙ ap (λ x. then_greys x (greys_from (count - (i + 1)) m s)) (sym q)

-- n samples that are in order give n greys
pub length_greys : (n m : ℕ) (s : List ℕ) (at : ℕ) {e : ℕ} → scan_of n m s at ≡ Scan.Done e → length (greys_from n m s at) ≡ n
unfolding greys_from scan_of
length_greys zero m s at q = refl
length_greys (suc n) m s at {e} q = go (sample_of m s at) (λ k h. length_greys n m s k h) q
  where
    go : (x : Sample) → ((k : ℕ) → scan_of n m s k ≡ Scan.Done e → length (greys_from n m s k) ≡ n)
        → then_scan x (scan_of n m s) ≡ Scan.Done e → length (then_greys x (greys_from n m s)) ≡ suc n
    go (Sample.Grey v k) ih q = ap suc (ih k q)
    go (Sample.Refused r) ih q = absurd (let z : ◌≡◌ {A = ℕ} 0 1 = cc in omega arith)

-- where samples end is within the bytes
pub scan_within : (n m : ℕ) (s : List ℕ) (at : ℕ) {e : ℕ} → at ≤ length s → scan_of n m s at ≡ Scan.Done e → e ≤ length s
unfolding scan_of
scan_within zero m s at {e} l q = let z : at ≡ e = cc in omega arith
scan_within (suc n) m s at {e} l q = go (sample_of m s at) refl (λ k h r. scan_within n m s k h r) q
  where
    go : (x : Sample) → sample_of m s at ≡ x → ((k : ℕ) → k ≤ length s → scan_of n m s k ≡ Scan.Done e → e ≤ length s) → then_scan x (scan_of n m s) ≡ Scan.Done e → e ≤ length s
    go (Sample.Grey v k) h ih q = ih k (sample_order m s at l h).within q
    go (Sample.Refused r) h ih q = absurd (let z : ◌≡◌ {A = ℕ} 0 1 = cc in omega arith)

-- a refusal of the samples has a number above 0
pub scan_number : (n m : ℕ) (s : List ℕ) (at : ℕ) {k : ℕ} → scan_of n m s at ≡ Scan.Refused k → 0 < k
unfolding scan_of
scan_number zero m s at q = absurd (let z : ◌≡◌ {A = ℕ} 0 1 = cc in omega arith)
scan_number (suc n) m s at {k} q = go (sample_of m s at) refl (λ j r. scan_number n m s j r) q
  where
    go : (x : Sample) → sample_of m s at ≡ x → ((j : ℕ) → scan_of n m s j ≡ Scan.Refused k → 0 < k) → then_scan x (scan_of n m s) ≡ Scan.Refused k → 0 < k
    go (Sample.Grey v j) h ih q = ih j q
    go (Sample.Refused r) h ih q = let z : r ≡ k = cc in omega (arith, sample_number m s at h)

-- what is still to be laid down from a place on is what stands behind the first i greys
pub record Laying (count m : ℕ) (s : List ℕ) (at end : ℕ) (i p : ℕ) : Type 0 where
  pub near : p ≤ length s
  pub most : i ≤ count
  pub rest : greys_from (count - i) m s p ≡ drop i (greys_from count m s at)
  pub sound : scan_of (count - i) m s p ≡ Scan.Done end

pub laying_first : (count m : ℕ) (s : List ℕ) (at : ℕ) {end : ℕ} → at ≤ length s → scan_of count m s at ≡ Scan.Done end → Laying count m s at end 0 at
laying_first count m s at l q =
    let z : count - 0 ≡ count = omega arith in
    record { near = l; most = omega arith; rest = ap (λ k. greys_from k m s at) z; sound = ap (λ k. scan_of k m s at) z ∙ q }

pub laying_grey : {count m : ℕ} {s : List ℕ} {at end i p v e : ℕ} → Laying count m s at end i p → i < count → Sample.Grey v e ≡ sample_of m s p
    → v ≡ get_or (greys_from count m s at) i 0
laying_grey {count} {m} {s} {at} {end} {i} {p} {v} {e} x l q =
    head (greys_from count m s at) i (sym (greys_next m s count i p l q) ∙ x.rest)
  where
    head : (xs : List ℕ) (i : ℕ) {y : ℕ} {ys : List ℕ} → y ∷ ys ≡ drop i xs → y ≡ get_or xs i 0
    head [] zero h = absurd (let z : ◌≡◌ {A = ℕ} 0 1 = cc in omega arith)
    head [] (suc i) h = absurd (let z : ◌≡◌ {A = ℕ} 0 1 = cc in omega arith)
    head (z ∷ xs) zero h = cc
    head (z ∷ xs) (suc i) h = head xs i h

pub laying_next : {count m : ℕ} {s : List ℕ} {at end i p v e : ℕ} → Laying count m s at end i p → i < count → Sample.Grey v e ≡ sample_of m s p
    → Laying count m s at end (i + 1) e
laying_next {count} {m} {s} {at} {end} {i} {p} {v} {e} x l q =
    record {
      near = (sample_order m s p x.near (sym q)).within;
      most = omega arith;
      rest = tail (greys_from count m s at) i (sym (greys_next m s count i p l q) ∙ x.rest) ∙ ap (λ k. drop k (greys_from count m s at)) (sym (add-one i));
      sound = sym (scan_next m s count i p l q) ∙ x.sound;
    }
  where
    tail : (xs : List ℕ) (i : ℕ) {y : ℕ} {ys : List ℕ} → y ∷ ys ≡ drop i xs → ys ≡ drop (suc i) xs
    tail [] zero h = absurd (let z : ◌≡◌ {A = ℕ} 0 1 = cc in omega arith)
    tail [] (suc i) h = absurd (let z : ◌≡◌ {A = ℕ} 0 1 = cc in omega arith)
    tail (z ∷ xs) zero h = cc
    tail (z ∷ xs) (suc i) h = tail xs i h

-- no sample of them is refused
pub laying_never : {count m : ℕ} {s : List ℕ} {at end i p n : ℕ} → Laying count m s at end i p → i < count → Sample.Refused n ≡ sample_of m s p → ⊥
laying_never {count} {m} {s} {at} {end} {i} {p} {n} x l q =
    let h : Scan.Refused n ≡ Scan.Done end = sym (scan_refused m s count i p l q) ∙ x.sound in
    let z : ◌≡◌ {A = ℕ} 0 1 = cc in omega arith

-- the loop that lays greys down: what is still to be laid down, and what was
pub record Laid (count m : ℕ) (s : List ℕ) (at : ℕ) (d t : List ℕ) (i p : ℕ) : Type 0 where
  pub end : ℕ
  pub whole : scan_of count m s at ≡ Scan.Done end
  pub laying : Laying count m s at end i p
  pub front : t ≡ filled (λ k. get_or (greys_from count m s at) k 0) d i
  pub room : count ≤ length d
  pub long : length t ≡ length d
  pub deep : m ≤ 4095

pub laid_first : {count m : ℕ} {s : List ℕ} {at : ℕ} (d : List ℕ) → LayAsks count m s at (length d) → Laid count m s at d d 0 at
laid_first {count} {m} {s} {at} d asks =
    record {
      end = asks.end;
      whole = asks.sound;
      laying = laying_first count m s at asks.within asks.sound;
      front = filled_none _ d;
      room = asks.fitting;
      long = refl;
      deep = asks.deep;
    }

-- digits that are read are the sample, unless it is refused
judged_read : (m : ℕ) (s : List ℕ) (from v e : ℕ) {x : Sample} → x ≡ judged_sample m s from (Read v e) → ((n : ℕ) → Sample.Refused n ≡ x → ⊥) → Sample.Grey v e ≡ x
unfolding judged_sample
judged_read m s from v e {x} q never = go (ltb from e && ends_at s e) (leb v m) q
  where
    go : (a b : Bool) → x ≡ cond a (cond b (Sample.Grey v e) (Sample.Refused 26)) (Sample.Refused 24) → Sample.Grey v e ≡ x
    go true true q = sym q
    go true false q = absurd (never 26 (sym q))
    go false b q = absurd (never 24 (sym q))

-- and here no sample is
pub laid_read : {count m : ℕ} {s : List ℕ} {at : ℕ} {d t : List ℕ} {i p v e from : ℕ} → Laid count m s at d t i p → i < count → from ≡ white_of (drop p s) p
    → Read v e ≡ digits_of 5 (drop from s) 0 from → Sample.Grey v e ≡ sample_of m s p
laid_read {m = m} {s = s} {p = p} {v = v} {e = e} {from = from} x l q r =
    judged_read m s from v e (sym (sample_token m s p q (token_read m s from r refl))) (λ n. laying_never x.laying l)

-- white space ends within the bytes
pub laid_white : {count m : ℕ} {s : List ℕ} {at : ℕ} {d t : List ℕ} {i p from : ℕ} → Laid count m s at d t i p → from ≡ white_of (drop p s) p → from ≤ length s
laid_white {s = s} {p = p} x q = rw q (white_le s p x.laying.near)

pub laid_next : {count m : ℕ} {s : List ℕ} {at : ℕ} {d t : List ℕ} {i p v e : ℕ} → Laid count m s at d t i p → i < count → Sample.Grey v e ≡ sample_of m s p
    → Laid count m s at d (set t i v) (i + 1) e
laid_next {d = d} {t = t} {i = i} {v = v} x l q =
    record {
      end = x.end;
      whole = x.whole;
      laying = laying_next x.laying l q;
      front = filled_step _ d x.front (omega (arith, x.room)) (laying_grey x.laying l q);
      room = x.room;
      long = length-set t i v ∙ x.long;
      deep = x.deep;
    }

-- a grey fits 16 bits, and its place is there
pub laid_small : {count m : ℕ} {s : List ℕ} {at : ℕ} {d t : List ℕ} {i p v e : ℕ} → Laid count m s at d t i p → Sample.Grey v e ≡ sample_of m s p → v ≤ 4095
laid_small {m = m} {s = s} {p = p} x q = omega (arith, x.deep, (sample_order m s p x.laying.near (sym q)).most)

pub laid_end : {count m : ℕ} {s : List ℕ} {at : ℕ} {d t : List ℕ} {i p : ℕ} → Laid count m s at d t i p → count ≤ i → t ≡ onto d (greys_from count m s at)
laid_end {count} {m} {s} {at} {d} {t} {i} x b =
    filled_end (λ k. get_or (greys_from count m s at) k 0) d x.front x.laying.most b
    ∙ (ap (filled (λ k. get_or (greys_from count m s at) k 0) d) (sym (length_greys count m s at x.whole)) ∙ filled_copy (greys_from count m s at) d)
