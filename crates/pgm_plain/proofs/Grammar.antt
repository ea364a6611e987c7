-- Samples are read exactly as the grammar has them.
-- Assumes nothing.
use Prim.Native.Nat.{ℕ, zero, suc, ◌+◌, ◌-◌, ◌≤◌, ◌<◌}
use mathlib.Core.Bool.{Bool, true, false, ◌&&◌, ◌||◌, cond}
use mathlib.Core.List.{List, [], ◌∷◌, ◌++◌, append-nil}
use mathlib.Core.Logic.{◌⊎◌, inl, inr}
use mathlib.Core.Path.{◌≡◌, refl, sym, ap, ◌∙◌}
use lib.Dec.{leb, ltb}
use lib.ListN.{length, drop, get_or, length-drop, length-append, drop_of_length-le}
use native.Mathlib.Omega.{arith}
use borrow.Author.Tests.{leb-true, le-leb, ltb-true}
use Rattle.base_lists.specs.Lists.{all}
use Rattle.pgm_header.specs.Header.{Number}
use Rattle.pgm_header.specs.Header.{Read, Misfit}
use Rattle.pgm_header.specs.Header.{is_white_of, is_digit_of, white_of, digits_of}
use Rattle.pgm_header.proofs.Reading.{digits_upto, digit_not_white}
use Rattle.pgm_header.proofs.Grammar.{byte_at, drop_behind, all_first, white_run, white_not_digit, digits_run, white_taken, digits_taken}
use Rattle.pgm_plain.specs.Sample.{Sample}
use Rattle.pgm_plain.specs.Scan.{Scan}
use Rattle.pgm_plain.specs.Plain.{ends_at, judged_sample, token_of, sample_of, then_scan, scan_of, then_greys, greys_from}
use Rattle.pgm_plain.specs.Grammar.{SampleIn, Samples}
use Rattle.pgm_plain.proofs.Samples.{judged_grey, token_read, sample_token}

-- ---- where a sample may end

none_white : is_white_of 0 ≡ false
unfolding is_white_of
none_white = refl

none_digit : is_digit_of 0 ≡ false
unfolding is_digit_of
none_digit = refl

-- "up to white space or the end"
ends_tells : (s : List ℕ) (e : ℕ) → ends_at s e ≡ true → (drop e s ≡ []) ⊎ (is_white_of (get_or (drop e s) 0 0) ≡ true)
unfolding ends_at
ends_tells s e h = go (leb (length s) e) refl h
  where
    go : (b : Bool) → leb (length s) e ≡ b → (b || is_white_of (get_or s e 0)) ≡ true → (drop e s ≡ []) ⊎ (is_white_of (get_or (drop e s) 0 0) ≡ true)
    go true q h = inl (drop_of_length-le s (leb-true (length s) e q))
    go false q h = inr (sym (ap is_white_of (byte_at s e refl)) ∙ h)

ends_so : (s : List ℕ) (e : ℕ) {rest : List ℕ} → drop e s ≡ rest → (rest ≡ []) ⊎ (is_white_of (get_or rest 0 0) ≡ true) → ends_at s e ≡ true
unfolding ends_at
ends_so s e q (inl z) =
    let n : length s - e ≡ 0 = sym (length-drop e s) ∙ ap length (q ∙ z) in
    rw (le-leb (length s) e (omega arith)) refl
ends_so s e q (inr h) = rw (byte_at s e q, h) (or_true (leb (length s) e))
  where
    or_true : (b : Bool) → (b || true) ≡ true
    or_true true = refl
    or_true false = refl

-- behind a sample stands no digit
ends_digit : {rest : List ℕ} → (rest ≡ []) ⊎ (is_white_of (get_or rest 0 0) ≡ true) → is_digit_of (get_or rest 0 0) ≡ false
ends_digit (inl z) = rw z none_digit
ends_digit {rest} (inr h) = white_not_digit (get_or rest 0 0) h

-- ---- one sample

-- a sample that is read is one of the grammar
pub sample_sound : (m : ℕ) (s : List ℕ) (at : ℕ) {v e : ℕ} → sample_of m s at ≡ Sample.Grey v e → SampleIn m (drop at s) v (drop e s)
unfolding sample_of token_of judged_sample
sample_sound m s at {v} {e} q = go (digits_of 5 (drop from s) 0 from) refl q
  where
    from : ℕ
    from = white_of (drop at s) at

    made : (w k : ℕ) → digits_of 5 (drop from s) 0 from ≡ Read w k → from < k → ends_at s k ≡ true → w ≤ m → SampleIn m (drop at s) w (drop k s)
    made w k h l n b =
        let x = white_taken s (drop at s) at refl in
        let d = digits_taken s 5 (drop from s) 0 from w k refl h in
        let c : length s - from ≡ length d.0 + (length s - k) =
        sym (length-drop from s) ∙ (ap length d.1.run.bytes ∙ (length-append d.0 (drop k s) ∙ ap (λ j. length d.0 + j) (length-drop k s))) in
        let u : k ≤ from + (length s - from) = rw length-drop at (digits_upto 5 (drop from s) 0 from w k h) in
        record {
          white = x.0;
          digits = d.0;
          bytes = x.1.bytes ∙ ap (λ t. x.0 ++ t) d.1.run.bytes;
          all_white = x.1.passes;
          some_digits = omega (arith, c, u, l);
          few_digits = d.1.few;
          all_digits = d.1.run.passes;
          value = d.1.value;
          most = b;
          ends = ends_tells s k n;
        }

    both : (w k : ℕ) → digits_of 5 (drop from s) 0 from ≡ Read w k → (a b c : Bool) → ltb from k ≡ a → ends_at s k ≡ b → leb w m ≡ c
        → cond (a && b) (cond c (Sample.Grey w k) (Sample.Refused 26)) (Sample.Refused 24) ≡ Sample.Grey v e → SampleIn m (drop at s) v (drop e s)
    both w k h true true true p n b q =
        let x : w ≡ v = cc in
        let y : k ≡ e = cc in
        rw (← x, ← y) (made w k h (ltb-true from k p) n (leb-true w m b))
    both w k h true true false p n b q = absurd (let z : ◌≡◌ {A = ℕ} 0 1 = cc in omega arith)
    both w k h true false c p n b q = absurd (let z : ◌≡◌ {A = ℕ} 0 1 = cc in omega arith)
    both w k h false b c p n r q = absurd (let z : ◌≡◌ {A = ℕ} 0 1 = cc in omega arith)

    go : (x : Number) → digits_of 5 (drop from s) 0 from ≡ x → judged_sample m s from x ≡ Sample.Grey v e → SampleIn m (drop at s) v (drop e s)
    go (Read w k) h q = both w k h (ltb from k) (ends_at s k) (leb w m) refl refl refl q
    go (Misfit n) h q = absurd (let z : ◌≡◌ {A = ℕ} 0 1 = cc in omega arith)

-- a sample of the grammar is read, up to what is left behind it
pub sample_complete : (m : ℕ) (s : List ℕ) (at : ℕ) {v : ℕ} {rest : List ℕ} → SampleIn m (drop at s) v rest
    → (e : ℕ) × (Sample.Grey v e ≡ sample_of m s at) × (drop e s ≡ rest)
sample_complete m s at {v} {rest} g = (end, sample_token m s at skip (token_read m s from digits grey), behind)
  where
    from : ℕ
    from = at + length g.white

    end : ℕ
    end = from + length g.digits

    there : drop from s ≡ g.digits ++ rest
    there = drop_behind s at g.white g.bytes

    behind : drop end s ≡ rest
    behind = drop_behind s from g.digits there

    first : is_digit_of (get_or (g.digits ++ rest) 0 0) ≡ true
    first = all_first is_digit_of g.digits rest g.some_digits g.all_digits

    skip : from ≡ white_of (drop at s) at
    skip = sym (ap (λ u. white_of u at) g.bytes ∙ white_run g.white (g.digits ++ rest) at g.all_white (digit_not_white _ first))

    digits : Read v end ≡ digits_of 5 (drop from s) 0 from
    digits =
        sym
        (ap (λ u. digits_of 5 u 0 from) there
        ∙ (digits_run g.digits rest 5 0 from g.all_digits g.few_digits (ends_digit g.ends) ∙ ap (λ x. Read x end) g.value))

    grey : Sample.Grey v end ≡ judged_sample m s from (Read v end)
    grey = judged_grey m s from v end (omega (arith, g.some_digits)) (ends_so s end behind g.ends) g.most

-- ---- all samples

-- what is read is of the grammar, where nothing but white space stands behind it
pub samples_sound : (n m : ℕ) (s : List ℕ) (at : ℕ) {e : ℕ} → scan_of n m s at ≡ Scan.Done e → all is_white_of (drop e s) ≡ true → Samples m (drop at s) (greys_from n m s at)
unfolding scan_of greys_from
samples_sound zero m s at {e} q a = let z : at ≡ e = cc in rw z a
samples_sound (suc n) m s at {e} q a = go (sample_of m s at) refl (λ k h. samples_sound n m s k h a) q
  where
    go : (x : Sample) → sample_of m s at ≡ x → ((k : ℕ) → scan_of n m s k ≡ Scan.Done e → Samples m (drop k s) (greys_from n m s k))
        → then_scan x (scan_of n m s) ≡ Scan.Done e → Samples m (drop at s) (then_greys x (greys_from n m s))
    go (Sample.Grey v k) h ih q = (drop k s, sample_sound m s at h, ih k q)
    go (Sample.Refused r) h ih q = absurd (let z : ◌≡◌ {A = ℕ} 0 1 = cc in omega arith)

-- samples that were read: where they end, their greys, and that nothing but white space stands there
pub record ReadAll (m : ℕ) (s : List ℕ) (at : ℕ) (vs : List ℕ) : Type 0 where
  pub end : ℕ
  pub scanned : scan_of (length vs) m s at ≡ Scan.Done end
  pub greys : greys_from (length vs) m s at ≡ vs
  pub tail : all is_white_of (drop end s) ≡ true

-- what the grammar has is read
pub samples_complete : (m : ℕ) (s vs : List ℕ) (at : ℕ) → Samples m (drop at s) vs → ReadAll m s at vs
unfolding scan_of greys_from
samples_complete m s [] at g = record { end = at; scanned = refl; greys = refl; tail = g }
samples_complete m s (v ∷ vs) at g = step (sample_complete m s at g.1) (λ k q. samples_complete m s vs k (rw q g.2))
  where
    step : (e : ℕ) × (Sample.Grey v e ≡ sample_of m s at) × (drop e s ≡ g.0) → ((k : ℕ) → drop k s ≡ g.0 → ReadAll m s k vs) → ReadAll m s at (v ∷ vs)
    step x rest =
        let more = rest x.0 x.2 in
        record {
          end = more.end;
          scanned = ap (λ y. then_scan y (scan_of (length vs) m s)) (sym x.1) ∙ more.scanned;
          greys = ap (λ y. then_greys y (greys_from (length vs) m s)) (sym x.1) ∙ ap (λ u. v ∷ u) more.greys;
          tail = more.tail;
        }

-- none of the samples is above maxval
pub samples_most : (m : ℕ) (vs bs : List ℕ) → Samples m bs vs → all (λ v. leb v m) vs ≡ true
unfolding all
samples_most m [] bs g = refl
samples_most m (v ∷ vs) bs g = rw (le-leb v m g.1.most) (samples_most m vs g.0 g.2)

-- ---- what stands behind the last sample

-- white space that is passed over up to the end is all there is
pub tail_sound : (s : List ℕ) (e : ℕ) → white_of (drop e s) e ≡ length s → all is_white_of (drop e s) ≡ true
tail_sound s e q =
    let x = white_taken s (drop e s) e refl in
    let z : drop (white_of (drop e s) e) s ≡ [] = drop_of_length-le s {i = white_of (drop e s) e} (omega (arith, q)) in
    rw (x.1.bytes, z, append-nil) x.1.passes

pub tail_complete : (s : List ℕ) (e : ℕ) → e ≤ length s → all is_white_of (drop e s) ≡ true → length s ≡ white_of (drop e s) e
tail_complete s e l a =
    sym (ap (λ u. white_of u e) (sym (append-nil (drop e s))) ∙ (white_run (drop e s) [] e a none_white ∙ omega (arith, length-drop e s)))
