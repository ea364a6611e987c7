-- The header of a plain file, as its reader takes it and as its writer lays it down.
-- Assumes nothing.
use Prim.Native.Nat.{ℕ, zero, suc, ◌+◌, ◌-◌, ◌≤◌, ◌<◌}
use mathlib.Core.Bool.{Bool, true, false, ◌&&◌, cond}
use mathlib.Core.List.{List, ◌∷◌, ◌++◌}
use mathlib.Core.Logic.{◌↔◌, ◌⊎◌, inl, ⊎_elim}
use mathlib.Core.Path.{◌≡◌, refl, sym, ap, ◌∙◌}
use lib.Dec.{eqb}
use lib.ListN.{length, drop, get_or, set, get_or-eq_default, length-drop}
use lib.Seq.{drop-cons}
use native.Mathlib.Omega.{arith}
use borrow.Author.Tests.{eq-eqb, ne_eqb, eqb-true}
use Rattle.base_lists.specs.Lists.{onto}
use Rattle.base_lists.proofs.Tabs.{and_left, and_right}
use Rattle.pgm_header.specs.Header.{Head}
use Rattle.pgm_header.specs.Header.{head_fields, header_of, header_bytes}
use Rattle.pgm_header.proofs.Reading.{test_within, header_fields, fields_same}
use Rattle.pgm_header.proofs.Grammar.{header_complete, header_longer, header_rest, header_sound}
use Rattle.pgm_header.proofs.Refusals.{hash_complete, hash_sound}
use Rattle.pgm_header.proofs.Laws.{refused_number, header_written}
use Rattle.pgm_plain.specs.Plain.{plain_head_of, plain_head_bytes}
use Rattle.pgm_plain.specs.Grammar.{PlainHeader, PlainHash}

-- the first byte is another
pub head_first : (s : List ℕ) → (get_or s 0 0 ≡ 80 → ⊥) → Head.Refused 20 ≡ plain_head_of s
unfolding plain_head_of
head_first s h = rw (ne_eqb (get_or s 0 0) 80 h) refl

-- the second is another
pub head_second : (s : List ℕ) → get_or s 0 0 ≡ 80 → (get_or s 1 0 ≡ 50 → ⊥) → Head.Refused 20 ≡ plain_head_of s
unfolding plain_head_of
head_second s p h = rw (eq-eqb (get_or s 0 0) 80 p, ne_eqb (get_or s 1 0) 50 h) refl

-- fewer than two bytes
pub head_short : (s : List ℕ) → length s < 2 → Head.Refused 20 ≡ plain_head_of s
unfolding plain_head_of
head_short s l =
    let z : get_or s 1 0 ≡ 0 = get_or-eq_default s 0 (omega arith) in
    rw (ne_eqb (get_or s 1 0) 50 (λ q. absurd (omega arith))) (none (eqb (get_or s 0 0) 80))
  where
    none : (b : Bool) → Head.Refused 20 ≡ cond (b && false) (header_of (80 ∷ 53 ∷ drop 2 s)) (Head.Refused 20)
    none true = refl
    none false = refl

-- both are right: the numbers behind them are read as a raw file's
pub head_fields_lem : (s : List ℕ) {r : Head} → get_or s 0 0 ≡ 80 → get_or s 1 0 ≡ 50 → r ≡ head_fields s → r ≡ plain_head_of s
unfolding plain_head_of
head_fields_lem s p q h =
    rw (eq-eqb (get_or s 0 0) 80 p, eq-eqb (get_or s 1 0) 50 q)
    (h ∙ (fields_same s (80 ∷ 53 ∷ drop 2 s) refl ∙ sym (header_fields (80 ∷ 53 ∷ drop 2 s) refl refl)))

-- ---- the grammar

-- behind the first two bytes it does not matter which they are
two_other : (k : ℕ) → 2 ≤ k → (a b c d : ℕ) (t : List ℕ) → drop k (a ∷ b ∷ t) ≡ drop k (c ∷ d ∷ t)
two_other zero l a b c d t = absurd (omega arith)
two_other (suc zero) l a b c d t = absurd (omega arith)
two_other (suc (suc k)) l a b c d t = refl

-- a plain file starts with P and 2
magic : (s : List ℕ) → (eqb (get_or s 0 0) 80 && eqb (get_or s 1 0) 50) ≡ true → s ≡ 80 ∷ 50 ∷ drop 2 s
magic s h =
    let p : get_or s 0 0 ≡ 80 = eqb-true _ _ (and_left (eqb (get_or s 0 0) 80) (eqb (get_or s 1 0) 50) h) in
    let q : get_or s 1 0 ≡ 50 = eqb-true _ _ (and_right (eqb (get_or s 0 0) 80) (eqb (get_or s 1 0) 50) h) in
    let l : 1 < length s = test_within (λ b. eqb b 50) refl s 1 (eq-eqb (get_or s 1 0) 50 q) in
    drop-cons s 0 0 (omega arith) ∙ (ap (λ u. get_or s 0 0 ∷ u) (drop-cons s 1 0 l) ∙ ap (λ (x : ℕ × ℕ). x.0 ∷ x.1 ∷ drop 2 s) (pair p q))
  where
    pair : {a b c d : ℕ} → a ≡ c → b ≡ d → ◌≡◌ {A = ℕ × ℕ} (a, b) (c, d)
    pair p q = rw (p, q) refl

-- what is answered of a file that starts so is what 01 says of the raw one
plain_raw : (behind : List ℕ) → plain_head_of (80 ∷ 50 ∷ behind) ≡ header_of (80 ∷ 53 ∷ behind)
unfolding plain_head_of
plain_raw behind = refl

-- a header of the grammar is found
pub head_complete : {s : List ℕ} {w h m : ℕ} {rest : List ℕ} → PlainHeader s w h m rest → plain_head_of s ≡ Head.Found w h m (length s - length rest)
head_complete {w = w} {h = h} {m = m} {rest = rest} g = rw g.bytes (plain_raw g.behind ∙ header_complete g.raw)

-- and what is left stands behind it
pub head_rest : {s : List ℕ} {w h m : ℕ} {rest : List ℕ} → PlainHeader s w h m rest → drop (length s - length rest) s ≡ rest
head_rest {rest = rest} g =
    let l = header_longer g.raw in
    rw g.bytes (two_other (length (80 ∷ 53 ∷ g.behind) - length rest) (omega arith) 80 50 80 53 g.behind ∙ header_rest g.raw)

-- it takes more than two of the bytes
pub head_longer : {s : List ℕ} {w h m : ℕ} {rest : List ℕ} → PlainHeader s w h m rest → length rest + 2 < length s
head_longer {rest = rest} g = rw g.bytes (header_longer g.raw)

-- the first two bytes are those of a plain file wherever the answer is not 20
head_magic : (s : List ℕ) {r : Head} → plain_head_of s ≡ r → (r ≡ Head.Refused 20 → ⊥) → (s ≡ 80 ∷ 50 ∷ drop 2 s) × (header_of (80 ∷ 53 ∷ drop 2 s) ≡ r)
unfolding plain_head_of
head_magic s {r} q n = go (eqb (get_or s 0 0) 80 && eqb (get_or s 1 0) 50) refl q
  where
    go : (b : Bool) → (eqb (get_or s 0 0) 80 && eqb (get_or s 1 0) 50) ≡ b → cond b (header_of (80 ∷ 53 ∷ drop 2 s)) (Head.Refused 20) ≡ r
        → (s ≡ 80 ∷ 50 ∷ drop 2 s) × (header_of (80 ∷ 53 ∷ drop 2 s) ≡ r)
    go true e q = (magic s e, q)
    go false e q = absurd (n (sym q))

-- a header that is found is one of the grammar, and the samples start within the bytes
pub head_sound : (s : List ℕ) {w h m at : ℕ} → plain_head_of s ≡ Head.Found w h m at → (at ≤ length s) × PlainHeader s w h m (drop at s)
head_sound s {w} {h} {m} {at} q =
    let x = head_magic s q (λ e. let z : ◌≡◌ {A = ℕ} 0 1 = cc in omega arith) in
    let t : List ℕ = 80 ∷ 53 ∷ drop 2 s in
    let g = header_sound (80 ∷ 53 ∷ drop 2 s) x.1 in
    let n : length s ≡ length (80 ∷ 50 ∷ drop 2 s) = ap length x.0 in
    let l : 2 ≤ at = omega (arith, header_longer g.1, length-drop at (80 ∷ 53 ∷ drop 2 s), g.0) in
    let e : drop at s ≡ drop at (80 ∷ 53 ∷ drop 2 s) = ap (drop at) x.0 ∙ two_other at l 80 50 80 53 (drop 2 s) in
    (omega (arith, n, g.0), record { behind = drop 2 s; bytes = x.0; raw = rw e g.1 })

-- a plain header is found exactly where the grammar has one
pub head_exactly : (s : List ℕ) (w h m at : ℕ) → (plain_head_of s ≡ Head.Found w h m at) ↔ ((at ≤ length s) × PlainHeader s w h m (drop at s))
head_exactly s w h m at = (head_sound s, back)
  where
    back : (at ≤ length s) × PlainHeader s w h m (drop at s) → plain_head_of s ≡ Head.Found w h m at
    back g = let l = g.0 in let e : length s - length (drop at s) ≡ at = omega (arith, length-drop at s) in head_complete g.1 ∙ ap (Head.Found w h m) e

-- 21 exactly where a `#` stands in it
pub plain_hash_exactly : (s : List ℕ) → (plain_head_of s ≡ Head.Refused 21) ↔ PlainHash s
plain_hash_exactly s = (there, back)
  where
    there : plain_head_of s ≡ Head.Refused 21 → PlainHash s
    there q =
        let x = head_magic s q (λ e. let z : ◌≡◌ {A = ℕ} 21 20 = cc in omega arith) in
        record { behind = drop 2 s; bytes = x.0; raw = hash_sound (80 ∷ 53 ∷ drop 2 s) x.1 }

    back : PlainHash s → plain_head_of s ≡ Head.Refused 21
    back g = rw g.bytes (plain_raw g.behind ∙ hash_complete (80 ∷ 53 ∷ g.behind) g.raw)

-- "20" and "21" are the only refusals of a plain header
pub plain_refused_number : (s : List ℕ) {n : ℕ} → plain_head_of s ≡ Head.Refused n → (n ≡ 20) ⊎ (n ≡ 21)
unfolding plain_head_of
plain_refused_number s {n} q = go (eqb (get_or s 0 0) 80 && eqb (get_or s 1 0) 50) q
  where
    go : (b : Bool) → cond b (header_of (80 ∷ 53 ∷ drop 2 s)) (Head.Refused 20) ≡ Head.Refused n → (n ≡ 20) ⊎ (n ≡ 21)
    go true q = refused_number (80 ∷ 53 ∷ drop 2 s) q
    go false q = inl cc

-- 20 exactly where neither is there
pub plain_other_exactly : (s : List ℕ) → (plain_head_of s ≡ Head.Refused 20) ↔ (((w h m : ℕ) (rest : List ℕ) → PlainHeader s w h m rest → ⊥) × (PlainHash s → ⊥))
plain_other_exactly s = (there, back)
  where
    there : plain_head_of s ≡ Head.Refused 20 → ((w h m : ℕ) (rest : List ℕ) → PlainHeader s w h m rest → ⊥) × (PlainHash s → ⊥)
    there q = (
      λ w h m rest g. let e = sym (head_complete g) ∙ q in let z : ◌≡◌ {A = ℕ} 0 1 = cc in omega arith,
      λ g. let e = sym ((plain_hash_exactly s).1 g) ∙ q in let z : ◌≡◌ {A = ℕ} 21 20 = cc in omega arith,
    )

    back : ((w h m : ℕ) (rest : List ℕ) → PlainHeader s w h m rest → ⊥) × (PlainHash s → ⊥) → plain_head_of s ≡ Head.Refused 20
    back never = go (plain_head_of s) refl
      where
        go : (x : Head) → plain_head_of s ≡ x → plain_head_of s ≡ Head.Refused 20
        go (Head.Found w h m at) q = absurd (never.0 w h m (drop at s) (head_sound s q).1)
        go (Head.Refused n) q = ⊎_elim (λ e. q ∙ ap Head.Refused e) (λ e. absurd (never.1 ((plain_hash_exactly s).0 (q ∙ ap Head.Refused e)))) (plain_refused_number s q)

-- ---- the header laid down

-- what the writer lays down is a header of the grammar
pub plain_header_written : (w h m : ℕ) (rest : List ℕ) → w < 100000 → h < 100000 → m < 100000 → PlainHeader (plain_head_bytes w h m ++ rest) w h m rest
unfolding plain_head_bytes header_bytes
plain_header_written w h m rest lw lh lm = record { behind = drop 2 (header_bytes w h m) ++ rest; bytes = refl; raw = header_written w h m rest lw lh lm }

-- as many bytes as the raw one
pub length_head : (w h m : ℕ) → length (plain_head_bytes w h m) ≡ length (header_bytes w h m)
unfolding header_bytes plain_head_bytes
length_head w h m = refl

-- the raw header with 2 in the place of 5
pub head_laid : (d : List ℕ) (w h m : ℕ) {s : List ℕ} → s ≡ onto d (header_bytes w h m) → set s 1 50 ≡ onto d (plain_head_bytes w h m)
unfolding header_bytes plain_head_bytes onto
head_laid d w h m e = ap (λ u. set u 1 50) e
