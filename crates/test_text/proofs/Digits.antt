-- The cases of a byte more, and the digits that are put, over plain variables. Assumes nothing.
use Prim.Native.Nat.{ℕ, zero, suc, ◌+◌, ◌-◌, ◌/◌, ◌%◌, ◌^◌, ◌≤◌, ◌<◌, min, max}
use mathlib.Core.Bool.{Bool, true, false}
use mathlib.Core.List.{[], ◌∷◌, ◌++◌}
use mathlib.Core.Path.{◌≡◌, refl, sym, ap, ap₂, ◌∙◌}
use lib.Dec.{ltb}
use lib.ListN.{set}
use native.Mathlib.Nat.{pow-suc, one-le-pow, pow-le-pow_right}
use native.Mathlib.Omega.{arith}
use borrow.Author.Tests.{lt-ltb, le-ltb, ltb-true, ltb-false}
use Rattle.io.specs.Digits.{last_digits, hex_digit_ascii, IsDigitCount}
use Rattle.pgm_header.specs.Header.{decimal_of}
use Rattle.pgm_header.proofs.Writing.{decimal_one, decimal_more}
use Rattle.test_text.specs.declared.Text.{Text}
use Rattle.test_text.specs.Text.{put_of}

pub put_room : (t : Text) (b : ℕ) → t.end < 1368 → ◌≡◌ {A = Text} (record { bytes = set t.bytes t.end b; end = t.end + 1 }) (put_of t b)
unfolding put_of
put_room t b h = rw (lt-ltb t.end 1368 h) refl

pub put_full : (t : Text) (b : ℕ) → 1368 ≤ t.end → t ≡ put_of t b
unfolding put_of
put_full t b h = rw (le-ltb t.end 1368 h) refl

-- a decimal digit's byte
decimal_glyph : (n : ℕ) → n < 10 → hex_digit_ascii n ≡ 48 + n
decimal_glyph n h = rw (lt-ltb n 10 h) refl

-- the fewest decimal digits are those without a leading zero
pub decimal_fewest : (m k n : ℕ) → n < 10 ^ suc m → IsDigitCount 10 1 n k → last_digits 10 k n ≡ decimal_of (suc m) n
decimal_fewest m zero n l f = absurd (omega (arith, f.0))
decimal_fewest m (suc zero) n l f =
    let h : n < 10 = f.1 in
    let e : n % 10 ≡ n = omega arith in
    ap (λ d. hex_digit_ascii d ∷ []) e ∙ ap (λ b. b ∷ []) (decimal_glyph n h) ∙ sym (decimal_one m n h)
decimal_fewest m (suc (suc k)) n l f = longer m l (λ i h s. decimal_fewest i (suc k) (n / 10) h s)
  where
    d : suc (suc k) - 1 ≡ suc k
    d = omega arith

    e : suc k - 1 ≡ k
    e = omega arith

    least : 10 ^ suc k ≤ n
    least = rw d at (f.2 (omega arith))

    h : 10 ≤ n
    h = omega (arith, least, pow-suc 10 k, one-le-pow k 10 (omega arith))

    shorter : IsDigitCount 10 1 (n / 10) (suc k)
    shorter = (omega arith, omega (arith, f.1, pow-suc 10 (suc k)), λ _. rw e (omega (arith, least, pow-suc 10 k)))

    longer : (m : ℕ) → n < 10 ^ suc m → ((i : ℕ) → n / 10 < 10 ^ suc i → IsDigitCount 10 1 (n / 10) (suc k) → last_digits 10 (suc k) (n / 10) ≡ decimal_of (suc i) (n / 10)) → last_digits 10 (suc (suc k)) n ≡ decimal_of (suc m) n
    longer zero l g = absurd (omega (arith, h))
    longer (suc m) l g =
        ap₂ (λ x b. x ++ (b ∷ [])) (g m (omega (arith, pow-suc 10 (suc m))) shorter) (decimal_glyph (n % 10) (omega arith))
        ∙ sym (decimal_more (suc m) n h)

-- a number below 16 ^ count takes no more than count hexadecimal digits
pub hex_fewest : (count n r : ℕ) → 0 < count → count ≤ 16 → n < 16 ^ count → IsDigitCount 16 (min (max count 1) 16) n r → r ≡ count
hex_fewest count n r h l b f = go (ltb count r) refl
  where
    same : min (max count 1) 16 ≡ count
    same = omega arith

    go : (t : Bool) → ltb count r ≡ t → r ≡ count
    go true e =
        let more : count < r = ltb-true count r e in
        let p : 16 ^ count ≤ 16 ^ (r - 1) = pow-le-pow_right (omega arith) (omega arith) in
        let q : 16 ^ (r - 1) ≤ n = f.2 (omega arith) in
        absurd (omega arith)
    go false e = omega (arith, ltb-false count r e, f.0)
