-- The bit pattern of an allowed factor: its exponent's field is 127 to 137, and the number that the code makes of the fields,
-- `scaled`, is the factor times 2 ^ 23, exactly. Assumes nothing.
use Prim.Native.Nat.{ℕ, suc, ◌+◌, ◌-◌, ◌*◌, ◌/◌, ◌%◌, ◌^◌, ◌≤◌, ◌<◌, max}
use native.Mathlib.Nat.{le_trans, le_of_eq, lt_of_lt_of_le, lt_of_le_of_lt, lt_of_not-le, not-le_of_lt, mod-eq_of_lt, mul_assoc, mul_comm, mul_left_comm, mul_right_comm, mul-pos, mul-le-mul, mul-le-mul_right, mul-lt-mul_of_pos_right, le_of_mul-le-mul_right, eq_of_mul-eq-mul_right, le-div_iff_mul-le, div-lt_iff_lt-mul}
use native.Mathlib.Omega.{arith}
use mathlib.Core.Bool.{Bool, true, false, not, cond, true≢false}
use mathlib.Core.Path.{◌≡◌, refl, sym, ap, ◌∙◌, subst}
use lib.Dec.{T, leb, eqb, leb→le, eqb→eq, not_T, lit<, lit≤}
use lib.IntN.{ℤ}
use lib.Pow.{pow-add, pow_pos, pow_mono}
use lib.Ieee.{Float, nan, inf, fin, up, down, binary32, fits, is_nan, size, odd, of_fields, of_bits, to_bits}
use lib.Ieee.Bits.{is_false, cond_no, of_bits-to_bits, to_bits-lt}
use lib.Ieee.Digits.{size-lt, size-le, size_reaches}
use lib.Ieee.Exact.{HasValue, odd_sign}
use lib.Ieee.Fits.{down_pos, kept-lt}
use lib.Ieee.Nearest.{div_same}
use Rattle.tile_limit.specs.Limit.{allowed, floored_of}
use Rattle.tile_limit.proofs.Laws.{Allowed, allowed_told}

-- ---- what a pattern of a positive normal number stands for
of_bits_is : (b : ℕ) → of_bits binary32 b ≡ of_fields binary32 (leb 2147483648 b) (b % 2147483648 / 8388608) (b % 8388608)
unfolding of_bits
of_bits_is b = refl

differ : (x : ℕ) → suc x < 255 → suc x ≡ 255 → ⊥
differ x h e = omega arith

under_ones : (t x : ℕ) → suc x < 255 → of_fields binary32 false (suc x) t ≡ odd 24 false (8388608 + t) x 149
unfolding of_fields
under_ones t x h = cond_no (eqb (suc x) 255) (cond (eqb t 0) (inf false) nan) (odd 24 false (8388608 + t) x 149) (not_T (eqb (suc x) 255) (λ (u : T (eqb (suc x) 255)). differ x h (eqb→eq (suc x) 255 u)))

small : (b : ℕ) → b < 2139095040 → b < 2147483648
small b h = omega arith

field : (b : ℕ) → 8388608 ≤ b → suc (b / 8388608 - 1) ≡ b / 8388608
field b h = omega arith

field_lt : (b : ℕ) → 8388608 ≤ b → b < 2139095040 → suc (b / 8388608 - 1) < 255
field_lt b h k = omega arith

-- 2139095040 is 255 * 2 ^ 23, the pattern of the infinity
normal : (b : ℕ) → 8388608 ≤ b → b < 2139095040 → of_bits binary32 b ≡ odd 24 false (8388608 + b % 8388608) (b / 8388608 - 1) 149
normal b h k =
    of_bits_is b
    ∙ ap (λ (s : Bool). of_fields binary32 s (b % 2147483648 / 8388608) (b % 8388608)) (is_false (leb 2147483648 b) (not_T (leb 2147483648 b) (λ (u : T (leb 2147483648 b)). not-le_of_lt (small b k) (leb→le 2147483648 b u))))
    ∙ ap (λ (x : ℕ). of_fields binary32 false (x / 8388608) (b % 8388608)) (mod-eq_of_lt (small b k))
    ∙ ap (λ (x : ℕ). of_fields binary32 false x (b % 8388608)) (sym (field b h))
    ∙ under_ones (b % 8388608) (b / 8388608 - 1) (field_lt b h k)

-- the number in units of 2 ^ -149
in_units : (b : ℕ) → 8388608 ≤ b → b < 2139095040 → HasValue (of_bits binary32 b) false ((8388608 + b % 8388608) * 2 ^ (b / 8388608 - 1)) (2 ^ 149)
in_units b h k = subst (λ (x : Float). HasValue x false ((8388608 + b % 8388608) * 2 ^ (b / 8388608 - 1)) (2 ^ 149)) (sym (normal b h k)) (odd_sign 24 false (8388608 + b % 8388608) (b / 8388608 - 1) 149)

-- ---- how many digits a number from 2 ^ 149 up to 2 ^ 160 has
long : (n : ℕ) → 2 ^ 149 ≤ n → 150 ≤ size n
long n h = lt_of_not-le (λ (g : size n ≤ 149). not-le_of_lt (lt_of_lt_of_le (size-lt n) (pow_mono g)) h)

spare : (z : ℕ) → 150 ≤ z → 23 + (z - 24) < z
spare z h = omega arith

-- the digits that the pattern keeps have the leading one
kept_ge : (n : ℕ) → 150 ≤ size n → 8388608 ≤ n / 2 ^ (size n - 24)
kept_ge n h =
    (le-div_iff_mul-le (pow_pos (size n - 24))).1 (le_trans (le_of_eq (sym (pow-add 2 23 (size n - 24)))) (size_reaches n (23 + (size n - 24)) (spare (size n) h)))

-- a pattern between those of 1.0 and 2048.0
abbrev Between : ℕ → Type 0
Between b = (1065353216 ≤ b) × (b < 1157627904)

joined : (z q : ℕ) → 150 ≤ z → z ≤ 160 → 8388608 ≤ q → q < 16777216 → Between (0 + (z - 24) * 8388608 + q)
joined z q a b c d = (omega arith, omega arith)

written : (n : ℕ) → 2 ^ 149 ≤ n → n < 2 ^ 160 → Between (0 + (size n - 24) * 8388608 + n / 2 ^ (size n - 24))
written n h k = joined (size n) (n / 2 ^ (size n - 24)) (long n h) (size-le n 160 k) (kept_ge n (long n h)) (kept-lt 24 n)

bits_between : (m : ℕ) (e : ℤ) → Allowed m e → Between (to_bits binary32 (fin false m e))
unfolding to_bits
bits_between m e h = written (m * up e * 2 ^ 149 / down e)
    ((le-div_iff_mul-le (down_pos e)).1 (le_trans (le_of_eq (mul_comm (2 ^ 149) (down e))) (mul-le-mul_right (2 ^ 149) h.least)))
    ((div-lt_iff_lt-mul (down_pos e)).1 (lt_of_le_of_lt (mul-le-mul_right (2 ^ 149) h.most) (under (down e) (down_pos e))))
  where
    under : (d : ℕ) → 0 < d → 1024 * d * 2 ^ 149 < 2 ^ 160 * d
    under d p = lt_of_le_of_lt (le_of_eq (mul_right_comm 1024 d (2 ^ 149))) (mul-lt-mul_of_pos_right (lit< tt) p)

-- ---- the number that the code makes of a pattern's fields
abbrev pub scaled : ℕ → ℕ
scaled b = (b % 8388608 + 8388608) * 2 ^ (b / 8388608 - 127)

-- what the code knows of the pattern of an allowed m * 2 ^ e
record Told (m : ℕ) (e : ℤ) (b : ℕ) : Type 0 where
  least : 127 ≤ b / 8388608
  most : b / 8388608 ≤ 137
  value : m * up e * 8388608 ≡ scaled b * down e
  under : scaled b ≤ 8589934592

shorter : (x : ℕ) → 127 ≤ x → x - 1 ≡ x - 127 + 126
shorter x h = omega arith

-- 2 ^ 149 is 2 ^ 23 times 2 ^ 126
by_scale : (b : ℕ) → 127 ≤ b / 8388608 → (8388608 + b % 8388608) * 2 ^ (b / 8388608 - 1) ≡ scaled b * 2 ^ 126
by_scale b h =
    ap (λ (x : ℕ). (8388608 + b % 8388608) * 2 ^ x) (shorter (b / 8388608) h)
    ∙ ap (λ (x : ℕ). (8388608 + b % 8388608) * x) (pow-add 2 (b / 8388608 - 127) 126)
    ∙ sym (mul_assoc (8388608 + b % 8388608) (2 ^ (b / 8388608 - 127)) (2 ^ 126))
    ∙ ap (λ (x : ℕ). x * 2 ^ (b / 8388608 - 127) * 2 ^ 126) (swap (b % 8388608))
  where
    swap : (x : ℕ) → 8388608 + x ≡ x + 8388608
    swap x = omega arith

value_of : (a d s : ℕ) → a * 2 ^ 149 ≡ s * 2 ^ 126 * d → a * 8388608 ≡ s * d
value_of a d s h = eq_of_mul-eq-mul_right (2 ^ 126) (pow_pos 126) (a * 8388608) (s * d) (mul_assoc a 8388608 (2 ^ 126) ∙ h ∙ mul_right_comm s (2 ^ 126) d)

under_of : (a d s : ℕ) → 0 < d → a * 8388608 ≡ s * d → a ≤ 1024 * d → s ≤ 8589934592
under_of a d s p h k = le_of_mul-le-mul_right (le_trans (le_of_eq (sym h)) (le_trans (mul-le-mul_right 8388608 k) (le_of_eq (turn d)))) p
  where
    turn : (x : ℕ) → 1024 * x * 8388608 ≡ 8589934592 * x
    turn x = omega arith

told : (m : ℕ) (e : ℤ) → T (fits binary32 (fin false m e)) → Allowed m e → Told m e (to_bits binary32 (fin false m e))
told m e t h = make (to_bits binary32 (fin false m e)) (bits_between m e h) (of_bits-to_bits binary32 (fin false m e) t)
  where
    least_of_lem : (b : ℕ) → Between b → 127 ≤ b / 8388608
    least_of_lem b r = omega arith

    most_of : (b : ℕ) → Between b → b / 8388608 ≤ 137
    most_of b r = omega arith

    low_of : (b : ℕ) → Between b → 8388608 ≤ b
    low_of b r = omega arith

    high_of : (b : ℕ) → Between b → b < 2139095040
    high_of b r = omega arith

    make : (b : ℕ) → Between b → of_bits binary32 b ≡ fin false m e → Told m e b
    make b r p =
        let u : HasValue (fin false m e) false ((8388608 + b % 8388608) * 2 ^ (b / 8388608 - 1)) (2 ^ 149) =
        subst (λ (x : Float). HasValue x false ((8388608 + b % 8388608) * 2 ^ (b / 8388608 - 1)) (2 ^ 149)) p (in_units b (low_of b r) (high_of b r)) in
        let v : m * up e * 8388608 ≡ scaled b * down e = value_of (m * up e) (down e) (scaled b) (u.1 ∙ ap (λ (x : ℕ). x * down e) (by_scale b (least_of_lem b r))) in
        record { least = least_of_lem b r; most = most_of b r; value = v; under = under_of (m * up e) (down e) (scaled b) (down_pos e) v h.most }

-- ---- the same of an allowed factor

-- an allowed factor is no NaN
pub not_nan : (f : Float) → allowed f ≡ true → T (not (is_nan f))
unfolding allowed is_nan
not_nan nan h = true≢false (sym h)
not_nan (inf s) h = tt
not_nan (fin s m e) h = tt

-- the exponent's field of an allowed factor is that of 1.0 at least
pub field_least : (f : Float) → T (fits binary32 f) → allowed f ≡ true → 127 ≤ to_bits binary32 f / 8388608
unfolding allowed
field_least nan t h = absurd (true≢false (sym h))
field_least (inf s) t h = absurd (true≢false (sym h))
field_least (fin true m e) t h = absurd (true≢false (sym h))
field_least (fin false m e) t h = (told m e t (allowed_told m e h)).least

-- the exponent's field of an allowed factor is that of 1024.0 at most
pub field_most : (f : Float) → T (fits binary32 f) → allowed f ≡ true → to_bits binary32 f / 8388608 ≤ 137
unfolding allowed
field_most nan t h = absurd (true≢false (sym h))
field_most (inf s) t h = absurd (true≢false (sym h))
field_most (fin true m e) t h = absurd (true≢false (sym h))
field_most (fin false m e) t h = (told m e t (allowed_told m e h)).most

-- what the code makes of the fields is at most 2 ^ 33, as 1024 times 2 ^ 23 is
pub scaled_most : (f : Float) → T (fits binary32 f) → allowed f ≡ true → scaled (to_bits binary32 f) ≤ 8589934592
unfolding allowed
scaled_most nan t h = absurd (true≢false (sym h))
scaled_most (inf s) t h = absurd (true≢false (sym h))
scaled_most (fin true m e) t h = absurd (true≢false (sym h))
scaled_most (fin false m e) t h = (told m e t (allowed_told m e h)).under

-- equal fractions have the same floor
floors : (a d s n b : ℕ) → 0 < d → 0 < b → a * 8388608 ≡ s * d → a * n / (d * b) ≡ s * n / (b * 8388608)
floors a d s n b D B h =
    div_same (a * n) (d * b) (s * n) (b * 8388608) (mul-pos D B) (mul-pos B (lit< tt))
    (simp (mul_assoc, mul_comm, mul_left_comm) (simp (mul_assoc, mul_comm) at (ap (λ (x : ℕ). x * (n * b)) h)))

-- the limit from the pattern
pub floored_bits : (f : Float) (n b : ℕ) → T (fits binary32 f) → allowed f ≡ true → 2 ≤ b → floored_of f n b ≡ max 1 (scaled (to_bits binary32 f) * n / (b * 8388608))
unfolding allowed floored_of
floored_bits nan n b t h l = absurd (true≢false (sym h))
floored_bits (inf s) n b t h l = absurd (true≢false (sym h))
floored_bits (fin true m e) n b t h l = absurd (true≢false (sym h))
floored_bits (fin false m e) n b t h l =
    ap (max 1) (floors (m * up e) (down e) (scaled (to_bits binary32 (fin false m e))) n b (down_pos e) (le_trans (lit≤ tt) l) (told m e t (allowed_told m e h)).value)

-- a shift in 64 bits drops nothing of it
shifted : (f : Float) → T (fits binary32 f) → allowed f ≡ true → scaled (to_bits binary32 f) % 18446744073709551616 ≡ scaled (to_bits binary32 f)
shifted f t h = mod-eq_of_lt (lt_of_le_of_lt (scaled_most f t h) (lit< tt))

-- the product with the pixels as the code has it
abbrev pub whole_of : Float → ℕ → ℕ
whole_of f n = scaled (to_bits binary32 f) % 18446744073709551616 * n

-- that product has at most 56 bits
pub whole_fits : (f : Float) (n : ℕ) → T (fits binary32 f) → allowed f ≡ true → n ≤ 4194304 → whole_of f n < 18446744073709551616
whole_fits f n t h k = rw (shifted f t h) (lt_of_le_of_lt (mul-le-mul (scaled_most f t h) k) (lit< tt))

-- the limit is the floor that the code works out, or 1
pub floored_code : (f : Float) (n b : ℕ) → T (fits binary32 f) → allowed f ≡ true → 2 ≤ b → floored_of f n b ≡ max 1 (whole_of f n / (b * 8388608))
floored_code f n b t h l = rw (shifted f t h) (floored_bits f n b t h l)

-- a pattern has 32 bits
pub pattern_fits : (f : Float) → T (fits binary32 f) → to_bits binary32 f < 18446744073709551616
pattern_fits f t = lt_of_lt_of_le (to_bits-lt binary32 f t) (lit≤ tt)
