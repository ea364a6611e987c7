-- Dividing by a product: n x b / d by one product with b x p / d + 1 and one division by p, which is a shift where p is a power of two; and which numbers n x b / d reaches.
-- Assumes nothing.
use Prim.Native.Nat.{ℕ, ◌+◌, ◌-◌, ◌*◌, ◌/◌, ◌≤◌, ◌<◌}
use mathlib.Core.Path.{◌≡◌, refl, sym, ap, ◌∙◌}
use native.Mathlib.Nat.{div-eq_of_lt-le, div-lt_iff_lt-mul, mul-add, add-mul, one-mul, mul-one, mul_assoc, mul_comm, mul_right_comm, le_trans, le_of_eq, lt_of_le_of_lt, lt_of_lt_of_le, mul-le-mul_left, mul-le-mul_right, lt_of_mul-lt-mul_right, le_of_mul-le-mul_right, div-mul-le_self, lt-div-mul-add, le_of_lt}
use native.Mathlib.Omega.{arith}

-- the factor that stands for b / d
abbrev pub ratio : ℕ → ℕ → ℕ → ℕ
ratio p b d = b * p / d + 1

-- n x b / d, where n times d is below p
pub by_ratio : (p n b d : ℕ) → 0 < d → n * d < p → n * ratio p b d / p ≡ n * b / d
by_ratio p n b d k h = div-eq_of_lt-le p low high
  where
    q : ℕ
    q = n * b / d

    -- the factor times d is at least b x p, and by d more at the most
    least : b * p ≤ ratio p b d * d
    least = rw (add-mul (b * p / d) 1 d, one-mul) (le_of_lt (lt-div-mul-add k))

    most : ratio p b d * d ≤ b * p + d
    most = rw (add-mul (b * p / d) 1 d, one-mul) (omega (arith, div-mul-le_self (b * p) d))

    low : q * p ≤ n * ratio p b d
    low =
        le_of_mul-le-mul_right
        (le_trans (le_of_eq (mul_right_comm q p d))
        (le_trans (mul-le-mul_right p (div-mul-le_self (n * b) d))
        (le_trans (le_of_eq (mul_assoc n b p))
        (le_trans (mul-le-mul_left n least) (le_of_eq (sym (mul_assoc n (ratio p b d) d))))))) k

    reach : n * ratio p b d * d ≤ n * b * p + n * d
    reach =
        le_trans (le_of_eq (mul_assoc n (ratio p b d) d))
        (le_trans (mul-le-mul_left n most)
        (le_of_eq (mul-add n (b * p) d ∙ rw (sym (mul_assoc n b p)) refl)))

    next : (n * b + 1) * p ≤ (q + 1) * p * d
    next =
        le_trans (mul-le-mul_right p (above (lt-div-mul-add k)))
        (le_of_eq (mul_right_comm (q + 1) d p))
      where
        above : n * b < q * d + d → n * b + 1 ≤ (q + 1) * d
        above l = rw (add-mul q 1 d, one-mul) (omega arith)

    high : n * ratio p b d < (q + 1) * p
    high =
        lt_of_mul-lt-mul_right d
        (lt_of_le_of_lt reach (lt_of_lt_of_le (more (n * b * p) (n * d) h) (le_trans (le_of_eq (sym (add-mul (n * b) 1 p ∙ rw one-mul refl))) next)))
      where
        more : (a c : ℕ) → c < p → a + c < a + p
        more a c l = omega arith

-- the factor that stands for 1 / d
abbrev pub inverse : ℕ → ℕ → ℕ
inverse p d = p / d + 1

-- n / d, where n times d is below p: the case b = 1
pub by_inverse : (p n d : ℕ) → 0 < d → n * d < p → n * inverse p d / p ≡ n / d
by_inverse p n d k h =
    ap (λ t. n * (t / d + 1) / p) (sym (one-mul p)) ∙ by_ratio p n 1 d k h ∙ ap (λ t. t / d) (mul-one n)

-- the x below d for which x x b / d is k, for each k below b, where b is at most d
pub ratio_reaches : (b d k : ℕ) → 0 < b → b ≤ d → k < b → (x : ℕ) × (x < d) × (x * b / d ≡ k)
ratio_reaches b d k p m l = (x, less, div-eq_of_lt-le d low high)
  where
    x : ℕ
    x = (k * d + (b - 1)) / b

    under : x * b ≤ k * d + (b - 1)
    under = div-mul-le_self (k * d + (b - 1)) b

    over : k * d + (b - 1) < x * b + b
    over = lt-div-mul-add p

    low : k * d ≤ x * b
    low = omega (arith, over)

    high : x * b < (k + 1) * d
    high = rw (add-mul k 1 d, one-mul) (omega (arith, under))

    next : k + 1 ≤ b
    next = omega arith

    less : x < d
    less = lt_of_mul-lt-mul_right b (lt_of_lt_of_le high (le_trans (mul-le-mul_right d next) (le_of_eq (mul_comm b d))))

-- where b is above d, x x b / d is below b - 1 for each x below d
pub ratio_short : (b d x : ℕ) → d < b → x < d → x * b / d < b - 1
ratio_short b d x m l = (div-lt_iff_lt-mul {x = x * b} {y = b - 1} some).1 below
  where
    some : 0 < d
    some = omega arith

    -- x x b and one b more are at most b x d, and (b - 1) x d and one d more are just that
    next : (x + 1) * b ≤ d * b
    next = mul-le-mul_right b (omega arith)

    last : (b - 1 + 1) * d ≡ b * d
    last = ap (λ t. t * d) (omega arith)

    below : x * b < (b - 1) * d
    below = omega (arith, next, last, add-mul x 1 b, add-mul (b - 1) 1 d, one-mul b, one-mul d, mul_comm d b)
