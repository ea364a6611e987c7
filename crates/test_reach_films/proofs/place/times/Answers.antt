-- `test_reach_films::place::times` is safe: two numbers of 32 bits have a product below 2 ^ 64. Assumes nothing.
use mathlib.Core.Path.{subst⁻¹}
use Rattle.std.proofs.Common.{ℕ, ◌+◌, ◌*◌, ◌^◌, ◌<◌, lt_of_le_of_lt, le_of_lt, mul-le-mul_left, mul-lt-mul_of_pos_right, pow_pos, pow-add, rules}
use Rattle.test_reach_films.proofs.place.times.Goals as goal

-- the product of two numbers of k bits has at most k + k
below : (k : ℕ) {a b : ℕ} → a < 2 ^ k → b < 2 ^ k → a * b < 2 ^ (k + k)
below k {a} {b} ha hb =
    subst⁻¹ (λ (n : ℕ). a * b < n) (pow-add 2 k k)
    (lt_of_le_of_lt (mul-le-mul_left a (le_of_lt hb)) (mul-lt-mul_of_pos_right ha (pow_pos k)))

pub overflow_mul-result : goal.overflow_mul-result
overflow_mul-result c = record { fits = below 32 (search rules) (search rules) }
