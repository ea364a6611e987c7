-- Laws of `bin_of`, the bin of a grey.
-- Assumes nothing.
use Prim.Native.Nat.{ℕ, zero, suc, ◌+◌, ◌-◌, ◌*◌, ◌/◌, ◌%◌, ◌^◌, ◌≤◌, ◌<◌}
use mathlib.Core.Bool.{true}
use mathlib.Core.Path.{◌≡◌, ap, sym, ◌∙◌}
use lib.Dec.{ltb}
use native.Mathlib.Nat.{div-lt_iff_lt-mul, div-eq_of_lt-le, div-le_of_le-mul, zero-mul, zero-div, mul_comm, mul-div-mul_right, mul-add-div_right, div-eq_of_lt, div-div-eq-div-mul, mul-add, mul-one, mul-le-mul, mul-le-mul_right, mul-lt-mul_of_pos_right}
use lib.Pow.{pow-add, pow_mono}
use native.Mathlib.Omega.{arith}
use borrow.Author.Tests.{lt-ltb}
use Rattle.base_lists.proofs.Inverses.{by_ratio, ratio_reaches, ratio_short}
use Rattle.base_range.proofs.Spans.{within_low, within_high, within_both}
use Rattle.base_range.specs.Scan.{within}
use Rattle.tile_bin.specs.Binning.{bin_of, factor_of, bin_by_of}

-- a grey in the range stands less than R + 1 above Min
above_min : (lo hi v : ℕ) → within lo hi v ≡ true → v - lo < hi - lo + 1
above_min lo hi v h = omega (arith, within_low lo hi v h, within_high lo hi v h)

-- a grey in the range has a bin below B
pub bin_below : (lo hi b v : ℕ) → within lo hi v ≡ true → 0 < b → bin_of lo hi b v < b
unfolding bin_of
bin_below lo hi b v h p =
    let some : 0 < hi - lo + 1 = omega arith in
    (div-lt_iff_lt-mul {x = (v - lo) * b} {y = b} some).1 (rw (mul_comm b (hi - lo + 1)) (mul-lt-mul_of_pos_right (above_min lo hi v h) p))

-- the same as a test
pub bin_test : (lo hi b : ℕ) → 0 < b → (v : ℕ) → within lo hi v ≡ true → ltb (bin_of lo hi b v) b ≡ true
bin_test lo hi b p v h = lt-ltb (bin_of lo hi b v) b (bin_below lo hi b v h p)

-- "Show that every bin has at least one grey": where the bins are no more than the greys of the range, each bin is the bin of one of them
pub every_bin : (lo hi b k : ℕ) → lo ≤ hi → 0 < b → b ≤ hi - lo + 1 → k < b → (v : ℕ) × (within lo hi v ≡ true) × (bin_of lo hi b v ≡ k)
unfolding bin_of
every_bin lo hi b k o p m l =
    let (x, less, is) = ratio_reaches b (hi - lo + 1) k p m l in
    let back : lo + x - lo ≡ x = omega arith in
    (lo + x, within_both lo hi (lo + x) (omega arith) (omega (arith, less)), ap (λ y. y * b / (hi - lo + 1)) back ∙ is)

-- and where they are more, the last bin is the bin of none, so that 31 refuses no more than it must
pub bins_unreached : (lo hi b : ℕ) → hi - lo + 1 < b → (k : ℕ) × (k < b) × ((v : ℕ) → within lo hi v ≡ true → (bin_of lo hi b v ≡ k → ⊥))
unfolding bin_of
bins_unreached lo hi b m =
    (b - 1, omega arith, λ v h e. omega (arith, e, ratio_short b (hi - lo + 1) (v - lo) m (above_min lo hi v h)))

-- Min lies in bin 0
pub bin_first : (lo hi b : ℕ) → bin_of lo hi b lo ≡ 0
unfolding bin_of
bin_first lo hi b =
    let none : lo - lo ≡ 0 = omega arith in
    ap (λ x. x * b / (hi - lo + 1)) none ∙ ap (λ x. x / (hi - lo + 1)) (zero-mul b) ∙ zero-div (hi - lo + 1)

-- and Max in the last one, where the bins are no more than the greys of the range
pub bin_last : (lo hi b : ℕ) → 0 < b → b ≤ hi - lo + 1 → bin_of lo hi b hi ≡ b - 1
unfolding bin_of
bin_last lo hi zero p m = absurd (omega arith)
bin_last lo hi (suc c) p m = last (hi - lo) c (omega arith)
  where
    last : (r c : ℕ) → c ≤ r → r * suc c / (r + 1) ≡ suc c - 1
    last r c l =
        let same : suc c - 1 ≡ c = omega arith in
        div-eq_of_lt-le (r + 1) (omega arith) (omega arith) ∙ sym same

-- the factor gives a grey's bin: no grey is divided
pub bin_by : (lo hi b v : ℕ) → within lo hi v ≡ true → hi ≤ 4095 → 0 < b → bin_by_of lo (factor_of lo hi b) v ≡ bin_of lo hi b v
unfolding bin_by_of factor_of bin_of
bin_by lo hi b v h m p =
    let grey : v - lo ≤ 4095 = omega (arith, within_high lo hi v h) in
    let wide : hi - lo + 1 ≤ 4096 = omega arith in
    let most : (v - lo) * (hi - lo + 1) ≤ 4095 * 4096 = mul-le-mul grey wide in
    by_ratio 16777216 (v - lo) b (hi - lo + 1) (omega arith) (omega arith)

-- with no more bins than greys the quotient in the factor is at most 2^24
pub factor_room : (lo hi b : ℕ) → b ≤ hi - lo + 1 → b * 16777216 / (hi - lo + 1) ≤ 16777216
factor_room lo hi b m = div-le_of_le-mul (hi - lo + 1) (mul-le-mul_right 16777216 m)

-- with at most 256 bins the product with the factor stays in 32 bits
pub few_room : (lo hi b v : ℕ) → within lo hi v ≡ true → hi ≤ 4095 → 0 < b → b ≤ 256 → (v - lo) * factor_of lo hi b < 4294967296
unfolding bin_by_of
few_room lo hi b v h m p few =
    let n : ℕ = (v - lo) * factor_of lo hi b in
    let below : n / 16777216 < 256 = omega (arith, bin_by lo hi b v h m p, bin_below lo hi b v h p) in
    let pos : 0 < 16777216 = omega arith in
    (div-lt_iff_lt-mul {x = n} {y = 256} pos).0 below

-- where each bin has 2^s greys, the bin is what is above Min divided by that
pub bin_even_lem : (lo hi b v s : ℕ) → 0 < b → b * 2 ^ s ≡ hi - lo + 1 → (v - lo) / 2 ^ s ≡ bin_of lo hi b v
unfolding bin_of
bin_even_lem lo hi b v s p e = sym (mul-div-mul_right {m = b} (v - lo) (2 ^ s) p) ∙ ap (λ d. (v - lo) * b / d) (mul_comm (2 ^ s) b ∙ e)

-- ---- a factor that is one more than a power of two

-- what is left of a small number times p + 1, divided by p
times_next : (x p : ℕ) → x < p → x * (p + 1) / p ≡ x
times_next x p l =
    let some : 0 < p = omega arith in
    ap (λ n. n / p) (more x p) ∙ mul-add-div_right {m = p} some x x ∙ ap (λ n. x + n) (div-eq_of_lt l) ∙ none x
  where
    more : (x p : ℕ) → x * (p + 1) ≡ x * p + x
    more x p = mul-add x p 1 ∙ ap (λ n. x * p + n) (mul-one x)

    none : (x : ℕ) → x + 0 ≡ x
    none x = omega arith

-- one shifted by t is that power
pub one_shifted : (t : ℕ) → t < 25 → (1 * 2 ^ t % 4294967296 ≡ 2 ^ t) × (2 ^ t ≤ 16777216)
one_shifted t h =
    let most : 2 ^ t ≤ 16777216 = pow_mono {i = t} {j = 24} (omega arith) in
    (omega (arith, most), most)

-- by such a factor the bin is what is above Min divided by the greys of a bin
pub bin_power : (x t f : ℕ) → x ≤ 4095 → 11 < t → t < 25 → 2 ^ t + 1 ≡ f → x / 2 ^ (24 - t) ≡ x * f / 16777216
bin_power x t f small low high e =
    let wide : 4096 ≤ 2 ^ t = pow_mono {i = 12} {j = t} low in
    let whole : 2 ^ t * 2 ^ (24 - t) ≡ 16777216 = sym (pow-add 2 t (24 - t)) ∙ ap (λ n. 2 ^ n) (let k : t + (24 - t) ≡ 24 = omega arith in k) in
    ap (λ n. n / 2 ^ (24 - t)) (sym (times_next x (2 ^ t) (omega (arith, wide))))
    ∙ div-div-eq-div-mul (x * (2 ^ t + 1)) (2 ^ t) (2 ^ (24 - t))
    ∙ ap (λ n. x * (2 ^ t + 1) / n) whole
    ∙ ap (λ n. x * n / 16777216) e
