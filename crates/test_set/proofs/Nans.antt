-- Where a bit pattern is no NaN's. Assumes nothing.
use Rattle.std.proofs.Common.{◌≡◌, ℕ, ◌/◌, ◌%◌, ◌≤◌, Bool, true, false, not, ◌&&◌, T, eqb, refl, arith, eqb-true}
use lib.Ieee.{binary32, nan_bits}
use borrow.Author.Tests.{eqb-false}

-- a pattern that is at most the infinity's, but for its sign, is no NaN's
pub low_no_nan : (b : ℕ) → b % 2147483648 ≤ 2139095040 → T (not (nan_bits binary32 b))
unfolding nan_bits
low_no_nan b h = go (eqb (b % 2147483648 / 8388608) 255) refl (eqb (b % 8388608) 0) refl
  where
    go : (p : Bool) → eqb (b % 2147483648 / 8388608) 255 ≡ p → (q : Bool) → eqb (b % 8388608) 0 ≡ q → T (not (p && not q))
    go true p true q = tt
    go true p false q = absurd (eqb-false (b % 8388608) 0 q (omega (arith, eqb-true (b % 2147483648 / 8388608) 255 p)))
    go false p q r = tt
