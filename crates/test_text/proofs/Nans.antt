-- Where a float is no NaN, and the bits of one that is. Assumes nothing.
use Prim.Native.Nat.{ℕ, ◌+◌, ◌*◌, ◌/◌}
use native.Mathlib.Omega.{arith}
use mathlib.Core.Bool.{true, false, not}
use mathlib.Core.Path.{◌≡◌, sym, ap, subst⁻¹}
use lib.Dec.{T}
use lib.Ieee.{Float, Format, nan, inf, fin, eq, ne, is_nan, to_bits, ones, hid}
use lib.Ieee.Compare.{differs_from_itself}

-- a float that is level with itself is no NaN
pub level_no_nan : (x : Float) → ne x x ≡ false → T (not (is_nan x))
unfolding eq ne is_nan
level_no_nan nan e = absurd (let z : ◌≡◌ {A = ℕ} 0 1 = cc in omega arith)
level_no_nan (inf s) e = tt
level_no_nan (fin s m n) e = tt

-- one that differs from itself has the one NaN's bits
pub nan_bits : (f : Format) (x : Float) → ne x x ≡ true → ones f * hid f + hid f / 2 ≡ to_bits f x
unfolding to_bits
nan_bits f x e = ap (to_bits f) (sym (differs_from_itself x (subst⁻¹ T e tt)))
