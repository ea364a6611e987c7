-- Laws of one and two bytes a sample.
-- Assumes nothing.
use Prim.Native.Nat.{ℕ, ◌+◌, ◌*◌, ◌/◌, ◌%◌, ◌≤◌}
use mathlib.Core.Bool.{Bool, true, false}
use mathlib.Core.Path.{◌≡◌, refl}
use lib.ListN.{length}
use native.Mathlib.Omega.{arith}
use Rattle.pgm_samples.specs.Samples.{sample_bytes, bytes_of}

-- a sample laid down has as many bytes as a sample takes
pub length_bytes : (two : Bool) (v : ℕ) → length (bytes_of two v) ≡ sample_bytes two
length_bytes false v = refl
length_bytes true v = refl

-- a number of two bytes with its bytes swapped
pub swapped : (a b : ℕ) {w : ℕ} → a ≤ 255 → b ≤ 255 → w ≡ a + b * 256 → w % 256 * 256 + w / 256 ≡ a * 256 + b
swapped a b h l e = omega arith
