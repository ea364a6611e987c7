-- The rows 22 to 25: their numbers, what they tell where none applies, and how large a raster is.
-- Assumes nothing.
use Prim.Native.Nat.{ℕ, ◌-◌, ◌*◌, ◌≤◌, ◌<◌}
use mathlib.Core.Bool.{Bool, true, false}
use mathlib.Core.List.{List, [], ◌∷◌, ◌++◌}
use mathlib.Core.Path.{◌≡◌, refl, sym, ◌∙◌}
use native.Mathlib.Omega.{arith}
use native.Mathlib.Nat.{mul-le-mul, mul-pos}
use lib.ListN.{length, take, drop, length-drop}
use lib.Seq.{take_all}
use borrow.Author.Tests.{ltb-false, ne_eqb, le-ltb}
use Rattle.base_lists.specs.Lists.{all}
use Rattle.base_lists.proofs.Orders.{pos}
use Rattle.base_rows.specs.Refuse.{first, None, numbers_of, Numbered}
use Rattle.base_rows.proofs.Walk.{first_none}
use Rattle.pgm_samples.specs.Samples.{is_wide, sample_bytes}
use Rattle.pgm_raster.specs.Raster.{raster_size_of, head_rows, raster_rows, RasterLimits, RasterAsks}

-- ---- the numbers

-- 22 and 23, then 24 and 25, in the order of document 01
pub read_numbers : (w h m size : ℕ) → numbers_of (head_rows w h m ++ raster_rows w h m size) ≡ 22 ∷ 22 ∷ 22 ∷ 22 ∷ 23 ∷ 23 ∷ 24 ∷ 25 ∷ []
unfolding numbers_of head_rows raster_rows
read_numbers w h m size = refl

pub limit_numbered : (w h m : ℕ) → Numbered (head_rows w h m)
unfolding all numbers_of head_rows
limit_numbered w h m = refl

pub raster_numbered : (w h m size : ℕ) → Numbered (raster_rows w h m size)
unfolding all numbers_of raster_rows
raster_numbered w h m size = refl

-- ---- 22 and 23

-- none of them applies: size and maxval are in their limits
pub head_within : (w h m : ℕ) → first (head_rows w h m) ≡ 0 → RasterLimits w h m
unfolding head_rows
head_within w h m e =
    let n = first_none _ (limit_numbered w h m) e in
    record {
      wide = pos w n.0;
      widest = ltb-false _ _ n.1.0;
      high = pos h n.1.1.0;
      highest = ltb-false _ _ n.1.1.1.0;
      maxval_some = pos m n.1.1.1.1.0;
      maxval_most = ltb-false _ _ n.1.1.1.1.1.0;
    }

-- and the other way
pub within_none : (w h m : ℕ) → RasterLimits w h m → None (head_rows w h m)
unfolding head_rows
within_none w h m t =
    let a : w ≡ 0 → ⊥ = λ e. omega (arith, t.wide) in
    let b : h ≡ 0 → ⊥ = λ e. omega (arith, t.high) in
    let d : m ≡ 0 → ⊥ = λ e. omega (arith, t.maxval_some) in
    (ne_eqb w 0 a, (le-ltb 4096 w t.widest, (ne_eqb h 0 b, (le-ltb 4096 h t.highest, (ne_eqb m 0 d, (le-ltb 4095 m t.maxval_most, tt))))))

-- ---- 24 and 25

-- none of them applies: the raster has the bytes that it takes
pub exact : (w h m size : ℕ) → first (raster_rows w h m size) ≡ 0 → raster_size_of w h m ≡ size
unfolding raster_rows
exact w h m size e =
    let n = first_none _ (raster_numbered w h m size) e in
    let a : raster_size_of w h m ≤ size = ltb-false _ _ n.0 in
    let b : size ≤ raster_size_of w h m = ltb-false _ _ n.1.0 in
    omega arith

-- and the other way
pub exact_none : (w h m size : ℕ) → raster_size_of w h m ≡ size → None (raster_rows w h m size)
unfolding raster_rows
exact_none w h m size e = (le-ltb size (raster_size_of w h m) (omega arith), (le-ltb (raster_size_of w h m) size (omega arith), tt))

-- ---- how large a raster is

-- a picture within the limits has at most 2 ^ 24 pixels
pub count_small : (w h : ℕ) → w ≤ 4096 → h ≤ 4096 → w * h ≤ 16777216
count_small w h p q = mul-le-mul p q

size_most : (two : Bool) → sample_bytes two ≤ 2
size_most true = omega arith
size_most false = omega arith

size_least : (two : Bool) → 1 ≤ sample_bytes two
size_least true = omega arith
size_least false = omega arith

-- its raster at most twice as many bytes
pub raster_small : (w h m : ℕ) → w ≤ 4096 → h ≤ 4096 → raster_size_of w h m ≤ 33554432
raster_small w h m p q = mul-le-mul (count_small w h p q) (size_most (is_wide m))

-- and at least one
pub raster_some : (w h m : ℕ) → 0 < w → 0 < h → 0 < raster_size_of w h m
raster_some w h m p q = mul-pos (mul-pos p q) (size_least (is_wide m))

-- ---- the raster as a part of the bytes

-- none of 22 to 25 applies: from `start` on there is a raster
pub raster_asks : (bytes : List ℕ) (start w h m : ℕ) {size a b : ℕ} → a ≡ first (head_rows w h m) → a ≡ 0 → size ≡ length bytes - start
    → b ≡ first (raster_rows w h m size) → b ≡ 0 → RasterAsks bytes start w h m
raster_asks bytes start w h m {size} e z q f y =
    let t : RasterLimits w h m = head_within w h m (sym e ∙ z) in
    let x : raster_size_of w h m ≡ size = exact w h m size (sym f ∙ y) in
    record { within = t; exact = omega (arith, raster_some w h m t.wide t.high) }

-- from a place to the end
pub part_tail : (s : List ℕ) (at : ℕ) → take (length s - at) (drop at s) ≡ drop at s
part_tail s at = take_all (length s - at) (drop at s) (rw length-drop (omega arith))
