-- The weighted sum of a pixel moves by the mapped differences where the bin stays the same: what of it callers use.
-- Nothing is negative: the right pair is added first, and the left pair is in the sum while its tile has weight.
-- Assumes nothing.
use Prim.Native.Nat.{ℕ, zero, suc, ◌+◌, ◌-◌, ◌*◌, ◌/◌, ◌≤◌, ◌<◌}
use mathlib.Core.Path.{◌≡◌, ap, ap₂, ◌∙◌}
use native.Mathlib.Nat.{add-mul, one-mul, suc-mul, mul-le-mul_right}
use native.Mathlib.Omega.{arith}
use Rattle.pixel_place.specs.declared.Place.{Place}
use Rattle.pixel_place.specs.Blend.{pair_of, sides_of, moved}

-- the left pair is in the sum
pub left_holds : (p : Place) (l r : ℕ) → 0 < p.lowerweight → l ≤ pair_of p l r
left_holds p l r h = omega (arith, mul-le-mul_right l h, one-mul l)

-- one column on: x + 1 parts of l and y of r become x and y + 1
shift : (x y l r : ℕ) → 0 < x → x * l + y * r + r - l ≡ (x - 1) * l + (y + 1) * r
shift zero y l r p = absurd (omega arith)
shift (suc x) y l r p =
    let e : suc x * l ≡ x * l + l = suc-mul x l in
    let g : (suc x - 1) * l ≡ x * l = ap (λ z. z * l) (omega arith) in
    let f : (y + 1) * r ≡ y * r + r = add-mul y 1 r ∙ ap (λ z. y * r + z) (one-mul r) in
    omega (arith, e, f, g)

-- "let the weighted sum move by the mapped differences where the bin stays the same"
pub sum_moves : (p : Place) (l r j : ℕ) → j < p.lowerweight → pair_of (moved p j) l r + r - l ≡ pair_of (moved p (j + 1)) l r
sum_moves p l r j h =
    shift (p.lowerweight - j) (p.upperweight + j) l r (omega arith)
    ∙ ap₂ (λ x y. x * l + y * r) (omega arith) (omega arith)

-- the grey of a weighted sum
pub sides_are : (column row : Place) (l r : ℕ) {sum v : ℕ} → sum ≡ pair_of column l r → v ≡ sum / (column.span * row.span) → v ≡ sides_of column row l r
unfolding sides_of
sides_are column row l r e q = q ∙ ap (λ n. n / (column.span * row.span)) e
