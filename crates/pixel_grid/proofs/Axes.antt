-- Two axes are the same where they are equal: what callers use, so that nobody opens the entries.
-- Assumes nothing.
use Prim.Native.Nat.{ℕ}
use lib.Dec.{eqb}
use lib.Pointwise.{pointwise}
use mathlib.Core.Bool.{true, ◌&&◌}
use mathlib.Core.List.{List, [], ◌∷◌}
use mathlib.Core.Path.{◌≡◌, refl, ap, ap₂}
use Rattle.base_lists.specs.Lists.{same}
use Rattle.base_lists.proofs.Sames.{same_self, same_is}
use Rattle.base_lists.proofs.Tabs.{and_left, and_right, and_both}
use Rattle.pixel_grid.specs.declared.Axis.{Axis}
use Rattle.pixel_grid.specs.Grid.{same_axis_of}

pub same_axis_self : (a : Axis) → same_axis_of a a ≡ true
unfolding same_axis_of
same_axis_self a = and_both _ _ (same_self a.edges) (same_self a.centres)

pub same_axis_is : (a b : Axis) → same_axis_of a b ≡ true → a ≡ b
unfolding same_axis_of
same_axis_is a b e =
    ap₂ (λ x y. record { edges = x; centres = y }) (same_is a.edges b.edges (and_left _ _ e)) (same_is a.centres b.centres (and_right (same a.edges b.edges) _ e))

-- ---- what `==` says of two

same_pointwise : (xs ys : List ℕ) → pointwise eqb xs ys ≡ same xs ys
unfolding same
same_pointwise [] [] = refl
same_pointwise [] (y ∷ ys) = refl
same_pointwise (x ∷ xs) [] = refl
same_pointwise (x ∷ xs) (y ∷ ys) = ap (λ t. eqb x y && t) (same_pointwise xs ys)

pub same_axis_pointwise : (a b : Axis) → (pointwise eqb a.edges b.edges && pointwise eqb a.centres b.centres) ≡ same_axis_of a b
unfolding same_axis_of
same_axis_pointwise a b = ap₂ (λ s t. s && t) (same_pointwise a.edges b.edges) (same_pointwise a.centres b.centres)
