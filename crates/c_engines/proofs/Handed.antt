-- What the plain engine gave is handed on: one law for each of its answers.
-- Assumes nothing.
use Prim.Native.Nat.{ℕ}
use mathlib.Core.List.{List}
use mathlib.Core.Path.{◌≡◌, refl}
use Rattle.std.proofs.Common.{Result, Ok, Err}
use Rattle.base_rows.specs.declared.Refusal.{Refusal}
use Rattle.base_rows.specs.Given.{number_of, said}
use Rattle.film_settings.specs.declared.Footer.{Footer}
use Rattle.film_prepare.specs.Prepare.{PaintOut, paint_leaves}
use Rattle.c_flat.specs.Films.{Foot, foot_after}
use Rattle.c_engines.specs.Flat.{painted_as, flat_painted}

pub painted_done : {a : Result Footer Refusal} {o t : List ℕ} (p : PaintOut) (foot : Foot) {f : Footer} {y : Foot}
    → paint_leaves (said a) o t ≡ p → a ≡ Ok f → y ≡ foot_after f → painted_as 0 o t y ≡ flat_painted p foot
unfolding flat_painted
painted_done p foot e q y = rw (← e, q, y) refl

pub painted_refused : {a : Result Footer Refusal} {o t : List ℕ} (p : PaintOut) (foot : Foot) {r : Refusal} {n : ℕ}
    → paint_leaves (said a) o t ≡ p → a ≡ Err r → n ≡ number_of r → painted_as n o t foot ≡ flat_painted p foot
unfolding flat_painted
painted_refused p foot e q n = rw (← e, q, n) refl
