-- What around gave is handed on: one law for each of its answers.
-- Assumes nothing.
use Prim.Native.Nat.{ℕ}
use mathlib.Core.List.{List}
use mathlib.Core.Path.{◌≡◌, refl}
use Rattle.std.proofs.Common.{Result, Ok, Err}
use Rattle.base_rows.specs.declared.Refusal.{Refusal}
use Rattle.base_rows.specs.Given.{number_of, said}
use Rattle.film_settings.specs.declared.Footer.{Footer}
use Rattle.film_prepare.specs.Prepare.{PaintOut, paint_leaves}
use Rattle.c_flat.specs.Films.{Foot, foot_after}
use Rattle.c_around.specs.Flat.{arounded_as, flat_arounded}

pub around_done : {a : Result Footer Refusal} {o t : List ℕ} (p : PaintOut) (foot : Foot) {f : Footer} {y : Foot}
    → paint_leaves (said a) o t ≡ p → a ≡ Ok f → y ≡ foot_after f → arounded_as 0 o t y ≡ flat_arounded p foot
unfolding flat_arounded
around_done p foot e q y = rw (← e, q, y) refl

pub around_refused : {a : Result Footer Refusal} {o t : List ℕ} (p : PaintOut) (foot : Foot) {r : Refusal} {n : ℕ}
    → paint_leaves (said a) o t ≡ p → a ≡ Err r → n ≡ number_of r → arounded_as n o t foot ≡ flat_arounded p foot
unfolding flat_arounded
around_refused p foot e q n = rw (← e, q, n) refl
