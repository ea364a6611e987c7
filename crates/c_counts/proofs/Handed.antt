-- What counting gave is handed on.
-- Assumes nothing.
use Prim.Native.Nat.{ℕ}
use mathlib.Core.List.{List}
use mathlib.Core.Path.{◌≡◌, refl}
use Rattle.base_rows.specs.Refuse.{Says}
use Rattle.film_count.specs.Counting.{CountOut, count_leaves}
use Rattle.c_flat.specs.Flat.{returned}
use Rattle.c_counts.specs.Flat.{counted_as, flat_counted}

pub counted_handed : {a : Says (Unit {0})} {cs : List ℕ} (t : CountOut) {n : ℕ} → count_leaves a cs ≡ t → n ≡ returned a → counted_as n cs ≡ flat_counted t
unfolding flat_counted
counted_handed t p q = rw (← p, q) refl
