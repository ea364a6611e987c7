-- What tz_read_plain hands out is what read_plain gave.
-- Assumes nothing.
use Prim.Native.Nat.{ℕ}
use mathlib.Core.List.{List, [], ◌∷◌}
use mathlib.Core.Path.{◌≡◌, refl}
use Rattle.std.proofs.Common.{Result, Ok, Err}
use Rattle.base_rows.specs.declared.Refusal.{Refusal}
use Rattle.base_rows.specs.Given.{number_of}
use Rattle.pgm_read.specs.declared.Sizes.{Sizes}
use Rattle.pgm_read.specs.Pgm.{sizes_says}
use Rattle.pgm_plain_read.specs.PlainRead.{PlainRead, plain_read_as}
use Rattle.c_plain.specs.Flat.{read_as, flat_read}

pub read_found : {a : Result Sizes Refusal} {left : List ℕ} (p : PlainRead) (old : List ℕ) {v : Sizes} → plain_read_as (sizes_says a) left ≡ p → a ≡ Ok v
    → read_as 0 (v.width ∷ v.height ∷ v.maxval ∷ []) left ≡ flat_read p old
unfolding flat_read sizes_says
read_found p old e q = rw (← e, q) refl

pub read_refused : {a : Result Sizes Refusal} {left : List ℕ} (p : PlainRead) (old : List ℕ) {r : Refusal} {n : ℕ} → plain_read_as (sizes_says a) left ≡ p → a ≡ Err r → n ≡ number_of r
    → read_as n old left ≡ flat_read p old
unfolding flat_read sizes_says
read_refused p old e q n = rw (← e, q, n) refl
