-- Laws of what the reader of samples hands back.
-- Assumes nothing.
use Rattle.std.proofs.Common.{ℕ, ◌≡◌, Result, Ok, Err}
use Rattle.std.specs.Result.{IsErrAnd}
use mathlib.Core.Path.{ap}
use Rattle.base_rows.specs.declared.Refusal.{Refusal}
use Rattle.base_rows.specs.Given.{number_of}
use Rattle.pgm_plain.specs.Scan.{Scan}
use Rattle.pgm_plain.specs.Told.{scan_told}

-- a refusal that is handed on is told by its number
pub scan_err : (q : Result ℕ Refusal) (e : Refusal) → IsErrAnd q (λ f. f ≡ e) → scan_told q ≡ Scan.Refused (number_of e)
scan_err (Ok v) e h = absurd h
scan_err (Err f) e h = ap (λ r. Scan.Refused (number_of r)) h
