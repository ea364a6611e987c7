-- Laws of what the header's reader hands back.
-- Assumes nothing.
use Rattle.std.proofs.Common.{◌≡◌, Result, Ok, Err}
use Rattle.std.specs.Result.{IsErrAnd}
use mathlib.Core.Path.{ap}
use Rattle.base_rows.specs.declared.Refusal.{Refusal}
use Rattle.base_rows.specs.Given.{number_of}
use Rattle.pgm_header.specs.declared.Head.{Head as AHead}
use Rattle.pgm_header.specs.Header.{Refused}
use Rattle.pgm_header.specs.Told.{head_told}

-- a refusal that is handed on is told by its number
pub head_err : (q : Result AHead Refusal) (e : Refusal) → IsErrAnd q (λ f. f ≡ e) → head_told q ≡ Refused (number_of e)
head_err (Ok h) e k = absurd k
head_err (Err f) e k = ap (λ r. Refused (number_of r)) k
