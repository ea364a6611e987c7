-- What the reader of samples hands back, in the terms of Sample and Scan.
-- Assumes nothing.
use Rattle.std.specs.Prelude.{ℕ, Result, Ok, Err}
use Rattle.base_rows.specs.declared.Refusal.{Refusal}
use Rattle.base_rows.specs.Given.{number_of}
use Rattle.pgm_plain.specs.declared.Sample.{Sample as ASample}
use Rattle.pgm_plain.specs.Sample.{Sample}
use Rattle.pgm_plain.specs.Scan.{Scan}

-- a sample that is in order, or the number of its refusal
abbrev pub sample_told : Result ASample Refusal → Sample
sample_told (Ok s) = Sample.Grey s.grey s.end
sample_told (Err r) = Sample.Refused (number_of r)

-- where the samples end, or the number of a refusal
abbrev pub scan_told : Result ℕ Refusal → Scan
scan_told (Ok e) = Scan.Done e
scan_told (Err r) = Scan.Refused (number_of r)
