-- None of the samples that were passed is above maxval where the greatest of them is not.
use denote.Param.{number}
use Rattle.pgm_samples.specs.contracts.samples_none_above.{WIDE-type}
use Rattle.pgm_samples.proofs.Bounds.{Scanned}
use Rattle.pgm_samples.proofs.samples_none_above.Given as goal

abbrev pub invariant-loop-seen : goal.invariant-loop-seen
invariant-loop-seen g l = Scanned l.maxval (WIDE-type (number g.row.WIDE)) l.bytes l.count l.seen l.high
