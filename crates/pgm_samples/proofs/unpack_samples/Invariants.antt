-- The target's first entries are the samples that were passed.
use mathlib.Core.Path.{◌≡◌}
use denote.Param.{number}
use Rattle.base_lists.specs.Lists.{filled}
use Rattle.pgm_samples.specs.contracts.unpack_samples.{WIDE-type}
use Rattle.pgm_samples.specs.Samples.{sample_at}
use Rattle.pgm_samples.proofs.unpack_samples.Given as goal

abbrev pub invariant-loop-i : goal.invariant-loop-i
invariant-loop-i g l = l.target ≡ filled (sample_at (WIDE-type (number g.row.WIDE)) l.bytes) l.initial.target l.i
