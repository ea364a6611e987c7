-- The greys that were passed are laid down at the front of out.
use mathlib.Core.Path.{◌≡◌}
use denote.Param.{number}
use Rattle.pgm_samples.specs.contracts.pack_samples.{WIDE-type}
use Rattle.pgm_samples.proofs.Packing.{laid}
use Rattle.pgm_samples.proofs.pack_samples.Given as goal

abbrev pub invariant-loop-i : goal.invariant-loop-i
invariant-loop-i g l = l.out ≡ laid (WIDE-type (number g.row.WIDE)) l.greys l.initial.out l.i
