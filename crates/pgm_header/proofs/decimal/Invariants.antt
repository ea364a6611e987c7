-- What is left to be laid down gives what the whole gives. Assumes nothing.
use mathlib.Core.Path.{◌≡◌}
use lib.ListN.{length}
use Rattle.base_lists.specs.Lists.{over}
use Rattle.pgm_header.proofs.Writing.{fixed}
use Rattle.pgm_header.proofs.decimal.Given as goal

abbrev pub invariant-loop-k : goal.invariant-loop-k
invariant-loop-k l = (length l.out ≡ length l.initial.out) × (over l.out l.at (fixed l.k l.v) ≡ over l.initial.out l.at (fixed l.count l.n))
