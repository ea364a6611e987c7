-- The lines so far stand at the front of out.
use mathlib.Core.Path.{◌≡◌}
use lib.ListN.{length}
use Rattle.base_lists.specs.Lists.{onto}
use Rattle.pgm_plain_lines.proofs.Lines.{lines_to}
use Rattle.pgm_plain_lines.proofs.lay_each.Given as goal

abbrev pub invariant-loop-grey : goal.invariant-loop-grey
invariant-loop-grey l =
    (l.p ≡ length (lines_to l.picture l.grey-index)) × (l.out ≡ onto l.initial.out (lines_to l.picture l.grey-index))
