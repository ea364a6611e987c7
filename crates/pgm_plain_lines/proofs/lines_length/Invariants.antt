-- The sum so far is the length of the lines so far.
use mathlib.Core.Path.{◌≡◌}
use lib.ListN.{length}
use Rattle.pgm_plain_lines.proofs.Lines.{lines_to}
use Rattle.pgm_plain_lines.proofs.lines_length.Given as goal

abbrev pub invariant-loop-grey : goal.invariant-loop-grey
invariant-loop-grey l = l.sum ≡ length (lines_to l.picture l.grey-index)
