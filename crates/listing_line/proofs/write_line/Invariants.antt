-- The fields from i on are still to be laid down. Assumes nothing.
use Rattle.listing_line.proofs.Lines.{Writing}
use Rattle.listing_line.proofs.write_line.Given as goal

abbrev pub invariant-loop-i : goal.invariant-loop-i
invariant-loop-i l = Writing l.initial.out l.at l.numbers l.out l.i l.p
