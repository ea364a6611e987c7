-- All bytes so far are white space: what is left gives what the whole gives. Assumes nothing.
use mathlib.Core.Path.{◌≡◌}
use lib.ListN.{drop}
use Rattle.pgm_header.specs.Header.{white_of}
use Rattle.pgm_header.proofs.white_end.Given as goal

abbrev pub invariant-loop-i : goal.invariant-loop-i
invariant-loop-i l = white_of (drop l.at l.s) l.at ≡ white_of (drop l.i l.s) l.i
