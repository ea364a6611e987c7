-- What is left equals the whole; the number so far has room for the digits left below 100000. Assumes nothing.
use Prim.Native.Nat.{◌≤◌, ◌+◌, ◌*◌, ◌-◌}
use mathlib.Core.Path.{◌≡◌}
use lib.ListN.{length, drop}
use Rattle.pgm_header.specs.Header.{digits_of}
use Rattle.pgm_header.proofs.Reading.{tens}
use Rattle.pgm_header.proofs.digits.Given as goal

abbrev pub invariant-loop-i : goal.invariant-loop-i
invariant-loop-i l =
    (l.i ≤ length l.s)
    × ((l.value + 1) * tens (l.at + 5 - l.i) ≤ 100000)
    × (digits_of 5 (drop l.at l.s) 0 l.at ≡ digits_of (l.at + 5 - l.i) (drop l.i l.s) l.value l.i)
