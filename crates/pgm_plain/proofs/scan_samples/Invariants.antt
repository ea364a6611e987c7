-- What is left equals the whole.
use Prim.Native.Nat.{◌≤◌, ◌-◌}
use mathlib.Core.Path.{◌≡◌}
use lib.ListN.{length}
use Rattle.pgm_plain.specs.Plain.{scan_of}
use Rattle.pgm_plain.proofs.scan_samples.Given as goal

abbrev pub invariant-loop-i : goal.invariant-loop-i
invariant-loop-i l = (l.p ≤ length l.s) × (scan_of l.count l.maxval l.s l.at ≡ scan_of (l.count - l._i) l.maxval l.s l.p)
