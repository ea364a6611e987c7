-- The invariant: what the walk makes of the bins from the place i on is what it was to make of them at first.
use Prim.Native.Nat.{◌<◌}
use mathlib.Core.Path.{◌≡◌}
use Rattle.tile_clip.specs.Clip.{walk}
use Rattle.tile_clip.proofs.walk_part.Given as goal

abbrev pub invariant-loop-i : goal.invariant-loop-i
invariant-loop-i l = (0 < l.r) × (walk l.limit l.step l.i l.counts l.r ≡ walk l.limit l.step l.at l.initial.counts l.left)
