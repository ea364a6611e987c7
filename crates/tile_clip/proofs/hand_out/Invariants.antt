-- The loop of starts keeps `Starting`, the walk of a start keeps `Walking`: what is still to be done is what was to be done, for the bins and for the looks. Both keep `Shut`: the bins from `end` on are full. The measure is the number of starts that are due.
use Prim.Native.Nat.{◌+◌, ◌-◌, ◌*◌, ◌≤◌, ◌<◌}
use mathlib.Core.Path.{◌≡◌}
use lib.ListN.{length}
use Rattle.tile_clip.proofs.Rounds.{due, Starting, Walking}
use Rattle.tile_clip.specs.Clip.{starts}
use Rattle.tile_clip.specs.Looks.{looks_in, looks_from}
use Rattle.tile_clip.specs.Asks.{Shut}
use Rattle.tile_clip.proofs.hand_out.Given as goal

abbrev pub invariant-loop-at : goal.invariant-loop-at
invariant-loop-at l =
    Walking l.limit l.step l.start l.initial.counts l.initial.r l.at l.counts l.r l.initial.looks l.looks
    × (l.bins ≡ length l.counts) × (0 < l.step) × (l.step ≤ 4096) × (l.bins ≤ 4096) × Shut l.limit l.end l.counts
    × (l.initial.looks + looks_in l.limit l.step l.start l.initial.counts l.initial.r ≤ 35192962023424)

abbrev pub decreases-loop-at : goal.decreases-loop-at
decreases-loop-at l = l.end - l.at

abbrev pub invariant-starts : goal.invariant-starts
invariant-starts l =
    Starting l.limit (starts (l.initial.r * length l.initial.counts) l.limit l.initial.start l.initial.counts l.initial.r) (l.initial.looks + looks_from (l.initial.r * length l.initial.counts) l.limit l.initial.start l.initial.counts l.initial.r) l.start l.counts l.r l.looks
    × (l.bins ≡ length l.counts) × (l.bins ≤ 4096) × Shut l.limit l.end l.counts
    × (l.initial.looks + looks_from (l.initial.r * length l.initial.counts) l.limit l.initial.start l.initial.counts l.initial.r ≤ 35192962023424)

abbrev pub decreases-starts : goal.decreases-starts
decreases-starts l = due l.limit l.start l.counts l.r
