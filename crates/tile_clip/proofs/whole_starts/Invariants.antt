-- The loop keeps `Starting`: what is still to be done is what was to be done, for the bins and for the looks. It keeps `Shut`: the bins from `end` on are full. The measure is the number of starts that are due.
use Prim.Native.Nat.{◌+◌, ◌*◌, ◌≤◌}
use mathlib.Core.Path.{◌≡◌}
use lib.ListN.{length}
use Rattle.tile_clip.specs.Clip.{starts}
use Rattle.tile_clip.specs.Looks.{looks_from}
use Rattle.tile_clip.specs.Asks.{Shut}
use Rattle.tile_clip.proofs.Rounds.{due, Starting}
use Rattle.tile_clip.proofs.whole_starts.Given as goal

abbrev pub invariant-loop-r : goal.invariant-loop-r
invariant-loop-r l =
    Starting l.limit (starts (l.left * length l.initial.counts) l.limit 0 l.initial.counts l.left) (0 + looks_from (l.left * length l.initial.counts) l.limit 0 l.initial.counts l.left) l.start l.counts l.r l.looks
    × (l.bins ≡ length l.counts) × (l.bins ≤ 4096) × Shut l.limit l.end l.counts × (l.start ≤ l.end) × (l.r ≤ 4194304)

abbrev pub decreases-loop-r : goal.decreases-loop-r
decreases-loop-r l = due l.limit l.start l.counts l.r
