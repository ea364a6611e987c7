-- The invariant: the bins from the place on are full.
use Rattle.tile_clip.specs.Asks.{Shut}
use Rattle.tile_clip.proofs.open_end.Given as goal

abbrev pub invariant-loop-last : goal.invariant-loop-last
invariant-loop-last l = Shut l.limit l.last l.counts
