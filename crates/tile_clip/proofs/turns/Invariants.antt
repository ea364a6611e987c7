-- The invariant: what is still to be done is what was to be done.
use Rattle.tile_clip.proofs.Spans.{Turning}
use Rattle.tile_clip.proofs.turns.Given as goal

abbrev pub invariant-loop-start : goal.invariant-loop-start
invariant-loop-start l = Turning l.limit l.bins l.lo l.q l.left l.initial.part l.start l.r l.below l.part
