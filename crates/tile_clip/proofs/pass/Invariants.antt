-- The invariant `Passing`: what is still to be done from the place on is what was to be done at first.
use Rattle.tile_clip.specs.Asks.{gain, gained}
use Rattle.tile_clip.proofs.Passes.{Passing}
use Rattle.tile_clip.proofs.pass.Given as goal

abbrev pub invariant-loop-count : goal.invariant-loop-count
invariant-loop-count l = Passing (gained l.limit) (gain l.limit) l.initial.counts l.count-index l.counts l.sum
