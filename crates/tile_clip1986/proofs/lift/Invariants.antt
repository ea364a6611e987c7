-- The invariant `Passing` of clip: what is still to be done from the place on is what was to be done at first.
use Rattle.tile_clip.proofs.Passes.{Passing}
use Rattle.tile_clip1986.specs.Older.{raised}
use Rattle.tile_clip1986.proofs.lift.Given as goal

abbrev pub invariant-loop-count : goal.invariant-loop-count
invariant-loop-count l = Passing (raised l.limit l.p) (raised l.limit l.p) l.initial.counts l.count-index l.counts l.sum
