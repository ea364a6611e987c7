-- The invariant `Passing`, of what the bins have and of what they had: what is still to be done from the place on is what was to be done at first.
use Rattle.tile_clip.specs.Clip.{shared}
use Rattle.tile_clip.proofs.Passes.{Passing}
use Rattle.tile_clip.proofs.share_out.Given as goal

abbrev pub invariant-loop-count : goal.invariant-loop-count
invariant-loop-count l = record {
  have : Passing (shared l.limit l.q) (shared l.limit l.q) l.initial.counts l.count-index l.counts l.have;
  had : Passing (shared l.limit l.q) (λ c. c) l.initial.counts l.count-index l.counts l.had;
}
