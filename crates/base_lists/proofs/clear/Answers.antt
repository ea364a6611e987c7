use lib.Seq.{length-take-le}
use Rattle.base_lists.proofs.Fills.{filled_same}
use Rattle.base_lists.proofs.clear.Goals as goal

pub returns : goal.returns
returns c = filled_same 0 _ (c.fill.ensures.after (λ y e. e)) (length-take-le c.args.n c.args.s.now c.requires)
