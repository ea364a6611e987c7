use borrow.Author.Rules.{rules}
use Rattle.pgm_samples.proofs.Packing.{laid_first, laid_next, laid_end}
use Rattle.pgm_samples.proofs.Bounds.{bound_at}
use Rattle.pgm_samples.proofs.pack_samples.Goals as goal

pub loop-i-init : goal.loop-i-init
loop-i-init g c = laid_first _ _ _

pub lay-requires : goal.lay-requires
lay-requires g c = ((λ e. bound_at 255 c.args.greys.now (c.requires.0 e) c.loop-i.i (search rules)), search rules)

pub loop-i-preserved : goal.loop-i-preserved
loop-i-preserved g c = laid_next _ _ _ c.loop-i.i c.loop-i.invariant c.lay.ensures

pub returns : goal.returns
returns g c = laid_end _ _ _ c.loop-i.invariant (search rules) (search rules)
