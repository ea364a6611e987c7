use Rattle.std.proofs.Common.{ℕ, refl, ◌∙◌, length-set, rules}
use lib.ListN.{length-replicate}
use Rattle.base_lists.proofs.Fills.{filled_none, filled_step, filled_end}
use Rattle.test_set.specs.Filmset.{scratch_of}
use Rattle.test_set.proofs.Digests.{filled_full}
use Rattle.test_set.proofs.made.scratch.Goals as goal

pub loop-i-init : goal.loop-i-init
loop-i-init c = (refl, filled_none _ _)

pub loop-i-preserved : goal.loop-i-preserved
unfolding scratch_of
loop-i-preserved c = (rw length-set (search rules), filled_step _ _ c.loop-i.invariant.1 (search rules) refl)

pub returns : goal.returns
returns c = filled_end _ _ c.loop-i.invariant.1 (search rules) (search rules) ∙ filled_full _ _ _ (length-replicate {A = ℕ} 4200 0)
