use borrow.Author.Rules.{rules}
use Rattle.pgm_samples.proofs.Bounds.{scanned_first, scanned_next, scanned_end}
use Rattle.pgm_samples.proofs.samples_none_above.Goals as goal

pub loop-seen-init : goal.loop-seen-init
loop-seen-init g c = scanned_first

pub loop-seen-preserved : goal.loop-seen-preserved
loop-seen-preserved g c = rw c.greatest-high.ensures (scanned_next c.loop-seen.invariant (search rules) c.sample.ensures)

pub returns : goal.returns
returns g c = scanned_end c.loop-seen.invariant (search rules)
