-- `copy_tile` lays the counts of tile k in front of the scratch.
use mathlib.Core.Path.{ap, ◌∙◌}
use Rattle.base_lists.specs.Lists.{onto}
use Rattle.base_lists.proofs.Windows.{block_cut}
use Rattle.film_map.proofs.copy_tile.Goals as goal

pub returns : goal.returns
returns c = c.copy.ensures ∙ ap (onto c.args.scratch.now) (block_cut c.args.counts.now c.args.k c.args.each)
