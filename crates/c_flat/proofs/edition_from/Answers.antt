-- `c_flat::edition_from` meets its contract: 0 is ours, any other number the edition of 1986.
use Rattle.c_flat.proofs.Handed.{edition_some}
use Rattle.c_flat.proofs.edition_from.Goals as goal

pub returns-else-edition-eq0 : goal.returns-else-edition-eq0
returns-else-edition-eq0 c = edition_some _ c.if-edition-eq0.false
