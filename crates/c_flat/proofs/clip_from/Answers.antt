-- `c_flat::clip_from` meets its contract: 0 is off, any other number the factor.
use Rattle.c_flat.proofs.Handed.{clip_some}
use Rattle.c_flat.proofs.clip_from.Goals as goal

pub returns-else-clip-eq0 : goal.returns-else-clip-eq0
returns-else-clip-eq0 c = clip_some _ _ c.if-clip-eq0.false
