-- `c_files::tz_read_greys` meets its contract: the target is what read_greys leaves, and its answer is returned.
use Rattle.c_flat.proofs.Handed.{greys_handed}
use Rattle.c_files.proofs.tz_read_greys.Goals as goal

pub returns : goal.returns
returns c = greys_handed _ c.read_greys-answer.ensures c.code.ensures
