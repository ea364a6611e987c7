-- `c_counts::tz_count` meets its contract: count_tiles is asked with clip off, and its answer is returned.
use Rattle.c_counts.proofs.Handed.{counted_handed}
use Rattle.c_counts.proofs.tz_count.Goals as goal

pub returns : goal.returns
returns c = counted_handed _ c.count_tiles-answer.ensures c.code.ensures
