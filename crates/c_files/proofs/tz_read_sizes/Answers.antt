-- `c_files::tz_read_sizes` meets its contract: width, height and maxval go to their cells, or the refusal is returned.
use Rattle.c_flat.proofs.Handed.{sizes_found, sizes_refused}
use Rattle.c_files.proofs.tz_read_sizes.Goals as goal

pub returns-in-Ok : goal.returns-in-Ok
returns-in-Ok c = sizes_found _ _ c.read_sizes.ensures c.in-Ok.is

pub returns-in-Err : goal.returns-in-Err
returns-in-Err c = sizes_refused _ _ c.read_sizes.ensures c.in-Err.is c.number.ensures
