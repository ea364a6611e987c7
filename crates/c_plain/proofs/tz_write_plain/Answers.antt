-- `c_plain::tz_write_plain` meets its contract: the byte count goes to its cell, or the refusal is returned.
use Rattle.c_flat.proofs.Handed.{written_bytes, written_refused}
use Rattle.c_plain.proofs.tz_write_plain.Goals as goal

pub returns-in-Ok : goal.returns-in-Ok
returns-in-Ok c = written_bytes _ _ c.write_plain.ensures c.in-Ok.is

pub returns-in-Err : goal.returns-in-Err
returns-in-Err c = written_refused _ _ c.write_plain.ensures c.in-Err.is c.number.ensures
