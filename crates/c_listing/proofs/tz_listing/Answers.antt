-- `c_listing::tz_listing` meets its contract: the text's length goes to its cell, or the refusal is returned.
use Rattle.c_flat.proofs.Handed.{written_bytes, written_refused}
use Rattle.c_listing.proofs.tz_listing.Goals as goal

pub returns-in-Ok : goal.returns-in-Ok
returns-in-Ok c = written_bytes _ _ c.list.ensures c.in-Ok.is

pub returns-in-Err : goal.returns-in-Err
returns-in-Err c = written_refused _ _ c.list.ensures c.in-Err.is c.number.ensures
