-- `counts_refusal` gives 33 where the counts are too short for the mappings' entries.
use mathlib.Core.Path.{refl}
use Rattle.base_rows.proofs.Given.{number_some}
use Rattle.film_count.proofs.Tables.{counts_short, counts_enough}
use Rattle.film_count.proofs.counts_refusal.Goals as goal

pub room_refusal-requires : goal.room_refusal-requires
room_refusal-requires c = (c.requires.across, c.requires.down, c.requires.bins)

pub returns-in-Ok : goal.returns-in-Ok
returns-in-Ok c = counts_enough _ _ c.in-Ok.ensures refl

pub returns-in-Err : goal.returns-in-Err
returns-in-Err c = counts_short _ _ c.in-Err.ensures (number_some _)
