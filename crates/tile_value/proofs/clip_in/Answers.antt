-- `clip_in` leaves the counts as the edition's rule has them, and answers what their mapping divides by.
use Rattle.tile_value.proofs.Values.{in_ours, in_older}
use Rattle.tile_value.proofs.clip_in.Goals as goal

pub returns-in-Ours : goal.returns-in-Ours
returns-in-Ours c = in_ours _ _ _ c.in-Ours.is c.clip.ensures.0

pub returns-in-Of1986 : goal.returns-in-Of1986
returns-in-Of1986 c = in_older _ _ _ c.in-Of1986.is c.raise.ensures
