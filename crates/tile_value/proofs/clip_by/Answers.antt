-- `clip_by` leaves the counts as the clip setting has them, and answers what their mapping divides by.
use Rattle.tile_map.proofs.Tiles.{clipped_off, clipped_factor}
use Rattle.tile_value.proofs.clip_by.Goals as goal

pub returns-in-Off : goal.returns-in-Off
returns-in-Off c = clipped_off _ _ _ c.in-Off.is

pub returns-in-Factor : goal.returns-in-Factor
returns-in-Factor c = clipped_factor _ _ _ c.in-Factor.is c.limit-most.ensures c.clip_in.ensures
