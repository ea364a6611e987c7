-- A step that passes no level over.
use mathlib.Core.Path.{refl}
use Rattle.tile_clip1986.proofs.Steps.{descend_asks, descended}
use Rattle.tile_clip1986.proofs.lower.Goals as goal

pub descend-requires : goal.descend-requires
descend-requires c = descend_asks c.requires.0 c.requires.1 c.look-here.ensures.0 refl refl c.look-here.ensures.1 c.if-over-room.false

pub returns-else-over-room : goal.returns-else-over-room
returns-else-over-room c = descended c.requires.0 c.requires.1 c.look-here.ensures.0 refl refl c.look-here.ensures.1 c.if-over-room.false c.descend.ensures
