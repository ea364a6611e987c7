-- `byte_tile::mapping` meets its contract: the counts in the front of the scratch are clipped and mapped into the line, and the line's front is made bytes.
use mathlib.Core.Path.{refl}
use Rattle.byte_tile.proofs.Lines.{byte_asks, mapping_narrow, mapping_end}
use Rattle.byte_tile.proofs.mapping.Goals as goal

pub from_counts-spent-requires : goal.from_counts-spent-requires
from_counts-spent-requires c = byte_asks c.requires _ c.count.ensures _ refl

pub narrow-requires : goal.narrow-requires
narrow-requires c = mapping_narrow c.requires _ c.count.ensures _ refl _ c.from_counts-spent.ensures.mapping

pub returns : goal.returns
returns c = mapping_end c.requires _ c.count.ensures _ refl _ c.from_counts-spent.ensures.mapping _ c.from_counts-spent.ensures.counts c.narrow.ensures c.from_counts-spent.ensures.spent
