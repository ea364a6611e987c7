-- The rows 27 and 26. Assumes nothing.
use mathlib.Core.Path.{ap, ◌∙◌}
use native.Mathlib.Omega.{arith}
use Rattle.pgm_samples.specs.Samples.{none_above_of}
use Rattle.pgm_raster.proofs.Tables.{count_small}
use Rattle.pgm_greys.proofs.Tables.{target_short, target_fits, target_above}
use Rattle.pgm_greys.proofs.Parts.{part_length, part_greys}
use Rattle.pgm_greys.proofs.target_refusal.Goals as goal

pub overflow_mul-count : goal.overflow_mul-count
overflow_mul-count c = omega (arith, count_small c.args.width c.args.height c.requires.within.widest c.requires.within.highest)

pub returns-then-room-count : goal.returns-then-room-count
returns-then-room-count c = target_short _ _ _ _ _ _ c.if-room-count.true

pub none_above-requires : goal.none_above-requires
none_above-requires c = part_length _ _ _ _ _ c.requires c.is_wide-wide.ensures c.raster_size.ensures

pub returns-then-not-none_above : goal.returns-then-not-none_above
returns-then-not-none_above c = target_above _ _ _ _ _ _ c.if-room-count.false (c.none_above.ensures ∙ ap (none_above_of _) (part_greys _ _ _ _ _ c.requires c.is_wide-wide.ensures c.raster_size.ensures)) c.if-not-none_above.true

pub returns : goal.returns
returns c = target_fits _ _ _ _ _ _ c.if-room-count.false (c.none_above.ensures ∙ ap (none_above_of _) (part_greys _ _ _ _ _ c.requires c.is_wide-wide.ensures c.raster_size.ensures)) c.if-not-none_above.false
