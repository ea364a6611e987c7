-- `made_for` gives the record of a film: its settings as they are kept, and the axes of its two sides.
use mathlib.Core.Path.{refl}
use Rattle.film_settings.specs.Settings.{record_of}
use Rattle.film_settings.proofs.Records.{tiled_columns, tiled_rows}
use Rattle.film_settings.proofs.made_for.Goals as goal

pub axis_for-columns-requires : goal.axis_for-columns-requires
axis_for-columns-requires c = tiled_columns c.requires

pub axis_for-rows-requires : goal.axis_for-rows-requires
axis_for-rows-requires c = tiled_rows c.requires

pub returns : goal.returns
unfolding record_of
returns c = rw (c.kept-settings.ensures, c.axis_for-columns.ensures, c.axis_for-rows.ensures) refl
