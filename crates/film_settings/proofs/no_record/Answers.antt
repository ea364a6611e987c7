-- `no_record` gives the record of no film: all numbers 0, clip off.
use mathlib.Core.Path.{refl}
use Rattle.film_settings.specs.Settings.{no_settings, no_record_of}
use Rattle.film_settings.proofs.no_record.Goals as goal

pub returns : goal.returns
unfolding no_settings no_record_of
returns c = rw c.no_axis-axis.ensures refl
