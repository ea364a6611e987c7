-- `grey` gives the grey of a pixel by its region's counts, which stay in the front of the scratch.
use mathlib.Core.Path.{refl}
use Rattle.film_around.proofs.Pixels.{found_asks, found_held, found_grey, found_again}
use Rattle.film_around.proofs.Rows.{held_next}
use Rattle.film_around.proofs.grey.Goals as goal

pub found_in-requires : goal.found_in-requires
found_in-requires c = found_asks c.requires c.area-pixels.ensures c.bin_at-k.ensures

pub returns-in-Some : goal.returns-in-Some
returns-in-Some c = (found_held c.requires c.area-pixels.ensures c.bin_at-k.ensures c.found_in.ensures, found_grey c.requires c.area-pixels.ensures c.bin_at-k.ensures c.found_in.ensures c.in-Some.is)

pub found_whole-requires : goal.found_whole-requires
found_whole-requires c = found_asks (found_again c.requires c.area-pixels.ensures c.bin_at-k.ensures c.found_in.ensures) c.area-pixels.ensures c.bin_at-k.ensures

pub returns-in-None : goal.returns-in-None
returns-in-None c = let again = found_again c.requires c.area-pixels.ensures c.bin_at-k.ensures c.found_in.ensures in (held_next (found_held c.requires c.area-pixels.ensures c.bin_at-k.ensures c.found_in.ensures) (found_held again c.area-pixels.ensures c.bin_at-k.ensures c.found_whole.ensures), found_grey again c.area-pixels.ensures c.bin_at-k.ensures c.found_whole.ensures refl)
