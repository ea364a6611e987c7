-- `pixel` gives the grey of a pixel, and moves the counts on to the region around the one on its right.
use Rattle.film_around.proofs.Parts.{slide_asks, slid_held}
use Rattle.film_around.proofs.pixel.Goals as goal

pub slide_in-requires : goal.slide_in-requires
slide_in-requires c = (slide_asks c.requires.0 c.requires.1 c.grey-shown.ensures.0, c.requires.2, c.requires.3)

pub returns : goal.returns
returns c = (slid_held c.requires.0 c.requires.1 c.grey-shown.ensures.0 c.slide_in.ensures, c.grey-shown.ensures.1)
