-- `foot` gives the footer of a film.
use mathlib.Core.Path.{◌∙◌, ap₂}
use native.Mathlib.Omega.{arith}
use Rattle.film_tiles.specs.Tiles.{foot_of, footer_of}
use Rattle.film_tiles.proofs.Tiles.{tiles_least}
use Rattle.film_tiles.proofs.Footers.{tile_footer_asks}
use Rattle.film_tiles.proofs.foot.Goals as goal

pub tile_pixels-pixels-requires : goal.tile_pixels-pixels-requires
tile_pixels-pixels-requires c = (c.requires.tiled, omega (arith, tiles_least c.requires.tiled))

pub footer-requires : goal.footer-requires
footer-requires c = rw c.tile_pixels-pixels.ensures (tile_footer_asks c.requires (omega (arith, tiles_least c.requires.tiled)) c.bins.ensures)

pub returns : goal.returns
unfolding foot_of
returns c = c.footer.ensures ∙ ap₂ (footer_of _) c.tile_pixels-pixels.ensures c.bins.ensures
