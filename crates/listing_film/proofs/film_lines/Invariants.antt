-- The lines of the tiles, one behind the other. Assumes nothing.
use mathlib.Core.Path.{◌≡◌}
use lib.ListN.{length}
use Rattle.listing_film.proofs.Films.{Going}
use Rattle.listing_film.proofs.film_lines.Given as goal

abbrev pub invariant-loop-k : goal.invariant-loop-k
invariant-loop-k l = (length l.out ≡ length l.initial.out) × Going l.map l.list l.initial.out l.initial.at l.out l.at l.k
