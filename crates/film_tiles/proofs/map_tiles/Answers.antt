use native.Mathlib.Omega.{arith}
use borrow.Author.Rules.{rules}
use Rattle.film_tiles.proofs.Tiles.{tiles_most}
use Rattle.film_tiles.proofs.Turns.{listed_first, listed_length, listed_asks, listed_next, laid_first, laid_asks, laid_length, laid_next, laid_end}
use Rattle.film_tiles.proofs.map_tiles.Goals as goal

pub overflow_mul-tiles : goal.overflow_mul-tiles
overflow_mul-tiles c = omega (arith, tiles_most c.requires.film.work.ready.tiled)

pub overflow_cast-tiles : goal.overflow_cast-tiles
overflow_cast-tiles c = omega (arith, tiles_most c.requires.film.work.ready.tiled)

pub loop-k-init : goal.loop-k-init
loop-k-init c = (laid_first, listed_first)

pub map_tile-spent-requires : goal.map_tile-spent-requires
map_tile-spent-requires c = laid_asks c.requires.film c.loop-k.invariant.0 (search rules)

pub put_spent-requires : goal.put_spent-requires
put_spent-requires c =
    listed_asks c.loop-k.invariant.1 (search rules) (tiles_most c.requires.film.work.ready.tiled) c.requires.pairs

pub loop-k-preserved : goal.loop-k-preserved
loop-k-preserved c = (
  laid_next c.requires.film c.loop-k.invariant.0 c.map_tile-spent.ensures,
  listed_next c.loop-k.invariant.1 c.map_tile-spent.ensures.spent c.put_spent.ensures,
)

pub clear-requires : goal.clear-requires
clear-requires c = omega (arith, c.bins-each.ensures, c.loop-k.invariant.0.size, c.requires.film.work.bins)

pub shape_of-map : goal.shape_of-map
shape_of-map c = laid_length c.requires.film c.loop-k.invariant.0 (search rules)

pub shape_of-list : goal.shape_of-list
shape_of-list c = listed_length c.loop-k.invariant.1 (search rules) c.requires.pairs

pub returns : goal.returns
returns c =
    laid_end c.requires.film c.loop-k.invariant.0 c.loop-k.invariant.1 (search rules) (search rules)
    c.bins-each.ensures c.clear.ensures
