use native.Mathlib.Omega.{arith}
use borrow.Author.Rules.{rules}
use Rattle.film_tiles.proofs.Tiles.{tiles_most}
use Rattle.film_map.proofs.Turns.{adding_first, adding_next, adding_not, adding_end}
use Rattle.film_map.proofs.all_add_up.Goals as goal

pub overflow_mul-tiles : goal.overflow_mul-tiles
overflow_mul-tiles c = omega (arith, tiles_most c.requires.tiled)

pub overflow_cast-tiles : goal.overflow_cast-tiles
overflow_cast-tiles c = omega (arith, tiles_most c.requires.tiled)

pub loop-k-init : goal.loop-k-init
loop-k-init c = adding_first _ _ _ _

pub tile_adds_up-requires : goal.tile_adds_up-requires
tile_adds_up-requires c = record { film = c.requires; tile = search rules }

pub returns-then-not-tile_adds_up : goal.returns-then-not-tile_adds_up
returns-then-not-tile_adds_up c = adding_not _ _ _ _ c.loop-k.k c.tile_adds_up.ensures c.if-not-tile_adds_up.true (search rules)

pub loop-k-preserved : goal.loop-k-preserved
loop-k-preserved c = adding_next _ _ _ _ c.loop-k.invariant c.tile_adds_up.ensures c.if-not-tile_adds_up.false

pub returns : goal.returns
returns c = adding_end _ _ _ _ c.loop-k.invariant (search rules) (search rules)
