use Prim.Native.Nat.{◌<◌}
use mathlib.Core.Path.{◌≡◌, refl, ◌∙◌}
use lib.ListN.{length}
use native.Mathlib.Omega.{arith}
use Rattle.listing_film.proofs.Films.{first_few, going_first, tile_laid, going_next, lines_told}
use Rattle.listing_film.proofs.film_lines.Goals as goal

pub first_line-at-requires : goal.first_line-at-requires
first_line-at-requires c =
    let asks = c.requires in
    (asks.width, asks.height, asks.maxval, asks.limit, omega (arith, asks.fitting))

pub loop-k-init : goal.loop-k-init
loop-k-init c =
    let n : length c.first_line-at.new.out ≡ length c.args.out.now = c.first_line-at.auto.out in (
      refl,
      going_first _ _ _ _ (first_few _ _ _ _ c.first_line-at.ensures) (omega (arith, n, c.requires.fitting)),
    )

pub bounds-list-a : goal.bounds-list-a
bounds-list-a c = omega (arith, c.requires.pairs)

pub overflow_cast-excess : goal.overflow_cast-excess
overflow_cast-excess c = omega (arith, c.requires.excess c.loop-k.k (omega arith))

pub bounds-list-a-in-loop-k : goal.bounds-list-a-in-loop-k
bounds-list-a-in-loop-k c = omega (arith, c.requires.pairs)

pub overflow_cast-looks : goal.overflow_cast-looks
overflow_cast-looks c = omega (arith, c.requires.looks c.loop-k.k (omega arith))

pub tile_line-at-requires : goal.tile_line-at-requires
tile_line-at-requires c =
    let n : length c.first_line-at.new.out ≡ length c.args.out.now = c.first_line-at.auto.out in
    let taken : c.loop-k.k < 4 = omega arith in
    let asks = c.requires in
    let few = asks.excess _ taken in
    let short = asks.looks _ taken in
    record {
      tile = taken;
      excess = omega (arith, few, short);
      looks = omega (arith, few, short);
      entries = asks.entries;
      fitting = omega (arith, n, c.loop-k.invariant.0, c.loop-k.invariant.1.room, asks.fitting);
    }

pub loop-k-preserved : goal.loop-k-preserved
loop-k-preserved c =
    let n : length c.tile_line-at.new.out ≡ length c.loop-k.out = c.tile_line-at.auto.out in (
      n ∙ c.loop-k.invariant.0,
      going_next c.loop-k.invariant.1 (omega arith) (tile_laid _ _ _ c.tile_line-at.ensures) n,
    )

pub shape_of-out : goal.shape_of-out
shape_of-out c = c.loop-k.invariant.0 ∙ c.first_line-at.auto.out

pub returns : goal.returns
returns c = lines_told _ _ _ _ _ _ _ c.first_line-at.ensures c.loop-k.invariant.1 (omega arith)
