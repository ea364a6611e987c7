use mathlib.Core.Path.{◌≡◌, refl, ap, ◌∙◌}
use native.Mathlib.Omega.{arith}
use borrow.Author.Rules.{rules}
use Rattle.std.specs.Slice.Iter.{chunks_exact_rest}
use Rattle.tile_count.proofs.Cuts.{none_passed, all_left, part_more, still_left}
use Rattle.tile_count.proofs.Ways.{part_start, turn_asks, cut_next}
use Rattle.tile_count.proofs.count_turns.Goals as goal

pub loop-turn-init : goal.loop-turn-init
loop-turn-init c =
    let all : chunks_exact_rest c.into_iter-turn-iterator.result ≡ c.args.line.now = ap chunks_exact_rest c.into_iter-turn-iterator.ensures.into_iter_gives ∙ c.chunks_exact-turn-items.ensures.rest in
    (search rules, all_left _ all, omega (arith, none_passed _ all), part_start _ _ _ _ (none_passed _ all))

pub count_turn-requires : goal.count_turn-requires
count_turn-requires c =
    (turn_asks c.requires _ c.loop-turn.invariant.3 _ _ refl c.loop-turn.invariant.1 c.in-Some.ensures.steps.1.0, omega (arith, c.in-Some.ensures.steps.1.1, c.loop-turn.invariant.0))

pub loop-turn-preserved : goal.loop-turn-preserved
loop-turn-preserved c =
    let cut = c.in-Some.ensures.steps.1.0 in
    let left = c.loop-turn.invariant.1 in (
      search rules,
      still_left _ left _ _ cut,
      omega (arith, part_more c.args.line.now left c.in-Some.turn.now (chunks_exact_rest c.next.new.self) cut, c.in-Some.ensures.steps.1.1, c.loop-turn.invariant.0),
      cut_next _ _ _ _ left cut c.loop-turn.invariant.3 c.count_turn.ensures,
    )
