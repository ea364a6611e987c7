use mathlib.Core.Path.{◌≡◌, refl, ap, ◌∙◌}
use native.Mathlib.Omega.{arith}
use borrow.Author.Rules.{rules}
use Rattle.std.specs.Slice.Iter.{chunks_exact_rest}
use Rattle.tile_count.proofs.Cuts.{none_passed, all_left, part_more, still_left}
use Rattle.tile_count.proofs.Fours.{four_start, first_asks, second_asks, third_asks, fourth_asks, four_next}
use Rattle.tile_count.proofs.count_four.Goals as goal

pub loop-four-init : goal.loop-four-init
loop-four-init c =
    let all : chunks_exact_rest c.into_iter-four-iterator.result ≡ c.args.row.now = ap chunks_exact_rest c.into_iter-four-iterator.ensures.into_iter_gives ∙ c.chunks_exact-four-items.ensures.rest in
    (search rules, all_left _ all, omega (arith, none_passed _ all), four_start _ _ _ _ _ _ _ _ _ (none_passed _ all))

pub count_one-requires : goal.count_one-requires
count_one-requires c = first_asks c.requires _ c.loop-four.invariant.3 refl c.loop-four.invariant.1 _ _ c.in-Some.ensures.steps.1.0 (c.in-Some.ensures.steps.1.1 ∙ c.loop-four.invariant.0)

pub count_one-requires-in-loop-four : goal.count_one-requires-in-loop-four
count_one-requires-in-loop-four c = second_asks c.requires _ c.loop-four.invariant.3 refl c.loop-four.invariant.1 _ _ c.in-Some.ensures.steps.1.0 (c.in-Some.ensures.steps.1.1 ∙ c.loop-four.invariant.0)

pub count_one-requires-in-loop-four-2 : goal.count_one-requires-in-loop-four-2
count_one-requires-in-loop-four-2 c = third_asks c.requires _ c.loop-four.invariant.3 refl c.loop-four.invariant.1 _ _ c.in-Some.ensures.steps.1.0 (c.in-Some.ensures.steps.1.1 ∙ c.loop-four.invariant.0)

pub count_one-requires-in-loop-four-3 : goal.count_one-requires-in-loop-four-3
count_one-requires-in-loop-four-3 c = fourth_asks c.requires _ c.loop-four.invariant.3 refl c.loop-four.invariant.1 _ _ c.in-Some.ensures.steps.1.0 (c.in-Some.ensures.steps.1.1 ∙ c.loop-four.invariant.0)

pub loop-four-preserved : goal.loop-four-preserved
loop-four-preserved c =
    let cut = c.in-Some.ensures.steps.1.0 in
    let size = c.in-Some.ensures.steps.1.1 ∙ c.loop-four.invariant.0 in (
      search rules,
      still_left _ c.loop-four.invariant.1 _ _ cut,
      omega (arith, part_more c.args.row.now c.loop-four.invariant.1 c.in-Some.four.now (chunks_exact_rest c.next.new.self) cut, size),
      four_next c.requires _ c.loop-four.invariant.3 refl c.loop-four.invariant.1 _ _ c.in-Some.ensures.steps.1.0 (c.in-Some.ensures.steps.1.1 ∙ c.loop-four.invariant.0) c.count_one.ensures c.count_one-in-loop-four.ensures c.count_one-in-loop-four-2.ensures c.count_one-in-loop-four-3.ensures,
    )
