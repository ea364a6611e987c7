use mathlib.Core.List.{◌++◌, map}
use mathlib.Core.Path.{◌≡◌, ap, ◌∙◌}
use native.Mathlib.Omega.{arith}
use Rattle.std.specs.Slice.Iter.{chunks_rest, chunks_size}
use Rattle.std.proofs.lemmas.List.{map-append}
use Rattle.tile_count.proofs.Cuts.{none_passed, all_left, still_left}
use Rattle.tile_count.proofs.Ways.{part_start, cut_part, cut_next}
use Rattle.tile_count.proofs.count_parts.Goals as goal

pub loop-part-init : goal.loop-part-init
loop-part-init g c =
    let made = c.into_iter-part-iterator.ensures.into_iter_gives in
    let all : map g.T.Grey.value (chunks_rest c.into_iter-part-iterator.result) ≡ map g.T.Grey.value c.args.row.now = ap (λ i. map g.T.Grey.value (chunks_rest i)) made ∙ ap (map g.T.Grey.value) c.chunks-part-items.ensures.rest in
    (ap chunks_size made ∙ c.chunks-part-items.ensures.size, all_left _ all, part_start _ _ _ _ (none_passed _ all))

pub count_part-requires : goal.count_part-requires
count_part-requires g c = (
  cut_part c.requires.0 _ _ c.loop-part.invariant.1 (ap (map g.T.Grey.value) c.in-Some.ensures.steps.1.0 ∙ map-append g.T.Grey.value _ _) c.loop-part.invariant.2,
  omega (arith, c.in-Some.ensures.steps.1.1, c.loop-part.invariant.0),
)

pub loop-part-preserved : goal.loop-part-preserved
loop-part-preserved g c =
    let cut : map g.T.Grey.value (chunks_rest c.loop-part.part-iterator) ≡ map g.T.Grey.value c.in-Some.part.now ++ map g.T.Grey.value (chunks_rest c.next.new.self) = ap (map g.T.Grey.value) c.in-Some.ensures.steps.1.0 ∙ map-append g.T.Grey.value _ _ in (
      omega (arith, c.in-Some.ensures.steps.0, c.loop-part.invariant.0, c.count_part.auto.line, c.loop-part.auto.line),
      still_left _ c.loop-part.invariant.1 _ _ cut,
      cut_next _ _ _ _ c.loop-part.invariant.1 cut c.loop-part.invariant.2 c.count_part.ensures,
    )
