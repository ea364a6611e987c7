-- `tile_limit::judge` meets its contract: its tests are the definitions of the specification.
use mathlib.Core.Bool.{true≢false}
use mathlib.Core.Path.{refl, sym, ◌∙◌}
use Rattle.tile_limit.specs.Limit.{judge_of}
use Rattle.tile_limit.proofs.Factor.{judge_one, judge_above, judge_high, judge_low}
use Rattle.tile_limit.proofs.judge.Goals as goal
use Rattle.tile_limit.proofs.judge.Goals.{then-f, else-f}

pub returns-in-Off : goal.returns-in-Off
unfolding judge_of
returns-in-Off c = rw c.in-Off.is refl

pub returns-then-not-f : goal.returns-then-not-f
returns-then-not-f c =
    elim c.if-f.branch [
      | then-f w ↦ sym (judge_high _ _ c.in-Factor.is (cc) (sym w.value-is ∙ c.if-not-f.true))
      | else-f w ↦ sym (judge_low _ _ c.in-Factor.is (cc))
    ]

pub returns-then-f-2 : goal.returns-then-f-2
returns-then-f-2 c =
    elim c.if-f.branch [
      | then-f w ↦ sym (judge_one _ _ c.in-Factor.is (cc) (cc) (cc))
      | else-f w ↦ absurd (true≢false (sym c.if-not-f.false ∙ (w.value-is ∙ w.if-f.false)))
    ]

pub returns-else-f-2 : goal.returns-else-f-2
returns-else-f-2 c =
    elim c.if-f.branch [
      | then-f w ↦ sym (judge_above _ _ c.in-Factor.is (cc) (cc) (cc))
      | else-f w ↦ absurd (true≢false (sym c.if-not-f.false ∙ (w.value-is ∙ w.if-f.false)))
    ]
