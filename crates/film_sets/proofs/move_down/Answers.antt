use Rattle.std.proofs.Common.{◌≡◌, ◌+◌, ◌*◌, ◌/◌, ◌-◌, ap, ◌∙◌, arith}
use Rattle.film_sets.specs.Sets.{moved_down}
use Rattle.film_sets.proofs.Moves.{moved_none, moved_more}
use Rattle.film_sets.proofs.move_down.Goals as goal

pub loop-b-init : goal.loop-b-init
loop-b-init c =
    let n : c.args.from ≡ c.args.from + 0 = omega arith in
    moved_none _ _ _ ∙ ap (moved_down c.args.map.now c.args.to c.args.from) n

pub loop-b-preserved : goal.loop-b-preserved
loop-b-preserved c =
    let n : c.args.from + 64 * c.loop-b.b + 64 ≡ c.args.from + 64 * (c.loop-b.b + 1) = omega arith in
    moved_more _ _ _ _ c.loop-b.invariant c.requires.0 (omega arith) (omega arith) (omega arith) c.loop-b.auto.map c.copy_within.ensures.after
    ∙ ap (moved_down c.args.map.now c.args.to c.args.from) n

pub returns : goal.returns
returns c =
    let n : c.args.from + 64 * c.loop-b.b ≡ c.args.from + 64 * ((c.args.end - c.args.from) / 64) = omega arith in
    moved_more _ _ _ _ (c.loop-b.invariant ∙ ap (moved_down c.args.map.now c.args.to c.args.from) n) c.requires.0 (omega arith) (omega arith) c.requires.2 c.loop-b.auto.map c.copy_within-2.ensures.after
