use mathlib.Core.Path.{refl, sym, ap, ◌∙◌}
use lib.ListN.{length, length-set}
use native.Mathlib.Nat.{div-le_self}
use native.Mathlib.Omega.{arith}
use borrow.Author.Rules.{rules}
use Rattle.tile_clip.proofs.Looked.{looks_bound}
use Rattle.tile_clip.proofs.Rounds.{starting_first, starting_end, start_looks, turn_stop, walking_first, walking_gain, walking_skip, walking_stop, looking_stop}
use Rattle.tile_clip.proofs.Ends.{shut_set, shut_same, onward_walked}
use Rattle.tile_clip.proofs.hand_out.Goals as goal
use Rattle.tile_clip.proofs.hand_out.Goals.{then-counts-at+else-r-eq0, else-counts-at}

pub starts-init : goal.starts-init
starts-init c =
    let w = c.whole_starts-standing.ensures in
    let a = c.args in
    (starting_first _ _ _ _ _ w.bin w.asks.room, refl, w.asks.few_bins, w.shut, omega (arith, w.looked, looks_bound a.limit a.counts.now a.left c.requires.few_bins c.requires.few_left))

pub loop-at-init : goal.loop-at-init
loop-at-init c =
    let i = c.starts.invariant in (
      walking_first _ _ _ _ _ _ (search rules),
      search rules,
      omega (arith, c.step_of-step.ensures),
      omega (arith, c.step_of-step.ensures, div-le_self (length c.whole_starts-standing.new.counts) c.starts.r),
      search rules,
      i.3,
      omega (arith, start_looks _ i.0 i.1 (search rules) c.step_of-step.ensures, i.4),
    )

pub loop-at-preserved : goal.loop-at-preserved
loop-at-preserved c =
    let i = c.loop-at.invariant in
    elim c.if-counts-at.branch [
      | then-counts-at+else-r-eq0 w ↦
          (walking_gain i.0 (search rules) (search rules) w.if-counts-at.true w.counts-is w.r-is (omega arith) refl, rw (w.counts-is, length-set) i.1, i.2, i.3, i.4, shut_set _ _ i.5 (search rules) w.counts-is, i.6)
      | else-counts-at w ↦
          (walking_skip i.0 (search rules) (search rules) w.if-counts-at.false w.counts-is w.r-is refl, i.1 ∙ sym (ap length w.counts-is), i.2, i.3, i.4, shut_same i.5 w.counts-is, i.6)
    ]

pub overflow_add-looks-in-starts-2 : goal.overflow_add-looks-in-starts-2
overflow_add-looks-in-starts-2 c =
    let i = c.starts.invariant in
    let j = c.loop-at.invariant in
    omega (arith, (onward_walked _ i.0 j.0 i.1 (search rules) j.2 c.step_of-step.ensures j.5 (search rules) c.looks_behind-looks.ensures c.open_end-end.ensures c.looks_skipped-looks.ensures refl).start.looked, i.4)

pub starts-smaller : goal.starts-smaller
starts-smaller c =
    let i = c.starts.invariant in
    let j = c.loop-at.invariant in
    (onward_walked _ i.0 j.0 i.1 (search rules) j.2 c.step_of-step.ensures j.5 (search rules) c.looks_behind-looks.ensures c.open_end-end.ensures c.looks_skipped-looks.ensures c.next_start-start.ensures).fewer

pub starts-preserved : goal.starts-preserved
starts-preserved c =
    let i = c.starts.invariant in
    let j = c.loop-at.invariant in
    ((onward_walked _ i.0 j.0 i.1 (search rules) j.2 c.step_of-step.ensures j.5 (search rules) c.looks_behind-looks.ensures c.open_end-end.ensures c.looks_skipped-looks.ensures c.next_start-start.ensures).start, search rules, search rules, c.open_end-end.ensures, i.4)

pub returns-after-starts : goal.returns-after-starts
returns-after-starts c =
    let e = starting_end c.starts.invariant.0 (search rules) in
    let w = c.whole_starts-standing.ensures in
    record { bins = e.0 ∙ w.same; taken = e.1 ∙ w.looked }

pub returns-then-r-eq0 : goal.returns-then-r-eq0
returns-then-r-eq0 c =
    let i = c.starts.invariant in
    let j = c.loop-at.invariant in
    let w = c.whole_starts-standing.ensures in
    let e = turn_stop _ i.0 i.1 (search rules) c.step_of-step.ensures (walking_stop j.0 j.2 (search rules) (search rules) (search rules)) (looking_stop j.0 j.2 (search rules) (search rules) (search rules)) in
    record { bins = e.0 ∙ w.same; taken = e.1 ∙ w.looked }
