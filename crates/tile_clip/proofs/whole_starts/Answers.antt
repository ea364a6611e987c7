use mathlib.Core.Path.{refl}
use native.Mathlib.Omega.{arith}
use borrow.Author.Rules.{rules}
use Rattle.tile_clip.proofs.Looked.{looks_bound}
use Rattle.tile_clip.proofs.Rounds.{starting_first, starting_here}
use Rattle.tile_clip.proofs.Ends.{shut_first}
use Rattle.tile_clip.proofs.Whole.{raised_most, shut_whole, onward_whole, next_most}
use Rattle.tile_clip.proofs.whole_starts.Goals as goal

pub loop-r-init : goal.loop-r-init
loop-r-init c = (starting_first _ _ _ _ _ (search rules) (search rules), refl, search rules, shut_first _ _, search rules, search rules)

pub overflow_sub-r : goal.overflow_sub-r
overflow_sub-r c =
    let o = c.loop-r.invariant in
    omega (arith, raised_most o.4 o.3 c.pass-r.ensures)

pub open_end-end-requires : goal.open_end-end-requires
open_end-end-requires c =
    let o = c.loop-r.invariant in
    shut_whole o.4 o.3 c.pass-r.ensures

pub looks_skipped-requires : goal.looks_skipped-requires
looks_skipped-requires c =
    let o = c.loop-r.invariant in
    (omega (arith, raised_most o.4 o.3 c.pass-r.ensures), search rules, omega (arith, o.0.bin, o.1))

pub overflow_add-looks : goal.overflow_add-looks
overflow_add-looks c =
    let a = c.args in
    let o = c.loop-r.invariant in
    omega (arith, (onward_whole _ o.0 o.1 (search rules) o.4 o.3 c.pass-r.ensures c.open_end-end.ensures c.looks_skipped.ensures refl).start.looked, looks_bound a.limit a.counts.now a.left c.requires.few_bins c.requires.few_left)

pub overflow_add-looks-in-loop-r : goal.overflow_add-looks-in-loop-r
overflow_add-looks-in-loop-r c =
    let a = c.args in
    let o = c.loop-r.invariant in
    omega (arith, (onward_whole _ o.0 o.1 (search rules) o.4 o.3 c.pass-r.ensures c.open_end-end.ensures c.looks_skipped.ensures refl).start.looked, looks_bound a.limit a.counts.now a.left c.requires.few_bins c.requires.few_left)

pub loop-r-smaller : goal.loop-r-smaller
loop-r-smaller c =
    let o = c.loop-r.invariant in
    (onward_whole _ o.0 o.1 (search rules) o.4 o.3 c.pass-r.ensures c.open_end-end.ensures c.looks_skipped.ensures c.next_start-start.ensures).fewer

pub loop-r-preserved : goal.loop-r-preserved
loop-r-preserved c =
    let o = c.loop-r.invariant in
    ((onward_whole _ o.0 o.1 (search rules) o.4 o.3 c.pass-r.ensures c.open_end-end.ensures c.looks_skipped.ensures c.next_start-start.ensures).start, search rules, search rules, c.open_end-end.ensures, omega (arith, c.next_start-start.ensures, next_most c.open_end-end.result c.loop-r.start), search rules)

pub returns : goal.returns
returns c =
    let o = c.loop-r.invariant in
    record {
      same = (starting_here o.0).0;
      looked = omega (arith, (starting_here o.0).1);
      asks = record { some_bin = search rules; few_bins = search rules; few_left = o.5; room = o.0.room };
      bin = o.0.bin;
      shut = o.3;
    }
