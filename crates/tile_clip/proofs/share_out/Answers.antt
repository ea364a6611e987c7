use native.Mathlib.Omega.{arith}
use lib.ListN.{get_or}
use borrow.Author.Rules.{rules}
use Rattle.tile_clip.proofs.Passes.{passing_most, passing_next, passing_bins, passing_sum, total_same}
use Rattle.tile_clip.proofs.Shares.{shared_min, pass_kept}
use Rattle.tile_clip.proofs.share_out.Goals as goal

pub overflow_add-had : goal.overflow_add-had
overflow_add-had c = omega (arith, passing_most c.loop-count.invariant.had (search rules), total_same c.args.counts.now, c.requires.2)

pub overflow_add-count : goal.overflow_add-count
overflow_add-count c = omega (arith, passing_most c.loop-count.invariant.had (search rules), total_same c.args.counts.now, c.requires.1, c.requires.2)

pub overflow_add-have : goal.overflow_add-have
overflow_add-have c =
    let a = c.args in
    let o = c.loop-count in
    omega (arith, shared_min a.limit a.q (get_or o.counts o.count-index 0), passing_most o.invariant.have (search rules), pass_kept a.limit a.q a.counts.now c.requires.0.all_taken, c.requires.2)

pub loop-count-preserved : goal.loop-count-preserved
loop-count-preserved c =
    let a = c.args in
    let o = c.loop-count in
    let m = shared_min a.limit a.q (get_or o.counts o.count-index 0) in
    record {
      have = passing_next o.invariant.have (search rules) (omega (arith, m)) (omega (arith, m));
      had = passing_next o.invariant.had (search rules) (omega (arith, m)) (omega arith);
    }

pub overflow_sub-result : goal.overflow_sub-result
overflow_sub-result c =
    let a = c.args in
    let o = c.loop-count in
    omega (arith, passing_sum o.invariant.have (search rules), passing_sum o.invariant.had (search rules), total_same a.counts.now, pass_kept a.limit a.q a.counts.now c.requires.0.all_taken)

pub returns : goal.returns
returns c =
    let a = c.args in
    let o = c.loop-count in
    record {
      bins = passing_bins o.invariant.have (search rules);
      rest = omega (arith, passing_sum o.invariant.have (search rules), passing_sum o.invariant.had (search rules), total_same a.counts.now, pass_kept a.limit a.q a.counts.now c.requires.0.all_taken);
    }
