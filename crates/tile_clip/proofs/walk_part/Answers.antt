use mathlib.Core.Logic.{inl, inr}
use lib.ListN.{length-set}
use native.Mathlib.Omega.{arith}
use borrow.Author.Rules.{rules}
use Rattle.tile_clip.proofs.Parts.{walk_look, walk_ends}
use Rattle.tile_clip.proofs.walk_part.Goals as goal

pub loop-i-preserved : goal.loop-i-preserved
loop-i-preserved c =
    let o = c.loop-i in
    let a = c.args in
    (search rules, walk_look a.limit a.step o.i o.counts o.r o.invariant.0 (search rules) (search rules) c.gains-more.ensures o.invariant.1)

pub returns : goal.returns
returns c = walk_ends _ _ _ (inr (search rules)) c.loop-i.invariant.1

pub returns-then-r-eq0 : goal.returns-then-r-eq0
returns-then-r-eq0 c =
    let o = c.loop-i in
    let a = c.args in
    walk_ends _ _ _ (inl (search rules)) (walk_look a.limit a.step o.i o.counts o.r o.invariant.0 (search rules) (search rules) c.gains-more.ensures o.invariant.1)

pub returns-else-r-eq0 : goal.returns-else-r-eq0
returns-else-r-eq0 c =
    let o = c.loop-i in
    let a = c.args in
    walk_ends _ _ _ (inr (rw length-set (omega arith))) (walk_look a.limit a.step o.i o.counts o.r o.invariant.0 (search rules) (search rules) c.gains-more.ensures o.invariant.1)
