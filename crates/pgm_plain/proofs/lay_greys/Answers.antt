use native.Mathlib.Omega.{arith}
use borrow.Author.Rules.{rules}
use Rattle.pgm_plain.proofs.Samples.{laid_first, laid_white, laid_read, laid_next, laid_small, laid_end}
use Rattle.pgm_plain.proofs.lay_greys.Goals as goal

pub loop-i-init : goal.loop-i-init
loop-i-init c = laid_first _ c.requires

pub white_end-from-requires : goal.white_end-from-requires
white_end-from-requires c = c.loop-i.invariant.laying.near

pub digits-found-requires : goal.digits-found-requires
digits-found-requires c = laid_white c.loop-i.invariant c.white_end-from.ensures

pub overflow_cast-target : goal.overflow_cast-target
overflow_cast-target c =
    let o = c.loop-i in
    omega (arith, laid_small o.invariant (laid_read o.invariant (search rules) c.white_end-from.ensures c.digits-found.ensures))

pub bounds-target-i : goal.bounds-target-i
bounds-target-i c = let o = c.loop-i in search (rules, o.invariant.room, o.invariant.long)

pub loop-i-preserved : goal.loop-i-preserved
loop-i-preserved c =
    let o = c.loop-i in
    laid_next o.invariant (search rules) (laid_read o.invariant (search rules) c.white_end-from.ensures c.digits-found.ensures)

pub returns : goal.returns
returns c = laid_end c.loop-i.invariant (search rules)
