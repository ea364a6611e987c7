use mathlib.Core.Path.{sym, ◌∙◌}
use borrow.Author.Rules.{rules}
use Rattle.pgm_plain.proofs.Told.{scan_err}
use Rattle.pgm_plain.proofs.Samples.{sample_order, scan_first, scan_next, scan_refused, scan_end}
use Rattle.pgm_plain.proofs.scan_samples.Goals as goal

pub loop-i-init : goal.loop-i-init
loop-i-init c = (search rules, scan_first _ _ _ _)

pub returns-in_err-found : goal.returns-in_err-found
returns-in_err-found c =
    let a = c.args in
    let o = c.loop-i in
    scan_err _ _ c.from_residual.ensures.1
    ∙ sym (o.invariant.1 ∙ scan_refused a.maxval a.s.now a.count o._i o.p (search rules) c.in_err-found.ensures)

pub loop-i-preserved : goal.loop-i-preserved
loop-i-preserved c =
    let a = c.args in
    let o = c.loop-i in
    let q = c.in_ok-found.ensures in
    ((sample_order a.maxval a.s.now o.p o.invariant.0 (sym q)).within, o.invariant.1 ∙ scan_next a.maxval a.s.now a.count o._i o.p (search rules) q)

pub returns : goal.returns
returns c =
    let a = c.args in
    let o = c.loop-i in
    sym (o.invariant.1 ∙ scan_end a.maxval a.s.now a.count o._i o.p (search rules))
