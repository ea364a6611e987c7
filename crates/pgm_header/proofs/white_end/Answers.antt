use mathlib.Core.Path.{◌≡◌, sym, ◌∙◌}
use lib.ListN.{length}
use borrow.Author.Rules.{rules}
use Rattle.pgm_header.proofs.Reading.{white_step, white_stop, white_end_lem}
use Rattle.pgm_header.proofs.white_end.Goals as goal

pub returns-then-not-is_white : goal.returns-then-not-is_white
returns-then-not-is_white c = sym (c.loop-i.invariant ∙ white_stop c.args.s.now _ (sym c.is_white.ensures ∙ c.if-not-is_white.true))

pub loop-i-preserved : goal.loop-i-preserved
loop-i-preserved c = c.loop-i.invariant ∙ white_step c.args.s.now _ (sym c.is_white.ensures ∙ c.if-not-is_white.false)

pub returns : goal.returns
returns c =
    let e : c.loop-i.i ≡ length c.args.s.now = search rules in
    sym (c.loop-i.invariant ∙ (white_end_lem c.args.s.now _ (search rules) ∙ e))
