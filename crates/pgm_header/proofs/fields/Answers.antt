-- Three numbers one behind the other, and the end. Assumes nothing.
use mathlib.Core.Path.{sym, ap, ◌∙◌}
use native.Mathlib.Omega.{arith}
use Rattle.pgm_header.specs.Header.{Refused, is_white_of, misfit_of}
use Rattle.pgm_header.proofs.Told.{head_err}
use Rattle.pgm_header.proofs.Reading.{behind_read, behind_misfit, fields_read, fields_misfit, fields_ended, number_within, white_within, end_found, end_misfit}
use Rattle.pgm_header.proofs.fields.Goals as goal

pub returns-in_err-width : goal.returns-in_err-width
returns-in_err-width c = head_err _ _ c.from_residual.ensures.1 ∙ sym (fields_misfit _ (sym c.in_err-width.ensures))

pub read_number-requires-2 : goal.read_number-requires-2
read_number-requires-2 c = number_within c.args.s.now 2 _ _ c.requires (sym c.in_ok-width.ensures)

pub returns-in_err-height : goal.returns-in_err-height
returns-in_err-height c =
    head_err _ _ c.from_residual-in_err-height.ensures.1 ∙ sym (fields_read _ (sym c.in_ok-width.ensures) ∙ behind_misfit _ (sym c.in_err-height.ensures))

pub read_number-requires-3 : goal.read_number-requires-3
read_number-requires-3 c =
    number_within c.args.s.now _ _ _ (number_within c.args.s.now 2 _ _ c.requires (sym c.in_ok-width.ensures)) (sym c.in_ok-height.ensures)

pub returns-in_err-maxval : goal.returns-in_err-maxval
returns-in_err-maxval c =
    head_err _ _ c.from_residual-in_err-maxval.ensures.1
    ∙ sym (fields_read _ (sym c.in_ok-width.ensures) ∙ (behind_read _ (sym c.in_ok-height.ensures) ∙ behind_misfit _ (sym c.in_err-maxval.ensures)))

pub returns-then-not-is_white : goal.returns-then-not-is_white
returns-then-not-is_white c =
    ap Refused (c.misfit.ensures ∙ ap misfit_of c.byte-b.ensures)
    ∙ sym
    (fields_ended _ (sym c.in_ok-width.ensures) (sym c.in_ok-height.ensures) (sym c.in_ok-maxval.ensures)
    ∙ end_misfit _ _ _ _ _ (ap is_white_of (sym c.byte-b.ensures) ∙ (sym c.is_white.ensures ∙ c.if-not-is_white.true)))

pub overflow_add-result : goal.overflow_add-result
overflow_add-result c =
    omega (arith, white_within c.args.s.now c.in_ok-maxval.maxval.end (ap is_white_of (sym c.byte-b.ensures) ∙ (sym c.is_white.ensures ∙ c.if-not-is_white.false)))

pub returns : goal.returns
returns c =
    sym
    (fields_ended _ (sym c.in_ok-width.ensures) (sym c.in_ok-height.ensures) (sym c.in_ok-maxval.ensures)
    ∙ end_found _ _ _ _ _ (ap is_white_of (sym c.byte-b.ensures) ∙ (sym c.is_white.ensures ∙ c.if-not-is_white.false)))
