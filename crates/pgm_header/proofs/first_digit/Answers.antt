-- Digits, or the misfit. Assumes nothing.
use mathlib.Core.Path.{sym, ap, ◌∙◌}
use Rattle.pgm_header.specs.Header.{Misfit, is_digit_of, misfit_of}
use Rattle.pgm_header.proofs.Reading.{first_digits, first_misfit}
use Rattle.pgm_header.proofs.first_digit.Goals as goal

pub returns-then-not-is_digit : goal.returns-then-not-is_digit
returns-then-not-is_digit c =
    ap Misfit (c.misfit.ensures ∙ ap misfit_of c.byte-b.ensures)
    ∙ sym (first_misfit _ _ (ap is_digit_of (sym c.byte-b.ensures) ∙ (sym c.is_digit.ensures ∙ c.if-not-is_digit.true)))

pub returns : goal.returns
returns c = c.digits.ensures ∙ sym (first_digits _ _ (ap is_digit_of (sym c.byte-b.ensures) ∙ (sym c.is_digit.ensures ∙ c.if-not-is_digit.false)))
