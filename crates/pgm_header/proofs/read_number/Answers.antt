-- White space, then digits; or the misfit. Assumes nothing.
use mathlib.Core.Path.{sym, ap, ◌∙◌}
use native.Mathlib.Omega.{arith}
use Rattle.pgm_header.specs.Header.{Misfit, is_white_of, misfit_of, first_digit_of}
use Rattle.pgm_header.proofs.Reading.{white_le, number_behind, number_misfit}
use Rattle.pgm_header.proofs.read_number.Goals as goal

pub returns-then-not-is_white : goal.returns-then-not-is_white
returns-then-not-is_white c =
    ap Misfit (c.misfit.ensures ∙ ap misfit_of c.byte-b.ensures)
    ∙ sym (number_misfit _ _ (ap is_white_of (sym c.byte-b.ensures) ∙ (sym c.is_white.ensures ∙ c.if-not-is_white.true)))

pub first_digit-requires : goal.first_digit-requires
first_digit-requires c = omega (arith, c.white_end-start.ensures, white_le c.args.s.now c.args.at c.requires)

pub returns : goal.returns
returns c =
    c.first_digit.ensures
    ∙ (ap (first_digit_of c.args.s.now) c.white_end-start.ensures
    ∙ sym (number_behind _ _ (ap is_white_of (sym c.byte-b.ensures) ∙ (sym c.is_white.ensures ∙ c.if-not-is_white.false))))
