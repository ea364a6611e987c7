-- The digits at a place: one law for each of the four ways.
use mathlib.Core.Path.{sym, ◌∙◌}
use borrow.Author.Rules.{rules}
use Rattle.pgm_plain.proofs.Samples.{judged_none, judged_other, judged_above, judged_grey, token_read}
use Rattle.pgm_plain.proofs.token.Goals.{then-found-from-via-then-found-from, then-found-from-via-else-found-from+then-not-ends_at}
use Rattle.pgm_plain.proofs.token.Goals as goal

pub returns-then-found-from : goal.returns-then-found-from
returns-then-found-from c =
    elim c.then-found-from.branch [
      | then-found-from-via-then-found-from w ↦ token_read _ _ _ c.digits-found.ensures (judged_none _ _ _ _ _ w.if-found-from.true)
      | then-found-from-via-else-found-from+then-not-ends_at w ↦
          token_read _ _ _ c.digits-found.ensures (judged_other _ _ _ _ _ w.if-found-from.false (sym w.ends_at.ensures ∙ w.if-not-ends_at.true))
    ]

pub returns-then-maxval-found : goal.returns-then-maxval-found
returns-then-maxval-found c =
    token_read _ _ _ c.digits-found.ensures (judged_above _ _ _ _ _ (search rules) (sym c.ends_at.ensures ∙ c.if-not-ends_at.false) (search rules))

pub returns : goal.returns
returns c = token_read _ _ _ c.digits-found.ensures (judged_grey _ _ _ _ _ (search rules) (sym c.ends_at.ensures ∙ c.if-not-ends_at.false) (search rules))
