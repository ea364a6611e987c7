-- `clip_bad` says what the judgement of the setting does.
use mathlib.Core.Path.{sym, ◌∙◌}
use Rattle.film_settings.proofs.Clips.{bad_refused, bad_other}
use Rattle.film_settings.proofs.clip_bad.Goals as goal

pub returns-in-Refused : goal.returns-in-Refused
returns-in-Refused c = bad_refused _ (sym c.judge.ensures ∙ c.in-Refused.is)

pub returns-in_default : goal.returns-in_default
returns-in_default c = bad_other _ (λ q. c.in_default.not-Refused (c.judge.ensures ∙ q))
