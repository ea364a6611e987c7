-- `clip_one` says what the judgement of the setting does.
use mathlib.Core.Path.{sym, ◌∙◌}
use Rattle.film_settings.proofs.Clips.{one_one, one_other}
use Rattle.film_settings.proofs.clip_one.Goals as goal

pub returns-in-One : goal.returns-in-One
returns-in-One c = one_one _ (sym c.judge.ensures ∙ c.in-One.is)

pub returns-in_default : goal.returns-in_default
returns-in_default c = one_other _ (λ q. c.in_default.not-One (c.judge.ensures ∙ q))
