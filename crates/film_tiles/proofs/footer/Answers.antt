-- `footer` gives the footer of the clip setting, a tile's pixels and the bins.
use mathlib.Core.Path.{sym, ◌∙◌}
use Rattle.film_tiles.proofs.Footers.{footer_off, footer_one, footer_above, limit_asks, used_asks}
use Rattle.film_tiles.proofs.footer.Goals as goal

pub returns-then-clip_one : goal.returns-then-clip_one
returns-then-clip_one c = footer_one _ _ _ c.requires _ c.in-Factor.is (sym c.clip_one.ensures ∙ c.if-clip_one.true)

pub limit-limit-requires : goal.limit-limit-requires
limit-limit-requires c = limit_asks _ _ _ c.requires _ c.in-Factor.is

pub used-used-requires : goal.used-used-requires
used-used-requires c = used_asks _ _ _ c.requires _ c.in-Factor.is c.limit-limit.ensures

pub returns-in-Off : goal.returns-in-Off
returns-in-Off c = footer_off _ _ _ c.requires c.in-Off.is

pub returns-else-clip_one : goal.returns-else-clip_one
returns-else-clip_one c = footer_above _ _ _ c.requires _ c.in-Factor.is (sym c.clip_one.ensures ∙ c.if-clip_one.false) c.limit-limit.ensures c.used-used.ensures
