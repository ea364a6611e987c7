-- `map_counts` meets its contract: refused, at the factor 1.0, or with the mappings and the list laid down.
use mathlib.Core.Path.{refl}
use Rattle.base_rows.proofs.Given.{number_some}
use Rattle.film_prepare.proofs.Endings.{prepared_err}
use Rattle.film_map.proofs.Endings.{map_refused, asks_maps, asks_foot, map_one, map_well}
use Rattle.film_map.proofs.map_counts.Goals as goal

pub returns-in_err-map_refusal : goal.returns-in_err-map_refusal
returns-in_err-map_refusal c = rw (prepared_err _ _ c.from_residual.ensures.1) (map_refused _ _ _ _ _ _ _ _ c.in_err-map_refusal.ensures (number_some _))

pub foot-footer-requires : goal.foot-footer-requires
foot-footer-requires c = asks_foot _ _ _ _ _ _ _ c.in_ok-map_refusal.ensures refl

pub made_for-kept-requires : goal.made_for-kept-requires
made_for-kept-requires c = (asks_maps _ _ _ _ _ _ _ c.in_ok-map_refusal.ensures refl).film.tiled

pub returns-then-one : goal.returns-then-one
returns-then-one c = map_one _ _ _ _ _ _ _ _ c.in_ok-map_refusal.ensures refl c.foot-footer.ensures c.made_for-kept.ensures c.clip_one-one.ensures c.if-one.true

pub map_all-requires : goal.map_all-requires
map_all-requires c = asks_maps _ _ _ _ _ _ _ c.in_ok-map_refusal.ensures refl

pub returns : goal.returns
returns c = map_well _ _ _ _ _ _ _ _ c.in_ok-map_refusal.ensures refl c.foot-footer.ensures c.made_for-kept.ensures c.clip_one-one.ensures c.if-one.false c.map_all.ensures
