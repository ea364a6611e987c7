-- `count_tiles` meets its contract: refused, or with the counts laid down.
use mathlib.Core.Path.{refl}
use Rattle.base_rows.proofs.Given.{number_some, said_err}
use Rattle.film_count.proofs.Endings.{asks_count, count_refused, count_well}
use Rattle.film_count.proofs.count_tiles.Goals as goal

pub returns-in_err-count_refusal : goal.returns-in_err-count_refusal
returns-in_err-count_refusal c = rw (said_err _ _ c.from_residual.ensures.1) (count_refused _ _ _ _ _ c.in_err-count_refusal.ensures (number_some _))

pub count_all-requires : goal.count_all-requires
count_all-requires c = asks_count _ _ _ _ _ c.in_ok-count_refusal.ensures refl

pub returns : goal.returns
returns c = count_well _ _ _ _ _ c.in_ok-count_refusal.ensures refl c.count_all.ensures
