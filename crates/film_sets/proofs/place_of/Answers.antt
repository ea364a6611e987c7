-- `film_sets::place_of` meets its contract: `position` finds the first set of this number.
use Rattle.std.proofs.Common.{rules, tests, eqb, ap, ◌∙◌}
use Rattle.std.proofs.lemmas.Iterator.{YieldsList-from_slice}
use Rattle.std.proofs.lemmas.Iterator.Search.{position_from_yields_List}
use Rattle.film_sets.specs.declared.Set.{Set}
use Rattle.film_sets.specs.Sets.{before}
use Rattle.film_sets.proofs.Finds.{before_found}
use Rattle.film_sets.proofs.place_of.Goals as goal

pub returns : goal.returns
returns c =
    c.unwrap_or.ensures
    ∙ before_found c.args.number c.stored-sets.result.now
    (position_from_yields_List (λ (r : Set). eqb r.film c.args.number) _ _ c.position.result c.position.ensures.ran (YieldsList-from_slice c.stored-sets.result.now c.iter.ensures.rest) (λ x b q k. search (rules, tests)))
    ∙ ap (before c.args.number) c.stored-sets.ensures
