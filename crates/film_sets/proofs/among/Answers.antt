-- `film_sets::among` meets its contract: `any` tests each set's number.
use Rattle.std.proofs.Common.{rules, tests, eqb, ◌∙◌}
use Rattle.std.proofs.lemmas.Iterator.{YieldsList-from_slice}
use Rattle.std.proofs.lemmas.Iterator.Search.{any_from_yields_List}
use Rattle.film_sets.specs.declared.Set.{Set}
use Rattle.film_sets.proofs.Finds.{among_any}
use Rattle.film_sets.proofs.among.Goals as goal

pub returns : goal.returns
returns c =
    any_from_yields_List (λ (r : Set). eqb r.film c.args.number) _ _ c.any.result c.any.ensures.ran (YieldsList-from_slice c.args.sets.now c.iter.ensures.rest) (λ x b q k. search (rules, tests))
    ∙ among_any c.args.number c.args.sets.now
