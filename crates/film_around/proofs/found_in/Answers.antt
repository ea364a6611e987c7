-- `found_in` gives the value by the bins of the span where these hold all pixels.
use Prim.Native.Nat.{◌+◌}
use mathlib.Core.Path.{◌∙◌}
use native.Mathlib.Omega.{arith}
use Rattle.film_around.proofs.Twins.{within_over}
use Rattle.film_around.proofs.Finds.{sum_asks, span_asks, span_found}
use borrow.Author.Rules.{rules}
use Rattle.film_around.proofs.found_in.Goals as goal

pub through-requires : goal.through-requires
through-requires c = sum_asks c.requires {low = c.args.span.low} {end = c.args.span.top + 1} (search rules) (search rules) (search rules)

pub value_span-requires : goal.value_span-requires
value_span-requires c = span_asks c.requires {low = c.args.span.low} {end = c.args.span.top + 1} (search rules) (search rules) (search rules) c.through.ensures (search rules) (c.copy_within.ensures.after ∙ within_over _ _ _ _ (search rules) (omega (arith, c.requires.room)))

pub returns : goal.returns
returns c = span_found c.requires {low = c.args.span.low} {end = c.args.span.top + 1} (search rules) (search rules) (search rules) c.through.ensures (search rules) (c.copy_within.ensures.after ∙ within_over _ _ _ _ (search rules) (omega (arith, c.requires.room))) c.value_span.ensures
