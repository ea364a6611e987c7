-- `pixel_place::grey_by` meets its contract: the quotient of the weighed sum is the grey.
use mathlib.Core.Path.{ap, ◌∙◌}
use Prim.Native.Nat.{◌*◌, ◌/◌}
use Rattle.pixel_place.specs.Blend.{grey_of}
use Rattle.pixel_place.proofs.Laws.{weighed_most}
use Rattle.pixel_place.proofs.grey_by.Goals as goal

pub quotient-requires : goal.quotient-requires
quotient-requires c = (
  c.requires.0,
  c.requires.1,
  c.requires.2,
  rw c.weigh.ensures (weighed_most c.requires.0 c.requires.1 c.requires.3 c.requires.4 c.requires.5 c.requires.6),
)

pub returns : goal.returns
unfolding grey_of
returns c = c.quotient.ensures ∙ ap (λ n. n / (c.args.column.span * c.args.row.span)) c.weigh.ensures
