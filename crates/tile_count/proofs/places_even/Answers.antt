use mathlib.Core.Path.{sym, ap, subst, ◌∙◌}
use lib.ListN.{length-map}
use native.Mathlib.Omega.{arith}
use Rattle.base_lists.proofs.Fills.{filled_none, filled_step}
use Rattle.tile_count.specs.Tally.{place_in, BinAsks}
use Rattle.tile_count.proofs.Ways.{next_grey, grey_at, places_end}
use Rattle.tile_count.proofs.places_even.Goals as goal

pub loop-x-init : goal.loop-x-init
loop-x-init g c = filled_none _ _

pub place_even-requires : goal.place_even-requires
place_even-requires g c = (subst (BinAsks c.args.by) (sym (grey_at g.T.Grey.value c.args.row.now c.loop-x-test.true c.index-row-x.is c.value.ensures)) (next_grey c.requires.0 c.loop-x.x (omega (arith, length-map c.args.row.now g.T.Grey.value))), c.requires.1, c.requires.2)

pub loop-x-preserved : goal.loop-x-preserved
loop-x-preserved g c =
    filled_step
    _
    _
    c.loop-x.invariant
    (omega (arith, c.requires.0.enough, length-map c.args.row.now g.T.Grey.value))
    (c.place_even.ensures ∙ ap (place_in c.args.by) (grey_at g.T.Grey.value c.args.row.now c.loop-x-test.true c.index-row-x.is c.value.ensures))

pub returns : goal.returns
returns g c =
    places_end c.args.by _ _ {x = c.loop-x.x} c.loop-x.invariant (omega (arith, length-map c.args.row.now g.T.Grey.value)) (omega (arith, length-map c.args.row.now g.T.Grey.value))
