use Prim.Native.Nat.{◌-◌, ◌<◌}
use lib.ListN.{length}
use native.Mathlib.Omega.{arith}
use borrow.Author.Rules.{rules}
use Rattle.listing_line.proofs.Lines.{writing_first, writing_short, writing_at, writing_room, writing_next, writing_end}
use Rattle.listing_line.proofs.write_line.Goals as goal

pub overflow_sub-last : goal.overflow_sub-last
overflow_sub-last c = omega (arith, c.requires.some)

pub loop-i-init : goal.loop-i-init
loop-i-init c = writing_first _ _ _ c.requires

pub field-p-requires : goal.field-p-requires
field-p-requires c = (writing_short _ _ c.requires.small (search (rules, c.requires.some)), writing_room c.loop-i.invariant)

pub loop-i-preserved : goal.loop-i-preserved
loop-i-preserved c = writing_next c.loop-i.invariant (search (rules, c.requires.some)) c.field-p.ensures.0 c.field-p.ensures.1 c.field-p.auto.out

pub bounds-numbers-last : goal.bounds-numbers-last
bounds-numbers-last c = omega (arith, c.requires.some)

pub field-requires : goal.field-requires
field-requires c = (
  writing_short _ _ c.requires.small (omega (arith, c.requires.some)),
  writing_room (writing_at (length c.args.numbers.now - 1) c.loop-i.invariant (search rules) (search rules)),
)

pub returns : goal.returns
returns c =
    writing_end (writing_at (length c.args.numbers.now - 1) c.loop-i.invariant (search rules) (search rules)) (omega (arith, c.requires.some))
    c.field.ensures.0 c.field.ensures.1
