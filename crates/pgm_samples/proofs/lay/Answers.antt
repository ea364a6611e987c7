-- One byte, or two with the high one first.
use Prim.Native.Nat.{◌*◌, ◌/◌, ◌%◌}
use mathlib.Core.Bool.{true, false}
use mathlib.Core.Path.{◌≡◌}
use native.Mathlib.Nat.{mul-one}
use borrow.Author.Rules.{rules}
use denote.Param.{number}
use Rattle.base_lists.proofs.Overs.{set_over, over_two}
use Rattle.pgm_samples.specs.contracts.lay.{WIDE-type}
use Rattle.pgm_samples.proofs.lay.Goals as goal

pub returns-then-this-ne0 : goal.returns-then-this-ne0
returns-then-this-ne0 g c =
    let e : WIDE-type (number g.row.WIDE) ≡ true = search rules in
    rw e (over_two c.args.out.now (c.args.i * 2) (c.args.grey / 256) (c.args.grey % 256) (search rules))

pub returns-else-this-ne0 : goal.returns-else-this-ne0
returns-else-this-ne0 g c =
    let e : WIDE-type (number g.row.WIDE) ≡ false = search rules in
    rw (e, mul-one) (set_over c.args.out.now c.args.i c.args.grey (search rules))
