-- The pieces are laid down one behind the other. Assumes nothing.
use mathlib.Core.Path.{◌≡◌, ◌∙◌}
use lib.ListN.{length, length-set}
use native.Mathlib.Omega.{arith}
use borrow.Author.Rules.{rules}
use Rattle.pgm_header.proofs.Writing.{length_header, header_laid}
use Rattle.pgm_header.proofs.write_header.Goals as goal

pub bounds-out-0 : goal.bounds-out-0
bounds-out-0 c = omega (arith, length_header c.args.width c.args.height c.args.maxval)

pub bounds-out-1 : goal.bounds-out-1
bounds-out-1 c = simp length-set (omega (arith, length_header c.args.width c.args.height c.args.maxval))

pub bounds-out-2 : goal.bounds-out-2
bounds-out-2 c = simp length-set (omega (arith, length_header c.args.width c.args.height c.args.maxval))

pub field-a-requires : goal.field-a-requires
field-a-requires c = (search rules, simp length-set (omega (arith, length_header c.args.width c.args.height c.args.maxval)))

pub field-b-requires : goal.field-b-requires
field-b-requires c =
    let k : length c.field-a.new.out ≡ length c.args.out.now = c.field-a.auto.out ∙ simp length-set in
    (search rules, omega (arith, k, c.field-a.ensures.1, length_header c.args.width c.args.height c.args.maxval))

pub field-requires : goal.field-requires
field-requires c =
    let k : length c.field-b.new.out ≡ length c.args.out.now = c.field-b.auto.out ∙ (c.field-a.auto.out ∙ simp length-set) in
    (search rules, omega (arith, k, c.field-b.ensures.1, c.field-a.ensures.1, length_header c.args.width c.args.height c.args.maxval))

pub returns : goal.returns
returns c = (
  header_laid
      c.args.out.now
      c.args.width
      c.args.height
      c.args.maxval
      (omega (arith, length_header c.args.width c.args.height c.args.maxval))
      c.field-a.ensures.0
      c.field-a.ensures.1
      c.field-b.ensures.0
      c.field-b.ensures.1
      c.field.ensures.0,
  omega (arith, c.field.ensures.1, c.field-b.ensures.1, c.field-a.ensures.1, length_header c.args.width c.args.height c.args.maxval),
)
