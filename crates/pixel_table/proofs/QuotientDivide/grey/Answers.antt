-- A `Quotient`'s grey meets its contract: a weighted mean of values of at most 4095 is no larger.
use Prim.Native.Nat.{◌*◌, ◌/◌, ◌≤◌}
use native.Mathlib.Nat.{div-le_of_le-mul}
use native.Mathlib.Omega.{arith}
use Rattle.pixel_table.proofs.QuotientDivide.grey.Goals as goal

pub overflow_cast-result : goal.overflow_cast-result
overflow_cast-result c =
    let small : c.args.sum / (c.args.self.now.spot.column.span * c.args.self.now.spot.row.span) ≤ 4095 = div-le_of_le-mul (c.args.self.now.spot.column.span * c.args.self.now.spot.row.span) c.requires.3 in
    omega (arith, c.quotient.ensures)
