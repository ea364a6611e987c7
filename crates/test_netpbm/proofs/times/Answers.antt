-- `test_netpbm::times` is safe: two numbers of at most 64 have a product that fits. Assumes nothing.
use Prim.Native.Nat.{◌%◌, ◌≤◌}
use native.Mathlib.Nat.{mul-le-mul}
use native.Mathlib.Omega.{arith}
use Rattle.test_netpbm.proofs.times.Goals as goal

pub overflow_mul-result : goal.overflow_mul-result
overflow_mul-result c =
    let a : c.args.width % 65 ≤ 64 = omega arith in
    let b : c.args.height % 65 ≤ 64 = omega arith in
    omega (arith, mul-le-mul a b)
