-- `test_reach_films::bytes::grey` is safe: the place is within the picture where it is read, and an entry fits the answer. Assumes nothing.
use Rattle.std.proofs.Common.{arith}
use Rattle.test_reach_films.proofs.bytes.grey.Goals as goal

pub overflow_cast-result : goal.overflow_cast-result
overflow_cast-result c = omega (arith, c.shared_slice_known-1.given c.args.i)
