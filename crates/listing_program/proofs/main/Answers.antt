-- `listing_file::main` is safe: the text fits its array.
use mathlib.Core.Path.{sym}
use lib.Seq.{length-take-le}
use native.Mathlib.Omega.{arith}
use Rattle.listing_file.proofs.Calls.{list_fits}
use Rattle.listing_program.proofs.main.Goals as goal

pub slice_bounds-text-end : goal.slice_bounds-text-end
slice_bounds-text-end c = omega (arith, list_fits _ _ c.list.ensures, c.laid-length.ensures, c.list.auto.out)

pub slice_bounds-write_all-end : goal.slice_bounds-write_all-end
slice_bounds-write_all-end c = sym (length-take-le _ _ (omega (arith, list_fits _ _ c.list.ensures, c.laid-length.ensures, c.list.auto.out)))
