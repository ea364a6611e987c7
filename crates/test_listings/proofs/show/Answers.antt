-- `listings::show` is safe: the text fits its array.
use mathlib.Core.Path.{sym}
use lib.Seq.{length-take-le}
use native.Mathlib.Omega.{arith}
use Rattle.listing_file.proofs.Calls.{list_fits}
use Rattle.test_listings.proofs.show.Goals as goal

pub slice_bounds-text-end : goal.slice_bounds-text-end
slice_bounds-text-end c = omega (arith, list_fits _ _ c.list.ensures, c.laid-length.ensures, c.list.auto.out)

pub slice_bounds-write_all-end-2 : goal.slice_bounds-write_all-end-2
slice_bounds-write_all-end-2 c = sym (length-take-le _ _ (omega (arith, list_fits _ _ c.list.ensures, c.laid-length.ensures, c.list.auto.out)))
