-- `paint_pixels` gives the pixels of a row, each by its own region.
use Prim.Native.Nat.{◌<◌, ◌%◌}
use mathlib.Core.Path.{◌≡◌}
use lib.ListN.{length}
use Rattle.base_lists.specs.Lists.{filled}
use Rattle.film_around.specs.Around.{around_grey, RegionHeld, KeptPart}
use Rattle.film_around.proofs.paint_pixels.Given as goal

abbrev pub invariant-loop-x : goal.invariant-loop-x
invariant-loop-x l = (l.out ≡ filled (λ i. around_grey l.width l.height l.picture l.side l.s i l.y) l.initial.out l.x) × RegionHeld l.width l.height l.picture l.side l.s l.x l.y l.by.bins l.initial.scratch l.scratch × (length l.part ≡ length l.initial.part) × (0 < l.x % 64 → KeptPart l.width l.height l.picture l.side l.x l.y l.kept.win l.part)
