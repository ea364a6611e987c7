-- The pixels passed hold what the closure gives, those ahead are as they were.
use Prim.Native.Nat.{ℕ, ◌<◌, ◌≤◌}
use mathlib.Core.Path.{◌≡◌}
use lib.ListN.{get_or}
use Rattle.pixel_bins.proofs.bins_with.Given as goal

abbrev pub invariant-loop-pixel : goal.invariant-loop-pixel
invariant-loop-pixel g l =
    ((k : ℕ) → k < l.pixel-index → goal.F-post g l.bin (get_or l.initial.pixels k 0) (get_or l.pixels k 0))
    × ((k : ℕ) → l.pixel-index ≤ k → get_or l.pixels k 0 ≡ get_or l.initial.pixels k 0)
