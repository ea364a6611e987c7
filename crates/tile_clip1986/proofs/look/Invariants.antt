-- The invariant: the sums so far and those of the bins still to come are the whole ones.
use Prim.Native.Nat.{◌+◌}
use mathlib.Core.Path.{◌≡◌}
use lib.ListN.{drop}
use Rattle.tile_clip.specs.Clip.{excess}
use Rattle.tile_clip1986.specs.Older.{reach}
use Rattle.tile_clip1986.proofs.look.Given as goal

abbrev pub invariant-loop-count : goal.invariant-loop-count
invariant-loop-count l = record {
  above : l.over + excess l.level (drop l.count-index l.counts) ≡ excess l.level l.counts;
  at_least : l.reached + reach l.level (drop l.count-index l.counts) ≡ reach l.level l.counts;
}
