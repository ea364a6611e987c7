-- What clipping counts takes at most, in both editions: the excess is at most their total, and the looks of the leftover walk at most B x (B + 1) / 2 times as many.
-- Assumes nothing.
use Prim.Native.Nat.{ℕ, ◌+◌, ◌*◌, ◌≤◌}
use mathlib.Core.List.{List}
use native.Mathlib.Nat.{mul-le-mul_right}
use native.Mathlib.Omega.{arith}
use lib.ListN.{length}
use Rattle.base_lists.specs.Lists.{total}
use Rattle.tile_limit.specs.declared.Clip.{Clip}
use Rattle.tile_limit.specs.declared.Clip.TheVariants.{Off, Factor}
use Rattle.tile_limit.specs.declared.Edition.{Edition}
use Rattle.tile_limit.specs.declared.Edition.TheVariants.{Ours, Of1986}
use Rattle.tile_limit.specs.Limit.{limit_of}
use Rattle.tile_clip.specs.Clip.{left}
use Rattle.tile_clip.proofs.Shares.{excess_most, total_first}
use Rattle.tile_clip.proofs.Laws.{looks_within}
use Rattle.tile_map.specs.Tile.{took_in, spent_by}

-- at a limit
took_excess : (ed : Edition) (l : ℕ) (cs : List ℕ) → (took_in ed l cs).excess ≤ total cs
took_excess Ours l cs = excess_most l cs
took_excess Of1986 l cs = excess_most l cs

took_looks : (ed : Edition) (l : ℕ) (cs : List ℕ) → 2 * (took_in ed l cs).looks ≤ total cs * (length cs * (length cs + 1))
took_looks Ours l cs =
    let few : left l cs ≤ total cs = omega (arith, total_first l cs) in
    omega (arith, looks_within l cs, mul-le-mul_right (length cs * (length cs + 1)) few)
took_looks Of1986 l cs = omega arith

-- by the clip setting: the excess is at most their total
pub spent_excess : (ed : Edition) (clip : Clip) (n : ℕ) (cs : List ℕ) → (spent_by ed clip n cs).excess ≤ total cs
unfolding spent_by
spent_excess ed Off n cs = omega arith
spent_excess ed (Factor f) n cs = took_excess ed (limit_of f n (length cs)) cs

-- so is what is left of it, which bounds the looks
pub spent_looks : (ed : Edition) (clip : Clip) (n : ℕ) (cs : List ℕ) → 2 * (spent_by ed clip n cs).looks ≤ total cs * (length cs * (length cs + 1))
unfolding spent_by
spent_looks ed Off n cs = omega arith
spent_looks ed (Factor f) n cs = took_looks ed (limit_of f n (length cs)) cs
