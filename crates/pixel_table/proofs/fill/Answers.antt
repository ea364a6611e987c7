use native.Mathlib.Omega.{arith}
use Rattle.pixel_table.proofs.Patches.{patch_none}
use Rattle.pixel_table.proofs.Tables.{most_room, pair_room, pair_under, start_room, fill_next, fill_end}
use Rattle.pixel_table.proofs.fill.Goals as goal

pub loop-k-init : goal.loop-k-init
loop-k-init c = patch_none _ _ _ (omega (arith, c.requires.2, c.requires.5))

pub side-left-requires : goal.side-left-requires
side-left-requires c = let most = c.requires.1.most c.loop-k.k (omega (arith, c.requires.3)) in pair_room c.requires.0 most.0 most.2

pub side-right-requires : goal.side-right-requires
side-right-requires c = let most = c.requires.1.most c.loop-k.k (omega (arith, c.requires.3)) in pair_room c.requires.0 most.1 most.3

pub overflow_mul-table : goal.overflow_mul-table
overflow_mul-table c = let most = c.requires.1.most c.loop-k.k (omega (arith, c.requires.3)) in omega (arith, start_room c.requires.0 most.0 most.2 c.side-left.ensures)

pub overflow_add-table : goal.overflow_add-table
overflow_add-table c = let most = c.requires.1.most c.loop-k.k (omega (arith, c.requires.3)) in omega (arith, pair_under c.requires.0 most.1 most.3 c.side-right.ensures, most_room c.requires.0)

pub overflow_sub-table : goal.overflow_sub-table
overflow_sub-table c = let most = c.requires.1.most c.loop-k.k (omega (arith, c.requires.3)) in omega (arith, pair_under c.requires.0 most.0 most.2 c.side-left.ensures)

pub loop-k-preserved : goal.loop-k-preserved
loop-k-preserved c = fill_next _ _ _ _ _ _ _ _ _ _ c.loop-k.k c.loop-k.invariant (omega arith) (omega (arith, c.requires.5)) c.side-left.ensures c.side-right.ensures

pub returns : goal.returns
returns c = fill_end c.requires.0 c.requires.1 _ _ {k = c.loop-k.k} c.loop-k.invariant (omega (arith, c.requires.2)) (omega arith) c.requires.3
