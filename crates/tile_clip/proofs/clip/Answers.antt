-- The call: excess, even share, first pass, leftover walk.
use native.Mathlib.Nat.{div-le_self}
use native.Mathlib.Omega.{arith}
use lib.ListN.{length}
use Rattle.tile_clip.proofs.Shares.{excess_most, pass_asked, walk_asked, clip_ends}
use Rattle.tile_clip.proofs.clip.Goals as goal

pub overflow_cast-q : goal.overflow_cast-q
overflow_cast-q c = let a = c.args in omega (arith, c.excess-over.ensures, div-le_self c.excess-over.result (length a.counts.now), excess_most a.limit a.counts.now)

pub share_out-left-requires : goal.share_out-left-requires
share_out-left-requires c = pass_asked _ c.requires c.excess-over.ensures

pub hand_out-looks-requires : goal.hand_out-looks-requires
hand_out-looks-requires c = walk_asked _ c.requires c.excess-over.ensures c.share_out-left.ensures

pub returns : goal.returns
returns c = clip_ends _ _ c.excess-over.ensures c.share_out-left.ensures c.hand_out-looks.ensures
