-- The call: excess, even share, first pass over the part, the starts.
use borrow.Author.Rules.{rules}
use native.Mathlib.Omega.{arith}
use Rattle.tile_clip.proofs.Framed.{share_few, share_small, span_pass, empty_take, span_turns, span_left, span_none}
use Rattle.tile_clip.proofs.clip_span.Goals as goal

pub overflow_cast-q : goal.overflow_cast-q
overflow_cast-q c = omega (arith, share_few c.requires c.excess-over.ensures)

pub share_out-requires : goal.share_out-requires
share_out-requires c = span_pass c.requires c.excess-over.ensures

pub overflow_sub-left : goal.overflow_sub-left
overflow_sub-left c = empty_take c.requires c.excess-over.ensures c.share_out.ensures

pub overflow_cast-q-2 : goal.overflow_cast-q-2
overflow_cast-q-2 c = omega (arith, share_few c.requires c.excess-over.ensures)

pub open_starts-most-requires : goal.open_starts-most-requires
open_starts-most-requires c = (share_small c.requires c.excess-over.ensures, c.requires.some_bin, c.requires.few_bins)

pub overflow_cast-q-3 : goal.overflow_cast-q-3
overflow_cast-q-3 c = omega (arith, share_few c.requires c.excess-over.ensures)

pub turns-handed-requires : goal.turns-handed-requires
turns-handed-requires c = span_turns c.requires c.excess-over.ensures c.share_out.ensures (omega (arith, c.open_starts-most.ensures, share_small c.requires c.excess-over.ensures)) (omega (arith, c.open_starts-most.ensures, c.requires.some_bin))

pub returns-then-handed-eq0 : goal.returns-then-handed-eq0
returns-then-handed-eq0 c = span_left c.requires c.excess-over.ensures c.share_out.ensures c.turns-handed.ensures (search rules)

pub returns-else-handed-eq0 : goal.returns-else-handed-eq0
returns-else-handed-eq0 c = span_none c.requires c.excess-over.ensures c.share_out.ensures c.turns-handed.ensures
