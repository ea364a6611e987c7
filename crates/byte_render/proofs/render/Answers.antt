use Prim.Native.Nat.{◌+◌, ◌*◌, ◌-◌}
use mathlib.Core.Path.{◌≡◌, refl}
use borrow.Rule.Slice.PartMut.{put_mid}
use native.Mathlib.Omega.{arith}
use Rattle.base_lists.specs.Lists.{blocks}
use Rattle.base_lists.proofs.Fills.{blocks_none}
use Rattle.pixel_render.proofs.Strips.{strip, strip_room, strips_next, strips_length, strips_end}
use Rattle.byte_render.proofs.Lines.{wide_asks, bytes_asks}
use Rattle.byte_render.proofs.render.Goals as goal

pub loop-j-init : goal.loop-j-init
loop-j-init c = (refl, refl, refl, blocks_none _ _ _)

pub overflow_mul-a : goal.overflow_mul-a
overflow_mul-a c = omega (arith, strip_room (wide_asks c.requires) {j = c.loop-j.j} (omega arith))

pub overflow_add-e : goal.overflow_add-e
overflow_add-e c = omega (arith, strip_room (wide_asks c.requires) {j = c.loop-j.j} (omega arith))

pub slice_bounds-byte_row-end : goal.slice_bounds-byte_row-end
slice_bounds-byte_row-end c = omega (arith, strip_room (wide_asks c.requires) {j = c.loop-j.j} (omega arith))

pub overflow_add-win : goal.overflow_add-win
overflow_add-win c = omega (arith, c.requires.shown.down)

pub byte_row-requires : goal.byte_row-requires
byte_row-requires c = bytes_asks c.requires c.loop-j.invariant.3 (omega arith) c.loop-j.invariant.1

pub loop-j-preserved : goal.loop-j-preserved
loop-j-preserved c =
    let laid : put_mid (c.loop-j.j * c.args.win.width) (c.loop-j.j * c.args.win.width + c.args.win.width - c.loop-j.j * c.args.win.width) c.loop-j.pixels c.byte_row.new.pixels
    ≡ blocks c.args.win.width (strip c.args.width c.args.height c.args.s c.args.map.now c.args.win c.args.pixels.now) c.args.pixels.now (c.loop-j.j + 1) =
    strips_next (wide_asks c.requires) c.loop-j.invariant.3 (omega arith) c.byte_row.ensures in
    (strips_length (wide_asks c.requires) laid (omega arith), omega arith, omega arith, laid)

pub returns : goal.returns
returns c = strips_end (wide_asks c.requires) c.loop-j.invariant.3 (omega arith) (omega arith)
