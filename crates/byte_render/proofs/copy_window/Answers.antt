use Prim.Native.Nat.{◌-◌, ◌+◌, ◌*◌}
use mathlib.Core.Path.{◌≡◌, refl}
use borrow.Rule.Slice.PartMut.{put_mid}
use borrow.Author.Rules.{rules}
use Rattle.base_lists.specs.Lists.{blocks}
use Rattle.base_lists.proofs.Fills.{blocks_none}
use Rattle.film_window.proofs.Frames.{line, line_part, rows_next, rows_length, rows_end}
use Rattle.byte_render.proofs.copy_window.Goals as goal

pub loop-y-init : goal.loop-y-init
loop-y-init c = (refl, blocks_none _ _ _)

pub loop-y-preserved : goal.loop-y-preserved
loop-y-preserved c =
    let laid : put_mid (c.loop-y.y * c.args.win.width) (c.loop-y.y * c.args.win.width + c.args.win.width - c.loop-y.y * c.args.win.width) c.loop-y.out c.copy.new.dst
    ≡ blocks c.args.win.width (line c.args.picture.now c.args.stride c.args.win) c.args.out.now (c.loop-y.y + 1) =
    rows_next c.requires c.loop-y.invariant.1 c.loop-y.invariant.0 (search rules) (line_part _ _ _ c.requires.framed _ (search rules)) c.copy.ensures in
    (rows_length c.requires laid (search rules), laid)

pub returns : goal.returns
returns c = rows_end c.requires c.loop-y.invariant.1 (search rules) (search rules)
