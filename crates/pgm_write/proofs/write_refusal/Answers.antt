-- The rows of write: those of the picture, then the room. Assumes nothing.
use mathlib.Core.Path.{refl, sym, ◌∙◌}
use native.Mathlib.Omega.{arith}
use Rattle.base_rows.proofs.Given.{given_err, number_some}
use Rattle.pgm_header.proofs.Laws.{header_bytes_small}
use Rattle.pgm_raster.proofs.Tables.{raster_small}
use Rattle.pgm_write.proofs.Tables.{length_file, picture_film, written_front, written_short, written_fits}
use Rattle.pgm_write.proofs.write_refusal.Goals as goal

pub returns-in_err-picture_refusal : goal.returns-in_err-picture_refusal
returns-in_err-picture_refusal c = given_err _ _ c.from_residual.ensures.1 ∙ written_front _ _ _ _ _ _ c.in_err-picture_refusal.ensures (number_some _)

pub header_length-header-requires : goal.header_length-header-requires
header_length-header-requires c =
    let t = (picture_film _ _ _ _ (sym c.in_ok-picture_refusal.ensures)).within in
    (omega (arith, t.widest), omega (arith, t.highest), omega (arith, t.maxval_most))

pub raster_size-requires : goal.raster_size-requires
raster_size-requires c =
    let t = (picture_film _ _ _ _ (sym c.in_ok-picture_refusal.ensures)).within in
    (t.widest, t.highest)

pub overflow_add-header : goal.overflow_add-header
overflow_add-header c =
    let t = (picture_film _ _ _ _ (sym c.in_ok-picture_refusal.ensures)).within in
    let a = c.args in
    omega (arith, c.header_length-header.ensures, c.raster_size.ensures, header_bytes_small a.width a.height a.maxval, raster_small a.width a.height a.maxval t.widest t.highest)

pub returns-then-room-header : goal.returns-then-room-header
returns-then-room-header c =
    let e = c.in_ok-picture_refusal.ensures in
    let a = c.args in
    written_short _ _ _ _ _ _ e refl (omega (arith, c.if-room-header.true, c.header_length-header.ensures, c.raster_size.ensures, length_file a.picture.now a.width a.height a.maxval (picture_film _ _ _ _ (sym e)).whole))

pub returns : goal.returns
returns c =
    let e = c.in_ok-picture_refusal.ensures in
    let a = c.args in
    written_fits _ _ _ _ _ _ e refl (omega (arith, c.if-room-header.false, c.header_length-header.ensures, c.raster_size.ensures, length_file a.picture.now a.width a.height a.maxval (picture_film _ _ _ _ (sym e)).whole))
