-- The rows of the picture, then the room. Assumes nothing.
use mathlib.Core.Path.{refl, sym, ◌∙◌}
use native.Mathlib.Omega.{arith}
use Rattle.base_rows.proofs.Given.{given_err, number_some}
use Rattle.pgm_header.proofs.Laws.{header_bytes_small}
use Rattle.pgm_raster.proofs.Tables.{count_small}
use Rattle.pgm_write.proofs.Tables.{picture_film, written_front, written_short, written_fits}
use Rattle.pgm_plain_write.proofs.Parts.{length_file, film_lines}
use Rattle.pgm_plain_write.proofs.write_refusal.Goals as goal

pub returns-in_err-picture_refusal : goal.returns-in_err-picture_refusal
returns-in_err-picture_refusal c = given_err _ _ c.from_residual.ensures.1 ∙ written_front _ _ _ _ _ _ c.in_err-picture_refusal.ensures (number_some _)

pub header_length-header-requires : goal.header_length-header-requires
header_length-header-requires c =
    let t = (picture_film _ _ _ _ (sym c.in_ok-picture_refusal.ensures)).within in
    (omega (arith, t.widest), omega (arith, t.highest), omega (arith, t.maxval_most))

pub overflow_mul-picture : goal.overflow_mul-picture
overflow_mul-picture c =
    let f = picture_film _ _ _ _ (sym c.in_ok-picture_refusal.ensures) in
    omega (arith, f.whole, count_small _ _ f.within.widest f.within.highest)

pub overflow_add-header : goal.overflow_add-header
overflow_add-header c =
    let f = picture_film _ _ _ _ (sym c.in_ok-picture_refusal.ensures) in
    let a = c.args in
    omega (arith, c.header_length-header.ensures, header_bytes_small a.width a.height a.maxval, f.whole, count_small _ _ f.within.widest f.within.highest)

pub returns-then-header-picture : goal.returns-then-header-picture
returns-then-header-picture c =
    let f = picture_film _ _ _ _ (sym c.in_ok-picture_refusal.ensures) in
    let a = c.args in
    written_fits _ _ _ _ _ _ c.in_ok-picture_refusal.ensures refl
    (omega (arith, c.if-header-picture.true, c.header_length-header.ensures, film_lines f, length_file a.picture.now a.width a.height a.maxval))

pub lines_length-requires : goal.lines_length-requires
lines_length-requires c =
    let f = picture_film _ _ _ _ (sym c.in_ok-picture_refusal.ensures) in
    omega (arith, f.whole, count_small _ _ f.within.widest f.within.highest)

pub overflow_add-header-2 : goal.overflow_add-header-2
overflow_add-header-2 c =
    let f = picture_film _ _ _ _ (sym c.in_ok-picture_refusal.ensures) in
    let a = c.args in
    omega (arith, c.header_length-header.ensures, c.lines_length.ensures, header_bytes_small a.width a.height a.maxval, film_lines f, f.whole, count_small _ _ f.within.widest f.within.highest)

pub returns-then-room-header : goal.returns-then-room-header
returns-then-room-header c =
    let a = c.args in
    written_short _ _ _ _ _ _ c.in_ok-picture_refusal.ensures refl
    (omega (arith, c.if-room-header.true, c.header_length-header.ensures, c.lines_length.ensures, length_file a.picture.now a.width a.height a.maxval))

pub returns : goal.returns
returns c =
    let a = c.args in
    written_fits _ _ _ _ _ _ c.in_ok-picture_refusal.ensures refl
    (omega (arith, c.if-room-header.false, c.header_length-header.ensures, c.lines_length.ensures, length_file a.picture.now a.width a.height a.maxval))
