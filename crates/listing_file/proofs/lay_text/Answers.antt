-- `listing_file::lay_text` meets its contract, by the input's length, its header and what read answers.
use mathlib.Core.Path.{sym, ap, ◌∙◌}
use Rattle.pgm_read.specs.Pgm.{sizes_says}
use native.Mathlib.Omega.{arith}
use Rattle.listing_line.specs.Lines.{refused_text}
use Rattle.listing_file.proofs.Refusals.{read_below}
use Rattle.listing_file.proofs.Calls.{told_both, sizes_refused, listing_long, listing_larger, listing_refused, list_asks, listing_found}
use Rattle.listing_file.proofs.lay_text.Goals as goal

pub returns-then-bytes-gt32768 : goal.returns-then-bytes-gt32768
returns-then-bytes-gt32768 c = told_both c.refused_line.ensures (listing_long _ c.if-bytes-gt32768.true)

pub returns-then-is_larger : goal.returns-then-is_larger
returns-then-is_larger c = told_both c.refused_line-then-is_larger.ensures (listing_larger _ c.if-bytes-gt32768.false c.is_larger.ensures c.if-is_larger.true)

pub list_raster-requires : goal.list_raster-requires
unfolding sizes_says
list_raster-requires c =
    list_asks _ c.if-bytes-gt32768.false c.is_larger.ensures c.if-is_larger.false (ap sizes_says (sym c.in-Ok.is) ∙ c.read_sizes.ensures) c.read_raster.ensures.0 _ c.requires

pub refused_line-requires-in-Err : goal.refused_line-requires-in-Err
unfolding sizes_says
refused_line-requires-in-Err c =
    let below = read_below _ (sizes_refused _ (ap sizes_says (sym c.in-Err.is) ∙ c.read_sizes.ensures)) in
    (omega (arith, below, c.number.ensures), c.requires)

pub returns-in-Ok : goal.returns-in-Ok
unfolding sizes_says
returns-in-Ok c =
    told_both c.list_raster.ensures
    (listing_found _ c.if-bytes-gt32768.false c.is_larger.ensures c.if-is_larger.false (ap sizes_says (sym c.in-Ok.is) ∙ c.read_sizes.ensures) c.read_raster.ensures.0)

pub returns-in-Err : goal.returns-in-Err
unfolding sizes_says
returns-in-Err c =
    told_both c.refused_line-in-Err.ensures
    (ap refused_text c.number.ensures ∙ listing_refused _ c.if-bytes-gt32768.false c.is_larger.ensures c.if-is_larger.false (ap sizes_says (sym c.in-Err.is) ∙ c.read_sizes.ensures))
