-- Refused before the target is written, or laid down.
use mathlib.Core.Path.{refl, sym, ap, ◌∙◌}
use native.Mathlib.Omega.{arith}
use Rattle.base_rows.proofs.Given.{number_some}
use Rattle.pgm_raster.proofs.Tables.{count_small}
use Rattle.pgm_read.specs.Pgm.{sizes_says}
use Rattle.pgm_read.proofs.Tables.{sizes_err}
use Rattle.pgm_plain_read.specs.PlainRead.{plain_read_as}
use Rattle.pgm_plain_read.proofs.Tables.{plain_asks, samples_kept, samples_laid, lay_asks}
use Rattle.pgm_plain_read.proofs.lay_film.Goals as goal

pub returns-in_err-plain_refusal : goal.returns-in_err-plain_refusal
returns-in_err-plain_refusal c =
    ap (λ a. plain_read_as a c.args.target.now) (sizes_err _ _ c.from_residual.ensures.1)
    ∙ samples_kept _ _ _ _ _ _ c.in_err-plain_refusal.ensures (number_some _)

pub overflow_mul-count : goal.overflow_mul-count
overflow_mul-count c =
    let t = (plain_asks _ _ _ _ _ _ (sym c.in_ok-plain_refusal.ensures)).within in
    omega (arith, count_small _ _ t.widest t.highest)

pub lay_greys-requires : goal.lay_greys-requires
lay_greys-requires c = lay_asks _ _ _ _ _ _ c.requires c.in_ok-plain_refusal.ensures refl

pub returns : goal.returns
unfolding sizes_says
returns c = samples_laid _ _ _ _ _ _ c.in_ok-plain_refusal.ensures refl c.lay_greys.ensures
