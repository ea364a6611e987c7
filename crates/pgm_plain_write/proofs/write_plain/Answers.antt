-- Refused before the output is written, or laid down. Assumes nothing.
use mathlib.Core.Path.{refl, sym, ap, ◌∙◌}
use Rattle.base_rows.proofs.Given.{said_err, number_some}
use Rattle.pgm_write.specs.Write.{write_leaves}
use Rattle.pgm_write.proofs.Tables.{write_asks}
use Rattle.pgm_write.proofs.Parts.{write_refused, write_done}
use Rattle.pgm_plain_write.proofs.write_plain.Goals as goal

pub returns-in_err-write_refusal : goal.returns-in_err-write_refusal
returns-in_err-write_refusal c =
    ap (λ a. write_leaves a c.args.out.now) (said_err _ _ c.from_residual.ensures.1) ∙ write_refused _ _ _ _ _ _ c.in_err-write_refusal.ensures (number_some _)

pub lay_file-requires : goal.lay_file-requires
lay_file-requires c = write_asks _ _ _ _ _ _ (sym c.in_ok-write_refusal.ensures)

pub returns : goal.returns
returns c = write_done _ _ _ _ _ _ c.in_ok-write_refusal.ensures refl c.lay_file.ensures.0 c.lay_file.ensures.1
