-- By the header: refused, or the film.
use mathlib.Core.Path.{sym, ap, ◌∙◌}
use Rattle.pgm_read.proofs.Tables.{sizes_err}
use Rattle.pgm_plain.proofs.Heads.{head_sound}
use Rattle.pgm_plain_read.specs.PlainRead.{plain_read_as}
use Rattle.pgm_plain_read.proofs.Tables.{read_found, read_refused}
use Rattle.pgm_plain_read.proofs.read_plain.Goals as goal

pub returns-in_err-head : goal.returns-in_err-head
returns-in_err-head c = ap (λ a. plain_read_as a c.args.target.now) (sizes_err _ _ c.from_residual.ensures.1) ∙ read_refused _ _ c.in_err-head.ensures

pub lay_film-requires : goal.lay_film-requires
lay_film-requires c = (head_sound _ (sym c.in_ok-head.ensures)).0

pub returns : goal.returns
returns c = read_found _ _ c.in_ok-head.ensures c.lay_film.ensures
