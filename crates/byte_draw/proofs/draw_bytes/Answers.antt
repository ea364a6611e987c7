-- `byte_draw::draw_bytes` answers and leaves what the byte draw's table and the drawn pixels say.
use mathlib.Core.Path.{refl, sym, ap, ◌∙◌}
use Rattle.base_rows.proofs.Given.{number_some, said_err}
use Rattle.film_draw.specs.Draw.{draw_leaves}
use Rattle.byte_draw.proofs.Tables.{byte_window_ready}
use Rattle.byte_draw.proofs.Works.{byte_draw_ends_refused, byte_draw_ends_well}
use Rattle.byte_draw.proofs.draw_bytes.Goals as goal

pub returns-in_err-refusal : goal.returns-in_err-refusal
returns-in_err-refusal c = (
  ap (λ a. draw_leaves a c.args.out.now) (said_err _ _ c.from_residual.ensures.1)
      ∙ byte_draw_ends_refused _ _ _ _ _ _ _ _ _ c.in_err-refusal.ensures.0 (number_some _),
  c.in_err-refusal.ensures.1,
  c.in_err-refusal.ensures.2,
)

pub work-requires : goal.work-requires
work-requires c = byte_window_ready _ _ _ _ _ _ _ _ _ (sym c.in_ok-refusal.ensures.0)

pub returns : goal.returns
returns c = (
  byte_draw_ends_well _ _ _ _ _ _ _ _ _ c.in_ok-refusal.ensures.0 refl c.work.ensures,
  c.in_ok-refusal.ensures.1,
  c.in_ok-refusal.ensures.2,
)
