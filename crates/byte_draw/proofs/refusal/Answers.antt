-- `byte_draw::refusal` gives the byte draw's first row that applies: 1 to 9, 31, 10, 30, 11, 15, 16 and 17; 13 and 18 never apply to bytes.
use mathlib.Core.Path.{refl, sym, ◌∙◌}
use native.Mathlib.Omega.{arith}
use Rattle.base_rows.proofs.Given.{number_some, given_err}
use Rattle.byte_profile.proofs.Profile.{byte_ready}
use Rattle.byte_profile.proofs.Greys.{bytes_told}
use Rattle.byte_draw.proofs.Tables.{rows_shared, rows_record, rows_window}
use Rattle.byte_draw.proofs.refusal.Goals as goal

pub returns-in_err-shared : goal.returns-in_err-shared
returns-in_err-shared c = (
  given_err _ _ c.from_residual.ensures.1 ∙ rows_shared _ _ _ _ _ _ _ _ _ c.in_err-shared.ensures (number_some _),
  bytes_told _ (λ i. omega (arith, c.shared_slice_known-1.given i)),
  bytes_told _ (λ i. omega (arith, c.shared_slice_known-2-1.given i)),
)

pub record_refusal-requires : goal.record_refusal-requires
record_refusal-requires c = (byte_ready _ _ _ _ _ (sym c.in_ok-shared.ensures)).ready.tiled

pub returns-in_err-record_refusal : goal.returns-in_err-record_refusal
returns-in_err-record_refusal c = (
  given_err _ _ c.from_residual-in_err-record_refusal.ensures.1 ∙ rows_record _ _ _ _ _ _ _ _ _ c.in_ok-shared.ensures refl c.in_err-record_refusal.ensures (number_some _),
  bytes_told _ (λ i. omega (arith, c.shared_slice_known-1.given i)),
  bytes_told _ (λ i. omega (arith, c.shared_slice_known-2-1.given i)),
)

pub returns : goal.returns
returns c = (
  rows_window _ _ _ _ _ _ _ _ _ c.in_ok-shared.ensures refl c.in_ok-record_refusal.ensures refl c.window_refusal.ensures (λ i. omega (arith, c.shared_slice_known-1.given i)) (λ i. omega (arith, c.shared_slice_known-2-1.given i)),
  bytes_told _ (λ i. omega (arith, c.shared_slice_known-1.given i)),
  bytes_told _ (λ i. omega (arith, c.shared_slice_known-2-1.given i)),
)
