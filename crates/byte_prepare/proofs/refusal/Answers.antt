-- `refusal` gives the first of 1 to 9, 31, 10, 30, 11, 12, 32 and 13 that applies; 13 is never given, since the picture is of bytes.
use mathlib.Core.Bool.{true}
use mathlib.Core.Path.{refl, sym, ◌∙◌}
use native.Mathlib.Omega.{arith}
use Rattle.base_rows.proofs.Given.{number_some, given_err}
use Rattle.film_tiles.proofs.Tiles.{tiles_most}
use Rattle.film_prepare.proofs.Table.{listed_scratch, listed_short, listed_greys}
use Rattle.byte_profile.proofs.Profile.{byte_ready}
use Rattle.byte_profile.proofs.Greys.{bytes_within, bytes_told}
use Rattle.byte_prepare.proofs.Tables.{bytes_shared, bytes_work}
use Rattle.byte_prepare.proofs.refusal.Goals as goal

pub returns-in_err-shared : goal.returns-in_err-shared
returns-in_err-shared c = (
  given_err _ _ c.from_residual.ensures.1 ∙ bytes_shared _ _ _ _ _ _ _ c.in_err-shared.ensures (number_some _),
  bytes_told _ (λ i. omega (arith, c.shared_slice_known-1.given i)),
)

pub returns-then-scratch-bins : goal.returns-then-scratch-bins
returns-then-scratch-bins c = (
  bytes_work _ _ _ _ _ _ _ c.in_ok-shared.ensures refl (listed_scratch _ _ _ _ c.bins.ensures c.if-scratch-bins.true),
  bytes_told _ (λ i. omega (arith, c.shared_slice_known-1.given i)),
)

pub overflow_mul-s : goal.overflow_mul-s
overflow_mul-s c = omega (arith, tiles_most (byte_ready _ _ _ _ _ (sym c.in_ok-shared.ensures)).ready.tiled)

pub overflow_cast-s : goal.overflow_cast-s
overflow_cast-s c = omega (arith, tiles_most (byte_ready _ _ _ _ _ (sym c.in_ok-shared.ensures)).ready.tiled)

pub overflow_mul-s-2 : goal.overflow_mul-s-2
overflow_mul-s-2 c = omega (arith, tiles_most (byte_ready _ _ _ _ _ (sym c.in_ok-shared.ensures)).ready.tiled)

pub returns-then-list-s : goal.returns-then-list-s
returns-then-list-s c = (
  bytes_work _ _ _ _ _ _ _ c.in_ok-shared.ensures refl (listed_short _ _ _ _ c.bins.ensures c.if-scratch-bins.false c.if-list-s.true),
  bytes_told _ (λ i. omega (arith, c.shared_slice_known-1.given i)),
)

pub returns : goal.returns
returns c = (
  bytes_work _ _ _ _ _ _ _ c.in_ok-shared.ensures refl
      (listed_greys _ _ _ _ c.bins.ensures c.if-scratch-bins.false c.if-list-s.false true
      (sym (bytes_within _ (byte_ready _ _ _ _ _ (sym c.in_ok-shared.ensures)).profile (λ i l. omega (arith, c.shared_slice_known-1.given i))))),
  bytes_told _ (λ i. omega (arith, c.shared_slice_known-1.given i)),
)
