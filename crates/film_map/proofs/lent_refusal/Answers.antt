-- `lent_refusal` gives the first of 11, 12, 32 and 33 that applies.
use mathlib.Core.Path.{refl}
use native.Mathlib.Nat.{mul-le-mul}
use native.Mathlib.Omega.{arith}
use Rattle.base_rows.proofs.Given.{refused_front}
use Rattle.film_map.specs.Counts.{lent_rows}
use Rattle.film_map.proofs.Tables.{lent_scratch, lent_list, lent_counts}
use Rattle.film_map.proofs.lent_refusal.Goals as goal

pub room_refusal-requires : goal.room_refusal-requires
room_refusal-requires c = (c.requires.across, c.requires.down, c.requires.bins)

pub returns-in_err-room_refusal : goal.returns-in_err-room_refusal
unfolding lent_rows
returns-in_err-room_refusal c = refused_front _ _ _ _ c.in_err-room_refusal.ensures c.from_residual.ensures.1

pub returns-then-scratch-bins : goal.returns-then-scratch-bins
returns-then-scratch-bins c = lent_scratch _ _ _ _ _ c.in_ok-room_refusal.ensures refl c.bins.ensures c.if-scratch-bins.true

pub overflow_mul-s : goal.overflow_mul-s
overflow_mul-s c = omega (arith, mul-le-mul c.requires.across c.requires.down)

pub overflow_cast-s : goal.overflow_cast-s
overflow_cast-s c = omega (arith, mul-le-mul c.requires.across c.requires.down)

pub overflow_mul-s-2 : goal.overflow_mul-s-2
overflow_mul-s-2 c = omega (arith, mul-le-mul c.requires.across c.requires.down)

pub returns-then-list-s : goal.returns-then-list-s
returns-then-list-s c =
    lent_list _ _ _ _ _ c.in_ok-room_refusal.ensures refl c.bins.ensures
    c.if-scratch-bins.false c.if-list-s.true

pub returns : goal.returns
returns c =
    lent_counts _ _ _ _ _ c.in_ok-room_refusal.ensures refl c.bins.ensures
    c.if-scratch-bins.false c.if-list-s.false c.counts_refusal.ensures
