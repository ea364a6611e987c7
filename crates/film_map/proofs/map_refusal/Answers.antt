-- `map_refusal` gives the first of mapping's refusals that applies.
use mathlib.Core.Bool.{true, false}
use mathlib.Core.Path.{sym, ◌∙◌}
use Rattle.base_rows.proofs.Given.{refused_front, passed_front}
use Rattle.film_map.specs.Counts.{map_rows_of}
use Rattle.film_count.proofs.Tables.{lent_asks}
use Rattle.film_map.proofs.Tables.{tiling_numbered, lent_numbered, tiling_tiled, lent_fits, sum_row}
use Rattle.film_map.proofs.map_refusal.Goals as goal

pub returns-in_err-tiling_refusal : goal.returns-in_err-tiling_refusal
unfolding map_rows_of
returns-in_err-tiling_refusal c = refused_front _ _ _ _ c.in_err-tiling_refusal.ensures c.from_residual.ensures.1

pub lent_refusal-requires : goal.lent_refusal-requires
lent_refusal-requires c = lent_asks (tiling_tiled _ _ _ (sym c.in_ok-tiling_refusal.ensures)).0

pub returns-in_err-lent_refusal : goal.returns-in_err-lent_refusal
unfolding map_rows_of
returns-in_err-lent_refusal c =
    passed_front _ _ (tiling_numbered _ _ _) c.in_ok-tiling_refusal.ensures
    (refused_front _ _ _ _ c.in_err-lent_refusal.ensures c.from_residual-in_err-lent_refusal.ensures.1)

pub all_add_up-requires : goal.all_add_up-requires
all_add_up-requires c =
    record {
      tiled = (tiling_tiled _ _ _ (sym c.in_ok-tiling_refusal.ensures)).0;
      fitting = (lent_fits _ _ _ _ _ (sym c.in_ok-lent_refusal.ensures)).3;
    }

pub returns-then-not-all_add_up : goal.returns-then-not-all_add_up
unfolding map_rows_of
returns-then-not-all_add_up c =
    passed_front _ _ (tiling_numbered _ _ _) c.in_ok-tiling_refusal.ensures
    (passed_front _ _ (lent_numbered _ _ _ _ _) c.in_ok-lent_refusal.ensures
    (sum_row _ _ _ _ false (sym c.if-not-all_add_up.true ∙ c.all_add_up.ensures)))

pub returns : goal.returns
unfolding map_rows_of
returns c =
    passed_front _ _ (tiling_numbered _ _ _) c.in_ok-tiling_refusal.ensures
    (passed_front _ _ (lent_numbered _ _ _ _ _) c.in_ok-lent_refusal.ensures
    (sum_row _ _ _ _ true (sym c.if-not-all_add_up.false ∙ c.all_add_up.ensures)))
