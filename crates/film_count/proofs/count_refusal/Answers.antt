-- `count_refusal` gives the first of counting's refusals that applies.
use mathlib.Core.Bool.{true, false}
use mathlib.Core.Path.{sym, ◌∙◌}
use Rattle.base_rows.proofs.Given.{refused_front, passed_front}
use Rattle.film_count.specs.Counting.{count_rows}
use Rattle.film_count.proofs.Tables.{picture_numbered, counts_numbered, picture_tiled, lent_asks, outside_row_lem}
use Rattle.film_count.proofs.count_refusal.Goals as goal

pub returns-in_err-picture_refusal : goal.returns-in_err-picture_refusal
unfolding count_rows
returns-in_err-picture_refusal c = refused_front _ _ _ _ c.in_err-picture_refusal.ensures c.from_residual.ensures.1

pub counts_refusal-requires : goal.counts_refusal-requires
counts_refusal-requires c = lent_asks (picture_tiled _ _ _ _ (sym c.in_ok-picture_refusal.ensures)).0

pub returns-in_err-counts_refusal : goal.returns-in_err-counts_refusal
unfolding count_rows
returns-in_err-counts_refusal c =
    passed_front _ _ (picture_numbered _ _ _ _) c.in_ok-picture_refusal.ensures
    (refused_front _ _ _ _ c.in_err-counts_refusal.ensures c.from_residual-in_err-counts_refusal.ensures.1)

pub returns-then-not-all_within : goal.returns-then-not-all_within
unfolding count_rows
returns-then-not-all_within c =
    passed_front _ _ (picture_numbered _ _ _ _) c.in_ok-picture_refusal.ensures
    (passed_front _ _ (counts_numbered _ _) c.in_ok-counts_refusal.ensures
    (outside_row_lem _ _ false (sym c.if-not-all_within.true ∙ c.all_within.ensures)))

pub returns : goal.returns
unfolding count_rows
returns c =
    passed_front _ _ (picture_numbered _ _ _ _) c.in_ok-picture_refusal.ensures
    (passed_front _ _ (counts_numbered _ _) c.in_ok-counts_refusal.ensures
    (outside_row_lem _ _ true (sym c.if-not-all_within.false ∙ c.all_within.ensures)))
