-- `refusal` gives draw's first row that applies: 1 to 9, 31, 10 and 11, 15, 16 and 17, 13 and 18.
use mathlib.Core.Path.{sym}
use Rattle.base_rows.proofs.Given.{refused_front, passed_front}
use Rattle.film_settings.proofs.Ready.{shared_numbered, ready}
use Rattle.film_record.proofs.Tables.{record_numbered, window_numbered}
use Rattle.film_draw.specs.Draw.{draw_rows}
use Rattle.film_draw.proofs.Tables.{look_asks}
use Rattle.film_draw.proofs.refusal.Goals as goal

pub returns-in_err-shared : goal.returns-in_err-shared
unfolding draw_rows
returns-in_err-shared c = refused_front _ _ _ _ c.in_err-shared.ensures c.from_residual.ensures.1

pub record_refusal-requires : goal.record_refusal-requires
record_refusal-requires c = (ready _ _ _ _ _ (sym c.in_ok-shared.ensures)).tiled

pub returns-in_err-record_refusal : goal.returns-in_err-record_refusal
unfolding draw_rows
returns-in_err-record_refusal c =
    passed_front _ _ (shared_numbered _ _ _ _ _) c.in_ok-shared.ensures
    (refused_front _ _ _ _ c.in_err-record_refusal.ensures c.from_residual-in_err-record_refusal.ensures.1)

pub returns-in_err-window_refusal : goal.returns-in_err-window_refusal
unfolding draw_rows
returns-in_err-window_refusal c =
    passed_front _ _ (shared_numbered _ _ _ _ _) c.in_ok-shared.ensures
    (passed_front _ _ (record_numbered _ _ _ _ _) c.in_ok-record_refusal.ensures
    (refused_front _ _ _ _ c.in_err-window_refusal.ensures c.from_residual-in_err-window_refusal.ensures.1))

pub pixel_refusal-requires : goal.pixel_refusal-requires
pixel_refusal-requires c = look_asks _ _ c.args.picture.now _ _ c.args.map.now _ (sym c.in_ok-shared.ensures) (sym c.in_ok-window_refusal.ensures)

pub returns : goal.returns
unfolding draw_rows
returns c =
    passed_front _ _ (shared_numbered _ _ _ _ _) c.in_ok-shared.ensures
    (passed_front _ _ (record_numbered _ _ _ _ _) c.in_ok-record_refusal.ensures
    (passed_front _ _ (window_numbered _ _ _ _) c.in_ok-window_refusal.ensures c.pixel_refusal.ensures))
