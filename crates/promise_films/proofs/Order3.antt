-- Order 3, bins that are reached, call by call: every bin of a film that prepare, enhance or draw accepts has a grey of the range, and 31 is given only where some bin has none.
-- Promises alone: of every run of the calls by their contracts (Runs), each listed in docs/PROMISES.md. A name with ' is lent memory at the end.
-- Assumes nothing.
use mathlib.Core.Path.{◌≡◌, sym, ◌∙◌}
use lib.ListN.{length}
use Rattle.base_rows.specs.Refuse.{accepted, refused}
use Rattle.film_settings.specs.declared.MapRecord.{MapRecord}
use Rattle.film_settings.specs.declared.Footer.{Footer}
use Rattle.film_prepare.proofs.Table.{table_31, over_31}
use Rattle.film_draw.proofs.Tables.{draw_31}
use Rattle.promise_films.specs.Films.{BinsReached, BinUnreached}
use Rattle.promise_films.proofs.Accepted.{says_refused}
use Rattle.promise_films.proofs.Demand1.{prepare_says, enhance_says, draw_says}
use Rattle.promise_films.proofs.Ended.{draw_shown}
use Rattle.promise_films.proofs.Runs.{PrepareCall, Prepares, EnhanceCall, Enhances, DrawCall, Draws, enhance_ends}
use Rattle.promise_films.proofs.Bins.{more_unreached}
use Rattle.promise_films.proofs.Made.{prepare_made, made_reached, shown_reached}
use Rattle.promise_films.proofs.Whole.{whole_reached}

-- ---- every bin is reached

-- "every bin has at least one grey", of every film that prepare accepts
pub prepared_bins_reached : {p : PrepareCall} {r : MapRecord} {foot : Footer} → Prepares p → p.answer ≡ accepted (r, foot) → BinsReached p.settings
prepared_bins_reached ran done = made_reached (prepare_made ran done)

-- of every film that enhance accepts
pub enhanced_bins_reached : {e : EnhanceCall} {foot : Footer} → Enhances e → e.answer ≡ accepted foot → BinsReached e.settings
enhanced_bins_reached {e} ran done = whole_reached e (enhance_ends ran) done

-- and of every film that draw accepts
pub drawn_bins_reached : {d : DrawCall} → Draws d → d.answer ≡ accepted tt → BinsReached d.settings
drawn_bins_reached ran done = shown_reached (draw_shown ran) done

-- ---- 31

-- 31 is no wider than needed: where prepare gives it some bin has no grey of the range
pub prepare_31_unreached : {p : PrepareCall} → Prepares p → p.answer ≡ refused 31 → BinUnreached p.settings
prepare_31_unreached {p} ran q =
    more_unreached p.settings (table_31 p.width p.height p.pixels p.settings (length p.map) (length p.scratch) (length p.list) (says_refused _ _ (sym (prepare_says ran) ∙ q)))

-- and where enhance gives it
pub enhance_31_unreached : {e : EnhanceCall} → Enhances e → e.answer ≡ refused 31 → BinUnreached e.settings
enhance_31_unreached {e} ran q =
    more_unreached e.settings (over_31 e.width e.height e.pixels e.settings (length e.map) (length e.scratch) (says_refused _ _ (sym (enhance_says ran) ∙ q)))

-- and draw
pub draw_31_unreached : {d : DrawCall} → Draws d → d.answer ≡ refused 31 → BinUnreached d.settings
draw_31_unreached {d} ran q =
    more_unreached d.settings (draw_31 d.film d.width d.height d.pixels d.settings d.kept d.window d.map (length d.out) (says_refused _ _ (sym (draw_says ran) ∙ q)))
