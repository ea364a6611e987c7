-- Order 3, bins that are reached, on bytes: "every bin has at least one grey", of every film of bytes that a call accepts.
-- Promises alone: of every run of the calls by their contracts (Runs), each listed in docs/PROMISES.md. A name with ' is lent memory at the end.
-- Assumes nothing.
use mathlib.Core.Path.{◌≡◌}
use Rattle.base_rows.specs.Refuse.{accepted}
use Rattle.film_settings.specs.declared.MapRecord.{MapRecord}
use Rattle.film_settings.specs.declared.Footer.{Footer}
use Rattle.promise_films.specs.Films.{BinsReached}
use Rattle.promise_films.proofs.Runs.{PrepareCall, EnhanceCall, DrawCall}
use Rattle.promise_bytes.proofs.Runs.{PreparesBytes, EnhancesBytes, DrawsBytes}
use Rattle.promise_bytes.proofs.Ended.{prepare_bytes_made, enhance_bytes_as_wide, draw_bytes_shown}
use Rattle.promise_films.proofs.Made.{made_reached, shown_reached}
use Rattle.promise_films.proofs.Whole.{whole_reached}

-- ---- prepare on bytes

module _ {p : PrepareCall} {r : MapRecord} {foot : Footer} (ran : PreparesBytes p) (prepared : p.answer ≡ accepted (r, foot)) where
  -- order 3: "every bin has at least one grey"
  pub prepared_bytes_bins_reached : BinsReached p.settings
  prepared_bytes_bins_reached = made_reached (prepare_bytes_made ran prepared)

-- ---- enhance on bytes

module _ {e : EnhanceCall} {foot : Footer} (ran : EnhancesBytes e) (done : e.answer ≡ accepted foot) where
  -- of every film that enhance accepts
  pub enhanced_bytes_bins_reached : BinsReached e.settings
  enhanced_bytes_bins_reached = whole_reached e (enhance_bytes_as_wide ran done) done

-- ---- draw on bytes

-- and of every film that draw accepts
pub drawn_bytes_bins_reached : {d : DrawCall} → DrawsBytes d → d.answer ≡ accepted tt → BinsReached d.settings
drawn_bytes_bins_reached ran done = shown_reached (draw_bytes_shown ran done) done
