-- Order 3, bins that are reached, of counting and mapping: "every bin has at least one grey".
-- Promises alone: of every run of the calls by their contracts (Runs), each listed in docs/PROMISES.md. A name with ' is lent memory at the end.
-- Assumes nothing.
use mathlib.Core.Path.{◌≡◌}
use Rattle.base_rows.specs.Refuse.{accepted}
use Rattle.film_settings.specs.declared.MapRecord.{MapRecord}
use Rattle.film_settings.specs.declared.Footer.{Footer}
use Rattle.promise_films.specs.Films.{BinsReached}
use Rattle.promise_films.proofs.Bins.{tiled_reached}
use Rattle.promise_counts.proofs.Runs.{CountCall, Counts, MapCall, Maps}
use Rattle.promise_counts.proofs.Tables.{counted_tiled, mapped_asks}

-- ---- counting

-- order 3: "every bin has at least one grey", of every film that counting accepts
pub counted_bins_reached : {c : CountCall} → Counts c → c.answer ≡ accepted tt → BinsReached c.settings
counted_bins_reached ran done = tiled_reached (counted_tiled ran done)

-- ---- mapping of any counts

module _ {d : MapCall} {r : MapRecord} {foot : Footer} (ran : Maps d) (mapped : d.answer ≡ accepted (r, foot)) where
  -- order 3: "every bin has at least one grey"
  pub mapped_bins_reached : BinsReached d.settings
  mapped_bins_reached = tiled_reached (mapped_asks ran mapped).tiled
