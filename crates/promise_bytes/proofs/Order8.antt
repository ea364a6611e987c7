-- Order 8, the clip rule of 1986: "The byte profile keeps the present edition only."
-- Promises alone: of every run of the calls by their contracts (Runs), each listed in docs/PROMISES.md. A name with ' is lent memory at the end.
-- Assumes nothing.
use mathlib.Core.Path.{◌≡◌}
use Rattle.base_rows.specs.Refuse.{accepted}
use Rattle.tile_limit.specs.declared.Edition.TheVariants.{Ours}
use Rattle.film_settings.specs.declared.MapRecord.{MapRecord}
use Rattle.film_settings.specs.declared.Footer.{Footer}
use Rattle.promise_films.proofs.Runs.{PrepareCall, EnhanceCall}
use Rattle.promise_bytes.proofs.Runs.{PreparesBytes, EnhancesBytes}
use Rattle.promise_bytes.proofs.Ended.{prepare_bytes_held, enhance_bytes_held}

-- ---- prepare on bytes

module _ {p : PrepareCall} {r : MapRecord} {foot : Footer} (ran : PreparesBytes p) (prepared : p.answer ≡ accepted (r, foot)) where
  -- its settings are of our edition: order 8, "The byte profile keeps the present edition only."
  pub prepared_bytes_ours : p.settings.edition ≡ Ours
  prepared_bytes_ours = (prepare_bytes_held ran prepared).edition

-- ---- enhance on bytes

module _ {e : EnhanceCall} {foot : Footer} (ran : EnhancesBytes e) (done : e.answer ≡ accepted foot) where
  -- its settings are of our edition
  pub enhanced_bytes_ours : e.settings.edition ≡ Ours
  enhanced_bytes_ours = (enhance_bytes_held ran done).edition
