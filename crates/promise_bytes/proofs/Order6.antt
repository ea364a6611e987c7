-- Order 6, films of any size, on bytes: "Films that fitted before must come out the same".
-- Promises alone: of every run of the calls by their contracts (Runs), each listed in docs/PROMISES.md. A name with ' is lent memory at the end.
-- Assumes nothing.
use Prim.Native.Nat.{ℕ, ◌+◌, ◌*◌, ◌<◌}
use mathlib.Core.Bool.{false, cond}
use mathlib.Core.Path.{◌≡◌}
use lib.ListN.{get_or}
use Rattle.base_lists.specs.Lists.{onto}
use Rattle.base_rows.specs.Refuse.{accepted}
use Rattle.film_settings.specs.declared.MapRecord.{MapRecord}
use Rattle.film_settings.specs.declared.Footer.{Footer}
use Rattle.film_settings.specs.Settings.{clip_one_of}
use Rattle.promise_films.specs.Fitted.{Fitted, fit_grey, fit_mappings, fit_foot}
use Rattle.promise_films.proofs.Runs.{PrepareCall, EnhanceCall, DrawCall}
use Rattle.promise_films.proofs.Ways.{drawn_grey}
use Rattle.promise_bytes.proofs.Runs.{PreparesBytes, EnhancesBytes}
use Rattle.promise_bytes.proofs.Ended.{prepare_bytes_as_wide, enhance_bytes_as_wide, DrawnFromBytes, draw_bytes_shown, prepare_bytes_made}
use Rattle.promise_films.proofs.Fitted.{ended_fitted, shown_fitted, whole_fitted, whole_fitted_left}

-- a film of bytes whose sides are multiples of its grid, that prepare accepted
module _ {p : PrepareCall} {r : MapRecord} {foot : Footer} (ran : PreparesBytes p) (prepared : p.answer ≡ accepted (r, foot))
    (fitted : Fitted p.width p.height p.settings) where
  -- the mappings that it leaves (at the factor 1.0 it leaves the map buffer) and the footer are those of the rule before
  pub fitted_bytes_prepared : (p.map' ≡ cond (clip_one_of p.settings.clip) p.map (onto p.map (fit_mappings p.width p.height p.pixels p.settings)))
      × (foot ≡ fit_foot p.width p.height p.settings)
  fitted_bytes_prepared = ended_fitted p (prepare_bytes_as_wide ran prepared) prepared fitted

-- such a film that enhance accepted
module _ {e : EnhanceCall} {foot : Footer} (ran : EnhancesBytes e) (enhanced : e.answer ≡ accepted foot)
    (fitted : Fitted e.width e.height e.settings) where
  -- each pixel of the picture that it leaves is the one of the rule before
  pub fitted_bytes_enhanced : clip_one_of e.settings.clip ≡ false → (i j : ℕ) → i < e.width → j < e.height
      → get_or e.pixels' (j * e.width + i) 0 ≡ fit_grey e.width e.height e.pixels e.settings i j
  fitted_bytes_enhanced = whole_fitted e (enhance_bytes_as_wide ran enhanced) enhanced fitted

  -- and so are the mappings and the footer
  pub fitted_bytes_enhanced_left : (e.map' ≡ cond (clip_one_of e.settings.clip) e.map (onto e.map (fit_mappings e.width e.height e.pixels e.settings)))
      × (foot ≡ fit_foot e.width e.height e.settings)
  fitted_bytes_enhanced_left = whole_fitted_left e (enhance_bytes_as_wide ran enhanced) enhanced fitted

-- each pixel drawn from what prepare left of such a film is the one of the rule before
pub fitted_bytes_drawn : {p : PrepareCall} {foot : Footer} {d : DrawCall} → DrawnFromBytes p foot d → Fitted p.width p.height p.settings → clip_one_of p.settings.clip ≡ false
    → (j i : ℕ) → j < d.window.height → i < d.window.width
    → drawn_grey d i j ≡ fit_grey p.width p.height p.pixels p.settings (d.window.left + i) (d.window.top + j)
fitted_bytes_drawn from fitted = shown_fitted (prepare_bytes_made from.prepares from.prepared) (draw_bytes_shown from.draws from.drawn) from.drawn from.pixels from.mappings fitted
