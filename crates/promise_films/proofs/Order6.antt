-- Order 6, films of any size: "15 is also given where the record's edges or centres aren't those of this rule", and "Films that fitted before must come out the same".
-- Promises alone: of every run of the calls by their contracts (Runs), each listed in docs/PROMISES.md. A name with ' is lent memory at the end.
-- Assumes nothing.
use Prim.Native.Nat.{ℕ, ◌+◌, ◌*◌, ◌<◌}
use mathlib.Core.Bool.{false, cond}
use mathlib.Core.Logic.{◌≢◌}
use mathlib.Core.Path.{◌≡◌}
use lib.ListN.{length, get_or}
use Rattle.base_rows.specs.Refuse.{first, accepted, refused}
use Rattle.pixel_grid.specs.Grid.{axis_of}
use Rattle.film_settings.specs.declared.MapRecord.{MapRecord}
use Rattle.film_settings.specs.declared.Footer.{Footer}
use Rattle.film_settings.specs.Settings.{clip_one_of, shared_rows}
use Rattle.promise_films.proofs.Ended.{draw_shown}
use Rattle.promise_films.proofs.Runs.{PrepareCall, Prepares, prepare_ends, EnhanceCall, Enhances, enhance_ends, DrawCall, Draws}
use Rattle.promise_films.proofs.Ways.{DrawnFrom, drawn_grey}
use Rattle.base_lists.specs.Lists.{onto}
use Rattle.promise_films.specs.Fitted.{Fitted, fit_grey, fit_mappings, fit_foot}
use Rattle.promise_films.proofs.Demand2.{draw_differing_15}
use Rattle.promise_films.proofs.Made.{prepare_made}
use Rattle.promise_films.proofs.Fitted.{ended_fitted, whole_fitted, whole_fitted_left, shown_fitted}

-- ---- a record with other edges or centres

-- 15, "record differs in film number, size or any setting (bins 0 read as 128 on both sides)": given where none of 1 to 11 and 31 applies, whatever the window, the output,
-- the pixels and the map entries
module _ {d : DrawCall} (ran : Draws d) (shared : first (shared_rows d.width d.height (length d.pixels) d.settings (length d.map)) ≡ 0) where
  -- order 6, "15 is also given where the record's edges or centres aren't those of this rule": those of the columns, any of them
  pub other_columns_15 : axis_of d.width d.settings.across ≢ d.kept.columns → d.answer ≡ refused 15
  other_columns_15 other = draw_differing_15 ran shared (λ held. other held.columns)

  -- and of the rows
  pub other_rows_15 : axis_of d.height d.settings.down ≢ d.kept.rows → d.answer ≡ refused 15
  other_rows_15 other = draw_differing_15 ran shared (λ held. other held.rows)

-- ---- films that fitted before

-- such a film that prepare accepted
module _ {p : PrepareCall} {r : MapRecord} {foot : Footer} (ran : Prepares p) (prepared : p.answer ≡ accepted (r, foot))
    (fitted : Fitted p.width p.height p.settings) where
  -- the mappings that it leaves (at the factor 1.0 it leaves the map buffer) and the footer are those of the rule before
  pub fitted_prepared : (p.map' ≡ cond (clip_one_of p.settings.clip) p.map (onto p.map (fit_mappings p.width p.height p.pixels p.settings)))
      × (foot ≡ fit_foot p.width p.height p.settings)
  fitted_prepared = ended_fitted p (prepare_ends ran) prepared fitted

-- such a film that enhance accepted
module _ {e : EnhanceCall} {foot : Footer} (ran : Enhances e) (enhanced : e.answer ≡ accepted foot)
    (fitted : Fitted e.width e.height e.settings) where
  -- each pixel of the picture that it leaves is the one of the rule before
  pub fitted_enhanced : clip_one_of e.settings.clip ≡ false → (i j : ℕ) → i < e.width → j < e.height
      → get_or e.pixels' (j * e.width + i) 0 ≡ fit_grey e.width e.height e.pixels e.settings i j
  fitted_enhanced = whole_fitted e (enhance_ends ran) enhanced fitted

  -- and so are the mappings and the footer
  pub fitted_enhanced_left : (e.map' ≡ cond (clip_one_of e.settings.clip) e.map (onto e.map (fit_mappings e.width e.height e.pixels e.settings)))
      × (foot ≡ fit_foot e.width e.height e.settings)
  fitted_enhanced_left = whole_fitted_left e (enhance_ends ran) enhanced fitted

-- each pixel drawn from what prepare left of such a film is the one of the rule before
pub fitted_drawn : {p : PrepareCall} {foot : Footer} {d : DrawCall} → DrawnFrom p foot d → Fitted p.width p.height p.settings → clip_one_of p.settings.clip ≡ false
    → (j i : ℕ) → j < d.window.height → i < d.window.width
    → drawn_grey d i j ≡ fit_grey p.width p.height p.pixels p.settings (d.window.left + i) (d.window.top + j)
fitted_drawn from fitted = shown_fitted (prepare_made from.prepares from.prepared) (draw_shown from.draws) from.drawn from.pixels from.mappings fitted
