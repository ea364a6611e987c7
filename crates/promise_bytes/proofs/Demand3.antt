-- Document 00, demand 3, of the byte calls: every tile of a film of bytes that prepare or enhance accepts, the footer, and order 2: the limits, and that no clip refusal is given.
-- Promises alone: of every run of the calls by their contracts (Runs), each listed in docs/PROMISES.md. A name with ' is lent memory at the end.
-- Assumes nothing.
use Prim.Native.Nat.{ℕ}
use mathlib.Core.Logic.{◌≢◌}
use mathlib.Core.Path.{◌≡◌, sym, ◌∙◌}
use lib.Ieee.{Float}
use lib.ListN.{length}
use Rattle.base_rows.specs.Refuse.{accepted, refused}
use Rattle.film_settings.specs.declared.MapRecord.{MapRecord}
use Rattle.film_settings.specs.declared.Footer.{Footer}
use Rattle.film_settings.specs.Settings.{bins_of}
use Rattle.film_tiles.specs.Tiles.{pixels_in}
use Rattle.promise_films.specs.Films.{ClippingOn, FooterShows, limit_in, FilmSound, LimitFits}
use Rattle.promise_films.proofs.Accepted.{says_refused}
use Rattle.promise_films.proofs.Runs.{PrepareCall, EnhanceCall}
use Rattle.promise_bytes.proofs.Runs.{PreparesBytes, EnhancesBytes}
use Rattle.promise_bytes.proofs.Demand1.{prepare_bytes_says, enhance_bytes_says}
use Rattle.byte_prepare.proofs.Tables.{rows_enough}
use Rattle.byte_prepare.proofs.Parts.{bytes_never_14}
use Rattle.promise_bytes.proofs.Ended.{prepare_bytes_held, prepare_bytes_made, enhance_bytes_as_wide, enhance_bytes_held}
use Rattle.promise_films.proofs.Made.{made_footer, made_limit_fits, made_tiles_sound}
use Rattle.promise_films.proofs.Whole.{whole_footer, whole_limit_fits, whole_tiles_sound}

-- ---- what prepare left

module _ {p : PrepareCall} {r : MapRecord} {foot : Footer} (ran : PreparesBytes p) (prepared : p.answer ≡ accepted (r, foot)) where
  -- what the footer shows, by the clip setting
  pub prepared_bytes_footer : FooterShows p.settings.clip (pixels_in p.width p.height p.settings 0) (bins_of p.settings) foot
  prepared_bytes_footer = made_footer (prepare_bytes_made ran prepared)

  -- and every tile, "with each tile's own N and L"
  pub prepared_bytes_tiles_sound : {f : Float} → ClippingOn p.settings.clip f → FilmSound p.width p.height p.pixels p.settings f p.map'
  prepared_bytes_tiles_sound on = made_tiles_sound (prepare_bytes_made ran prepared) on (prepare_bytes_held ran prepared).edition

  -- whose own limit holds it
  pub prepared_bytes_limit_fits : {f : Float} → ClippingOn p.settings.clip f → (k : ℕ)
      → LimitFits f (pixels_in p.width p.height p.settings k) (bins_of p.settings) (limit_in p.width p.height p.settings f k)
  prepared_bytes_limit_fits {f} on k = made_limit_fits (prepare_bytes_made ran prepared) f k

-- ---- the whole film

module _ {e : EnhanceCall} {foot : Footer} (ran : EnhancesBytes e) (done : e.answer ≡ accepted foot) where
  -- the same of enhance
  pub enhanced_bytes_footer : FooterShows e.settings.clip (pixels_in e.width e.height e.settings 0) (bins_of e.settings) foot
  enhanced_bytes_footer = whole_footer e (enhance_bytes_as_wide ran done) done

  -- every tile of a film that enhance accepts
  pub enhanced_bytes_tiles_sound : {f : Float} → ClippingOn e.settings.clip f → FilmSound e.width e.height e.pixels e.settings f e.map'
  enhanced_bytes_tiles_sound on = whole_tiles_sound e (enhance_bytes_as_wide ran done) done on (enhance_bytes_held ran done).edition

  -- whose own limit holds it
  pub enhanced_bytes_limit_fits : {f : Float} → ClippingOn e.settings.clip f → (k : ℕ)
      → LimitFits f (pixels_in e.width e.height e.settings k) (bins_of e.settings) (limit_in e.width e.height e.settings f k)
  enhanced_bytes_limit_fits {f} on k = whole_limit_fits e (enhance_bytes_as_wide ran done) done f k

-- ---- the clip refusal

-- nor is 14: "a clip refusal never occurs"
pub prepare_bytes_never_14 : {p : PrepareCall} → PreparesBytes p → p.answer ≢ refused 14
prepare_bytes_never_14 {p} ran q =
    bytes_never_14 p.width p.height p.pixels p.settings (length p.map) (length p.scratch) (length p.list) (says_refused _ _ (sym (prepare_bytes_says ran) ∙ q))

-- nor by enhance
pub enhance_bytes_never_14 : {e : EnhanceCall} → EnhancesBytes e → e.answer ≢ refused 14
enhance_bytes_never_14 {e} ran q =
    bytes_never_14 e.width e.height e.pixels e.settings (length e.map) (length e.scratch) 128
    (rows_enough e.width e.height e.pixels e.settings (length e.map) (length e.scratch) ∙ says_refused _ _ (sym (enhance_bytes_says ran) ∙ q))
