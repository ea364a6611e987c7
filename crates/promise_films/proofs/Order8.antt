-- Order 8, the clip rule of 1986: an edition that is a setting, whose facts stand in for demand 3.
-- Promises alone: of every run of the calls by their contracts (Runs), each listed in docs/PROMISES.md. A name with ' is lent memory at the end.
-- Assumes nothing.
use Prim.Native.Nat.{ℕ, ◌+◌, ◌*◌, ◌<◌}
use mathlib.Core.Logic.{◌≢◌}
use mathlib.Core.Path.{◌≡◌}
use lib.ListN.{length, get_or}
use lib.Ieee.{Float}
use Rattle.base_rows.specs.Refuse.{first, accepted, refused}
use Rattle.tile_limit.specs.declared.Clip.TheVariants.{Off}
use Rattle.tile_map.specs.Tile.{mapped_of}
use Rattle.film_settings.specs.declared.MapRecord.{MapRecord}
use Rattle.film_settings.specs.declared.Footer.{Footer}
use Rattle.film_settings.specs.Settings.{bins_of, shared_rows}
use Rattle.film_tiles.specs.Tiles.{pixels_in}
use Rattle.film_count.specs.Counting.{raw_counts}
use Rattle.promise_films.specs.Films.{ClippingOn}
use Rattle.promise_films.proofs.Runs.{PrepareCall, Prepares, prepare_ends, EnhanceCall, Enhances, enhance_ends, DrawCall, Draws}
use Rattle.tile_limit.specs.declared.Edition.TheVariants.{Of1986}
use Rattle.promise_films.specs.Older.{FilmOlder}
use Rattle.promise_films.specs.Looks.{FilmOlderLooks}
use Rattle.promise_films.proofs.Demand2.{draw_differing_15}
use Rattle.promise_films.proofs.Looks.{ended_looks_older}
use Rattle.promise_films.proofs.Made.{prepare_made, made_off_by_rule, made_tiles_older}
use Rattle.promise_films.proofs.Whole.{whole_off_by_rule, whole_tiles_older}

-- ---- the edition is a setting

-- 15, "record differs in film number, size or any setting (bins 0 read as 128 on both sides)": given where none of 1 to 11 and 31 applies, whatever the window, the output,
-- the pixels and the map entries
module _ {d : DrawCall} (ran : Draws d) (shared : first (shared_rows d.width d.height (length d.pixels) d.settings (length d.map)) ≡ 0) where
  -- in the edition: order 8, "The edition is a setting, so it is part of what 15 compares.", with clip off and at the factor 1.0 too
  pub other_edition_15 : d.settings.edition ≢ d.kept.settings.edition → d.answer ≡ refused 15
  other_edition_15 other = draw_differing_15 ran shared (λ held. other held.edition)

-- ---- clip off

-- a film that prepare accepted, answering the record r
module _ {p : PrepareCall} {r : MapRecord} {foot : Footer} (ran : Prepares p) (prepared : p.answer ≡ accepted (r, foot)) where
  -- order 8, "Clip off .. stay as in 01": in either edition "the raw counts are mapped", over N
  pub prepared_off_by_rule : p.settings.clip ≡ Off → (k b : ℕ) → k < p.settings.across * p.settings.down → b < bins_of p.settings
      → get_or p.map' (k * bins_of p.settings + b) 0
      ≡ mapped_of p.settings.min p.settings.max (pixels_in p.width p.height p.settings k) (raw_counts p.width p.height p.pixels p.settings k) b
  prepared_off_by_rule = made_off_by_rule (prepare_made ran prepared)

-- a film that enhance accepted
module _ {e : EnhanceCall} {foot : Footer} (ran : Enhances e) (enhanced : e.answer ≡ accepted foot) where
  -- order 8, "Clip off .. stay as in 01": in either edition "the raw counts are mapped", over N
  pub enhanced_off_by_rule : e.settings.clip ≡ Off → (k b : ℕ) → k < e.settings.across * e.settings.down → b < bins_of e.settings
      → get_or e.map' (k * bins_of e.settings + b) 0
      ≡ mapped_of e.settings.min e.settings.max (pixels_in e.width e.height e.settings k) (raw_counts e.width e.height e.pixels e.settings k) b
  enhanced_off_by_rule = whole_off_by_rule e (enhance_ends ran) enhanced

-- ---- every tile

-- a film that prepare accepted, answering this footer
module _ {p : PrepareCall} {r : MapRecord} {foot : Footer} (ran : Prepares p) (done : p.answer ≡ accepted (r, foot)) where
  -- order 8, "Here these facts stand in for demand 3.": in the edition of 1986
  pub prepared_tiles_older : {f : Float} → ClippingOn p.settings.clip f → p.settings.edition ≡ Of1986 → FilmOlder p.width p.height p.pixels p.settings f p.map'
  prepared_tiles_older on other = made_tiles_older (prepare_made ran done) on other

-- a film that enhance accepted, answering this footer
module _ {e : EnhanceCall} {foot : Footer} (ran : Enhances e) (done : e.answer ≡ accepted foot) where
  -- order 8, in that of 1986
  pub enhanced_tiles_older : {f : Float} → ClippingOn e.settings.clip f → e.settings.edition ≡ Of1986 → FilmOlder e.width e.height e.pixels e.settings f e.map'
  enhanced_tiles_older on other = whole_tiles_older e (enhance_ends ran) done on other

-- ---- order 7's list

-- a film that prepare accepted
module _ {p : PrepareCall} {r : MapRecord} {foot : Footer} (ran : Prepares p) (prepared : p.answer ≡ accepted (r, foot)) where
  -- order 8, "In order 7's list E is what stands above C, and the looks are 0 here": in that of 1986
  pub prepared_looks_older : {f : Float} → ClippingOn p.settings.clip f → p.settings.edition ≡ Of1986 → FilmOlderLooks p.width p.height p.pixels p.settings f p.list'
  prepared_looks_older on other = ended_looks_older p (prepare_ends ran) prepared on other
