-- A film that was rendered whole, whichever call ended as enhance does and accepted it: enhance, or enhance on bytes. One law for both; of each call it is said where the call's contract is.
-- A name with ' is lent memory at the end.
-- Assumes nothing.
use Prim.Native.Nat.{ℕ, ◌+◌, ◌*◌, ◌<◌}
use mathlib.Core.Bool.{true, false}
use mathlib.Core.Path.{◌≡◌, refl, ap, ap₂, ◌∙◌}
use lib.Ieee.{Float}
use lib.ListN.{length, get_or}
use Rattle.base_rows.specs.Refuse.{accepted}
use Rattle.tile_limit.specs.declared.Clip.TheVariants.{Off}
use Rattle.tile_limit.specs.declared.Edition.TheVariants.{Ours, Of1986}
use Rattle.tile_map.specs.Tile.{mapped_of}
use Rattle.film_settings.specs.declared.Footer.{Footer}
use Rattle.film_settings.specs.Settings.{bins_of, clip_one_of}
use Rattle.film_tiles.specs.Tiles.{pixels_in, Work}
use Rattle.film_count.specs.Counting.{raw_counts}
use Rattle.film_prepare.specs.Prepare.{EnhanceOut, enhance_of}
use Rattle.pixel_rule.specs.Rule.{rule_grey}
use Rattle.promise_films.specs.Films.{clipped_counts, divides_in, ClippingOn, ClipCase, FooterShows, limit_in, FilmSound, LimitFits, BinsReached}
use Rattle.promise_films.specs.Older.{FilmOlder}
use Rattle.promise_films.proofs.Accepted.{enhance_work}
use Rattle.promise_films.proofs.Rendering.{divides_pixels, divides_pixels_off, counts_raw_off, own_mapping_enhance, own_rendering, own_pixels}
use Rattle.promise_films.proofs.Sound.{tiles_sound_enhance, tiles_older_enhance, footer_shows_enhance, clip_cases, limit_fits}
use Rattle.promise_films.proofs.Bins.{tiled_reached}
use Rattle.promise_films.proofs.Runs.{EnhanceCall}
use Rattle.promise_films.proofs.Ended.{Rendered, rendered_accepted}

module _ (e : EnhanceCall) {foot : Footer} (rendered : Rendered e) (enhanced : e.answer ≡ accepted foot) where
  done : (enhance_of e.width e.height e.pixels e.settings e.map e.scratch).answer ≡ accepted foot
  done = rendered_accepted e rendered enhanced

  -- what its call knows
  pub whole_work : Work e.width e.height e.pixels e.settings (length e.map) (length e.scratch)
  whole_work = enhance_work e.width e.height e.pixels e.settings e.map e.scratch done

  -- demand 2: each pixel is the one of the integer rule, and at the factor 1.0 the film's own
  pub whole_by_rule : clip_one_of e.settings.clip ≡ false → (i j : ℕ) → i < e.width → j < e.height
      → get_or e.pixels' (j * e.width + i) 0 ≡ rule_grey e.width e.height e.pixels e.settings i j
  whole_by_rule one i j l k = ap (λ (z : EnhanceOut). get_or z.picture (j * e.width + i) 0) rendered ∙ own_rendering e.width e.height e.pixels e.settings e.map e.scratch done one i j l k

  pub whole_as_film : clip_one_of e.settings.clip ≡ true → e.pixels' ≡ e.pixels
  whole_as_film one = ap (λ (z : EnhanceOut). z.picture) rendered ∙ own_pixels e.width e.height e.pixels e.settings e.map e.scratch done one

  -- each tile's own mapping lies in the map buffer
  pub whole_mapped_by_rule : clip_one_of e.settings.clip ≡ false → (k b : ℕ) → k < e.settings.across * e.settings.down → b < bins_of e.settings
      → get_or e.map' (k * bins_of e.settings + b) 0
      ≡ mapped_of e.settings.min e.settings.max (divides_in e.width e.height e.pixels e.settings k) (clipped_counts e.width e.height e.pixels e.settings k) b
  whole_mapped_by_rule one k b l q = ap (λ (z : EnhanceOut). get_or z.map (k * bins_of e.settings + b) 0) rendered ∙ own_mapping_enhance e.width e.height e.pixels e.settings e.map e.scratch done one k b l q

  -- in our edition over N
  pub whole_ours_by_rule : e.settings.edition ≡ Ours → clip_one_of e.settings.clip ≡ false → (k b : ℕ) → k < e.settings.across * e.settings.down → b < bins_of e.settings
      → get_or e.map' (k * bins_of e.settings + b) 0 ≡ mapped_of e.settings.min e.settings.max (pixels_in e.width e.height e.settings k) (clipped_counts e.width e.height e.pixels e.settings k) b
  whole_ours_by_rule ours one k b l q =
      whole_mapped_by_rule one k b l q ∙ ap (λ n. mapped_of e.settings.min e.settings.max n (clipped_counts e.width e.height e.pixels e.settings k) b) (divides_pixels e.width e.height e.pixels e.settings k ours)

  -- with clip off that of the raw counts, over N
  pub whole_off_by_rule : e.settings.clip ≡ Off → (k b : ℕ) → k < e.settings.across * e.settings.down → b < bins_of e.settings
      → get_or e.map' (k * bins_of e.settings + b) 0
      ≡ mapped_of e.settings.min e.settings.max (pixels_in e.width e.height e.settings k) (raw_counts e.width e.height e.pixels e.settings k) b
  whole_off_by_rule off k b l q =
      whole_mapped_by_rule (rw off refl) k b l q
      ∙ ap₂ (λ n cs. mapped_of e.settings.min e.settings.max n cs b) (divides_pixels_off e.width e.height e.pixels e.settings k off) (counts_raw_off e.width e.height e.pixels e.settings k off)

  -- what the footer shows, by the clip setting, which is one of three
  pub whole_footer : FooterShows e.settings.clip (pixels_in e.width e.height e.settings 0) (bins_of e.settings) foot
  whole_footer = footer_shows_enhance e.width e.height e.pixels e.settings e.map e.scratch done

  pub whole_clip : ClipCase e.settings.clip
  whole_clip = clip_cases whole_work

  -- demand 3 of every tile, and order 8's facts in its place
  pub whole_tiles_sound : {f : Float} → ClippingOn e.settings.clip f → e.settings.edition ≡ Ours → FilmSound e.width e.height e.pixels e.settings f e.map'
  whole_tiles_sound on ours = rw (ap (λ (z : EnhanceOut). z.map) rendered) (tiles_sound_enhance e.width e.height e.pixels e.settings e.map e.scratch done on ours)

  pub whole_tiles_older : {f : Float} → ClippingOn e.settings.clip f → e.settings.edition ≡ Of1986 → FilmOlder e.width e.height e.pixels e.settings f e.map'
  whole_tiles_older on other = rw (ap (λ (z : EnhanceOut). z.map) rendered) (tiles_older_enhance e.width e.height e.pixels e.settings e.map e.scratch done on other)

  -- order 2, of each tile's own limit
  pub whole_limit_fits : (f : Float) (k : ℕ) → LimitFits f (pixels_in e.width e.height e.settings k) (bins_of e.settings) (limit_in e.width e.height e.settings f k)
  whole_limit_fits f k = limit_fits whole_work f k

  -- order 3
  pub whole_reached : BinsReached e.settings
  whole_reached = tiled_reached whole_work.ready.tiled
