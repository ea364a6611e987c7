-- A film that prepare accepted: what it left in the map buffer, and that a window inside it is drawn from that.
-- Assumes nothing.
use Prim.Native.Nat.{ℕ, ◌+◌, ◌*◌, ◌≤◌, ◌<◌}
use mathlib.Core.Bool.{Bool, true, false, cond}
use mathlib.Core.List.{List}
use mathlib.Core.Path.{◌≡◌, refl, sym, ap, ◌∙◌}
use native.Mathlib.Nat.{mul_comm, mul-le-mul_right}
use native.Mathlib.Omega.{arith}
use lib.ListN.{length}
use Rattle.base_lists.specs.Lists.{onto, all}
use Rattle.base_lists.proofs.Fills.{length_onto}
use Rattle.base_rows.specs.Refuse.{first, accepted}
use Rattle.base_range.specs.Scan.{within}
use Rattle.tile_count.specs.Tally.{greys_of}
use Rattle.tile_count.proofs.Greys.{greys_all}
use Rattle.film_settings.specs.declared.Settings.{Settings}
use Rattle.film_settings.specs.declared.MapRecord.{MapRecord}
use Rattle.film_settings.specs.declared.Footer.{Footer}
use Rattle.film_settings.specs.declared.Window.{Window}
use Rattle.film_settings.specs.Settings.{entries_of, kept_of, clip_one_of, shared_rows}
use Rattle.film_settings.proofs.Like.{bins_kept, kept_same}
use Rattle.film_settings.proofs.Records.{record_settings}
use Rattle.pixel_render.specs.Render.{rect_of}
use Rattle.film_tiles.specs.Tiles.{mappings, Work, TilesReady}
use Rattle.film_prepare.specs.Prepare.{PrepareOut, prepare_of, prepared_of}
use Rattle.film_prepare.proofs.Table.{table_both}
use Rattle.film_tiles.proofs.Films.{length_mappings, mappings_within}
use Rattle.film_prepare.proofs.Renders.{laid_front}
use Rattle.film_record.specs.Held.{record_rows}
use Rattle.film_draw.specs.Draw.{pixel_rows, draw_rows}
use Rattle.film_record.proofs.Laws.{own_record}
use Rattle.film_record.proofs.Tables.{window_free}
use Rattle.film_draw.proofs.Like.{pixel_free}
use Rattle.film_draw.proofs.Tables.{draw_pixel}
use Rattle.promise_films.proofs.Accepted.{prepare_accepts, prepare_work, prepare_done, prepare_record}

-- the pixels of a window inside the film are the film's
pub window_greys : (p : ℕ → Bool) (w h : ℕ) (pic : List ℕ) (win : Window) → length pic ≡ w * h → win.left + win.width ≤ w → win.top + win.height ≤ h → all p pic ≡ true
    → all p (greys_of pic w (rect_of win)) ≡ true
window_greys p w h pic win whole across down g =
    greys_all p pic w (rect_of win) across (omega (arith, whole, mul_comm w h, mul-le-mul_right w down)) g

-- ---- what prepare left

module _ (film w h : ℕ) (pic : List ℕ) (s : Settings) (m t n : List ℕ) {r : MapRecord} {foot : Footer} (done : (prepare_of film w h pic s m t n).answer ≡ accepted (r, foot)) where
  -- at the factor 1.0 the map buffer stays; else it holds the mappings
  pub left_map : (prepare_of film w h pic s m t n).map ≡ cond (clip_one_of s.clip) m (onto m (mappings w h pic s))
  unfolding prepared_of
  left_map = ap (λ (x : PrepareOut). x.map) (prepare_done film w h pic s m t n done)

  -- its length is what it was
  pub left_length : length (prepare_of film w h pic s m t n).map ≡ length m
  left_length = ap length left_map ∙ go (clip_one_of s.clip)
    where
      go : (b : Bool) → length (cond b m (onto m (mappings w h pic s))) ≡ length m
      go true = refl
      go false = length_onto m (mappings w h pic s) (omega (arith, length_mappings w h pic s, (prepare_work film w h pic s m t n done).ready.fitting))

  -- so it is long enough
  pub left_room : entries_of s ≤ length (prepare_of film w h pic s m t n).map
  left_room = rw left_length (prepare_work film w h pic s m t n done).ready.fitting

  -- the record's own settings are kept as the same
  pub left_settings : kept_of r.settings ≡ kept_of s
  left_settings =
      ap (λ (x : MapRecord). kept_of x.settings) (sym (prepare_record film w h pic s m t n done))
      ∙ ap kept_of (record_settings film w h s)
      ∙ kept_same s (kept_of s) refl refl (bins_kept s) refl refl refl refl

  -- with a factor that is not 1.0 the mappings lie there
  pub left_laid : clip_one_of s.clip ≡ false → (prepare_of film w h pic s m t n).map ≡ onto m (mappings w h pic s)
  left_laid one = left_map ∙ ap (λ b. cond b m (onto m (mappings w h pic s))) one

  -- so what the tiles ask is met
  pub left_asks : clip_one_of s.clip ≡ false → TilesReady w h pic s (length m) (length t)
  left_asks one = record { work = prepare_work film w h pic s m t n done; changes = one }

  -- neither 13 nor 18 applies
  pixels_free : (win : Window) → win.left + win.width ≤ w → win.top + win.height ≤ h → first (pixel_rows w pic s win (prepare_of film w h pic s m t n).map) ≡ 0
  pixels_free win across down =
      pixel_free w pic s win (prepare_of film w h pic s m t n).map
      (window_greys (within s.min s.max) w h pic win known.ready.whole across down known.greys)
      (λ e. ap (all (within s.min s.max)) (laid_front m (left_asks e) (left_laid e)) ∙ mappings_within (left_asks e))
    where
      known : Work w h pic s (length m) (length t)
      known = prepare_work film w h pic s m t n done

  -- none of draw's rows applies
  pub draw_free : (win : Window) (room : ℕ) → 0 < win.width → 0 < win.height → win.left + win.width ≤ w → win.top + win.height ≤ h → room ≡ win.height * win.width
      → first (draw_rows film w h pic s r win (prepare_of film w h pic s m t n).map room) ≡ 0
  draw_free win room wide high across down area =
      sym (draw_pixel film w h pic s r win (prepare_of film w h pic s m t n).map room {a = 0} {b = 0} {c = 0} {x = 0}
      (sym (ap (λ n. first (shared_rows w h (length pic) s n)) left_length ∙ (table_both w h pic s (length m) (length t) (length n) (prepare_accepts film w h pic s m t n done)).0)) refl
      (sym (ap (λ x. first (record_rows film w h s x)) (sym (prepare_record film w h pic s m t n done)) ∙ own_record film w h s (prepare_work film w h pic s m t n done).ready.clip)) refl
      (sym (window_free w h win room wide high across down area)) refl
      (sym (pixels_free win across down)))
