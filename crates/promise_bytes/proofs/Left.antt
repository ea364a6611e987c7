-- What narrow asks is met: where the film and the map buffer are bytes and the settings inside the profile, what prepare, enhance and draw leave are bytes.
-- Laws of the wide calls' outcomes.
-- Assumes nothing.
use Prim.Native.Nat.{ℕ, zero, suc, ◌≤◌}
use mathlib.Core.Bool.{Bool, true, false, cond}
use mathlib.Core.List.{List}
use mathlib.Core.Path.{◌≡◌, refl, sym, ap, ◌∙◌}
use native.Mathlib.Omega.{arith}
use lib.ListN.{length, drop}
use Rattle.base_lists.specs.Lists.{onto, all}
use Rattle.base_lists.proofs.Alls.{all_both, all_drop}
use Rattle.base_rows.specs.Refuse.{first}
use Rattle.base_range.specs.Scan.{within}
use Rattle.film_settings.specs.declared.Settings.{Settings}
use Rattle.film_settings.specs.declared.MapRecord.{MapRecord}
use Rattle.film_settings.specs.declared.Window.{Window}
use Rattle.film_settings.specs.Settings.{clip_one_of}
use Rattle.tile_count.specs.Tally.{greys_of}
use Rattle.pixel_render.specs.Render.{render_of, rect_of, whole}
use Rattle.pixel_render.proofs.Laws.{render_within}
use Rattle.film_tiles.specs.Tiles.{mappings, Work, TilesReady}
use Rattle.film_prepare.specs.Prepare.{prepare_rows, enhance_rows, PrepareOut, prepared_of, prepare_of, EnhanceOut, enhanced_of, enhance_of}
use Rattle.film_prepare.proofs.Table.{work, over_work}
use Rattle.film_tiles.proofs.Films.{mappings_within}
use Rattle.film_prepare.proofs.Renders.{whole_shown, laid_mapped, laid_render}
use Rattle.film_draw.specs.Draw.{draw_rows, DrawOut, draw_of, DrawReady}
use Rattle.film_draw.proofs.Tables.{draw_ready}
use Rattle.film_draw.proofs.Works.{render_asks}
use Rattle.film_draw.proofs.Like.{drawn_pixels_lem}
use Rattle.byte_narrow.specs.Narrow.{is_byte}
use Rattle.byte_tile.proofs.Lines.{within_bytes}
use Rattle.promise_films.proofs.Accepted.{prepare_table, enhance_table, draw_table}

module _ (w h : ℕ) (pic : List ℕ) (s : Settings) (m t : List ℕ) (most : s.max ≤ 255) (bytes : all is_byte pic ≡ true) (entries : all is_byte m ≡ true) where
  -- the mappings laid down in a buffer of bytes
  laid_bytes : TilesReady w h pic s (length m) (length t) → all is_byte (onto m (mappings w h pic s)) ≡ true
  unfolding onto
  laid_bytes asks =
      all_both is_byte (mappings w h pic s) (drop (length (mappings w h pic s)) m)
      (within_bytes s.min s.max (mappings w h pic s) most (mappings_within asks)) (all_drop is_byte (length (mappings w h pic s)) m entries)

  -- the picture rendered from them
  rendered_bytes : TilesReady w h pic s (length m) (length t) → all is_byte (render_of w h s (mappings w h pic s) (whole w h) pic) ≡ true
  rendered_bytes asks =
      within_bytes s.min s.max _ most
      (ap (all (within s.min s.max)) (sym (laid_render m asks refl refl)) ∙ render_within (laid_mapped m asks refl) (whole_shown asks.work))

  map_bytes : Work w h pic s (length m) (length t) → (b : Bool) → clip_one_of s.clip ≡ b → all is_byte (cond b m (onto m (mappings w h pic s))) ≡ true
  map_bytes known true e = entries
  map_bytes known false e = laid_bytes record { work = known; changes = e }

  picture_bytes : Work w h pic s (length m) (length t) → (b : Bool) → clip_one_of s.clip ≡ b → all is_byte (cond b pic (render_of w h s (mappings w h pic s) (whole w h) pic)) ≡ true
  picture_bytes known true e = bytes
  picture_bytes known false e = rendered_bytes record { work = known; changes = e }

  -- the map buffer that prepare leaves, whatever list it is lent
  pub prepare_leaves_bytes : (film : ℕ) (n : List ℕ) → all is_byte (prepare_of film w h pic s m t n).map ≡ true
  unfolding prepared_of
  prepare_leaves_bytes film n = go (first (prepare_rows w h pic s (length m) (length t) (length n))) refl
    where
      go : (k : ℕ) → first (prepare_rows w h pic s (length m) (length t) (length n)) ≡ k → all is_byte (prepare_of film w h pic s m t n).map ≡ true
      go zero z = ap (λ (x : PrepareOut). all is_byte x.map) ((prepare_table film w h pic s m t n).when_none z) ∙ map_bytes (work w h pic s (length m) (length t) (length n) z) (clip_one_of s.clip) refl
      go (suc k) z = ap (λ (x : PrepareOut). all is_byte x.map) ((prepare_table film w h pic s m t n).when_some (λ q. omega (arith, z, q))) ∙ entries

  -- the picture and the map buffer that enhance leaves
  pub enhance_leaves_bytes : (all is_byte (enhance_of w h pic s m t).picture ≡ true) × (all is_byte (enhance_of w h pic s m t).map ≡ true)
  unfolding enhanced_of
  enhance_leaves_bytes = go (first (enhance_rows w h pic s (length m) (length t))) refl
    where
      go : (n : ℕ) → first (enhance_rows w h pic s (length m) (length t)) ≡ n → (all is_byte (enhance_of w h pic s m t).picture ≡ true) × (all is_byte (enhance_of w h pic s m t).map ≡ true)
      go zero z =
          let e = (enhance_table w h pic s m t).when_none z in
          let known = over_work w h pic s (length m) (length t) z in (
            ap (λ (x : EnhanceOut). all is_byte x.picture) e ∙ picture_bytes known (clip_one_of s.clip) refl,
            ap (λ (x : EnhanceOut). all is_byte x.map) e ∙ map_bytes known (clip_one_of s.clip) refl,
          )
      go (suc n) z =
          let e = (enhance_table w h pic s m t).when_some (λ q. omega (arith, z, q)) in
          (ap (λ (x : EnhanceOut). all is_byte x.picture) e ∙ bytes, ap (λ (x : EnhanceOut). all is_byte x.map) e ∙ entries)

-- the output that draw leaves
module _ (film w h : ℕ) (pic : List ℕ) (s : Settings) (r : MapRecord) (win : Window) (m out : List ℕ) (most : s.max ≤ 255) (bytes : all is_byte out ≡ true) where
  pub draw_leaves_bytes : all is_byte (draw_of film w h pic s r win m out).out ≡ true
  draw_leaves_bytes = go (first (draw_rows film w h pic s r win m (length out))) refl
    where
      pixels : DrawReady film w h pic s r win m (length out) → (b : Bool) → clip_one_of s.clip ≡ b
          → all is_byte (cond b (greys_of pic w (rect_of win)) (render_of w h s m win (greys_of pic w (rect_of win)))) ≡ true
      pixels known true e = within_bytes s.min s.max _ most known.shown.greys
      pixels known false e = let asks = render_asks known.shown refl e in within_bytes s.min s.max _ most (render_within asks.0 asks.1)

      go : (n : ℕ) → first (draw_rows film w h pic s r win m (length out)) ≡ n → all is_byte (draw_of film w h pic s r win m out).out ≡ true
      go zero z =
          ap (λ (x : DrawOut). all is_byte x.out) ((draw_table film w h pic s r win m out).when_none z)
          ∙ ap (all is_byte) (drawn_pixels_lem w h pic s win m)
          ∙ pixels (draw_ready film w h pic s r win m (length out) z) (clip_one_of s.clip) refl
      go (suc n) z = ap (λ (x : DrawOut). all is_byte x.out) ((draw_table film w h pic s r win m out).when_some (λ q. omega (arith, z, q))) ∙ bytes
