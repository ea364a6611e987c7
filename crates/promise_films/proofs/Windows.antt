-- A window that draw accepts with the record that prepare made is a window of that film, drawn as with that film's own settings.
-- Assumes nothing.
use Prim.Native.Nat.{ℕ, ◌+◌, ◌*◌, ◌≤◌, ◌<◌}
use native.Mathlib.Omega.{arith}
use mathlib.Core.Bool.{true, false, cond}
use mathlib.Core.List.{List}
use mathlib.Core.Path.{◌≡◌, refl, sym, ap, ◌∙◌, subst}
use lib.ListN.{length, get_or, take}
use Rattle.base_rows.specs.Refuse.{accepted}
use Rattle.tile_count.specs.Tally.{greys_of}
use Rattle.film_settings.specs.declared.Settings.{Settings}
use Rattle.film_settings.specs.declared.MapRecord.{MapRecord}
use Rattle.film_settings.specs.declared.Footer.{Footer}
use Rattle.film_settings.specs.declared.Window.{Window}
use Rattle.film_settings.specs.Settings.{bins_of, entries_of, record_of, clip_one_of, same_clip_of}
use Rattle.pixel_render.specs.Render.{render_of, rect_of}
use Rattle.film_prepare.specs.Prepare.{prepare_of, enhance_of}
use Rattle.film_record.specs.Held.{Held}
use Rattle.film_draw.specs.Draw.{DrawOut, draw_leaves, draw_of, DrawReady}
use Rattle.film_settings.proofs.Clips.{same_clip_one}
use Rattle.film_settings.proofs.Records.{record_width, record_height, record_settings, record_bins}
use Rattle.pixel_render.proofs.Laws.{render_fields}
use Rattle.film_draw.proofs.Like.{drawn_pixels_lem}
use Rattle.film_draw.proofs.Tables.{draw_ready}
use Rattle.pixel_rule.specs.Rule.{rule_grey}
use Rattle.promise_films.specs.Films.{HandedOn}
use Rattle.promise_films.proofs.Accepted.{table_accepted, table_done, prepare_work, prepare_record, draw_table}
use Rattle.promise_films.proofs.Rendering.{draw_agrees, drawn_is_enhanced, own_window, drawn_is_film}

-- a window that draw accepted, with the record that prepare made, the pixels as they were then, and the mappings that it left
module _ (film w h : ℕ) (pic : List ℕ) (s : Settings) (m t n : List ℕ) {r : MapRecord} {foot : Footer} (done : (prepare_of film w h pic s m t n).answer ≡ accepted (r, foot))
    (film' w' h' : ℕ) (s' : Settings) (m' : List ℕ) (win : Window) (out : List ℕ) (drawn : (draw_of film' w' h' pic s' r win m' out).answer ≡ accepted tt)
    (front : clip_one_of s.clip ≡ false → take (entries_of s) m' ≡ take (entries_of s) (prepare_of film w h pic s m t n).map) where
  known : DrawReady film' w' h' pic s' r win m' (length out)
  known = draw_ready film' w' h' pic s' r win m' (length out) (table_accepted (draw_table film' w' h' pic s' r win m' out) drawn).0

  -- it has the film's number and sizes, and its settings
  held : Held film' w' h' s' (record_of film w h s)
  held = subst (Held film' w' h' s') (sym (prepare_record film w h pic s m t n done)) known.held

  wide : w' ≡ w
  wide = held.wide ∙ record_width film w h s

  high : h' ≡ h
  high = held.high ∙ record_height film w h s

  across : s'.across ≡ s.across
  across = held.across ∙ ap (λ (z : Settings). z.across) (record_settings film w h s)

  down : s'.down ≡ s.down
  down = held.down ∙ ap (λ (z : Settings). z.down) (record_settings film w h s)

  bins : bins_of s' ≡ bins_of s
  bins = held.bins ∙ record_bins film w h s

  least : s'.min ≡ s.min
  least = held.least ∙ ap (λ (z : Settings). z.min) (record_settings film w h s)

  most : s'.max ≡ s.max
  most = held.most ∙ ap (λ (z : Settings). z.max) (record_settings film w h s)

  clip : same_clip_of s'.clip s.clip ≡ true
  clip = subst (λ (z : Settings). same_clip_of s'.clip z.clip ≡ true) (record_settings film w h s) held.clip

  entries : entries_of s' ≡ entries_of s
  entries = rw (bins, across, down) refl

  -- so it is a window that prepare's record and mappings can be handed on for
  pub accepted_handed : HandedOn w h s (prepare_of film w h pic s m t n).map s m' win (length out)
  accepted_handed =
      record {
        like = refl;
        long = omega (arith, entries, known.shown.ready.fitting);
        front = front;
        wide = known.shown.wide;
        high = known.shown.high;
        across = omega (arith, wide, known.shown.across);
        down = omega (arith, high, known.shown.down);
        area = known.shown.area;
      }

  -- and it is drawn as with the film's own number, sizes and settings
  pub accepted_same : draw_of film' w' h' pic s' r win m' out ≡ draw_of film w h pic s r win m' out
  accepted_same =
      table_done (draw_table film' w' h' pic s' r win m' out) drawn
      ∙ ap (draw_leaves (accepted tt)) (drawn_pixels_lem w' h' pic s' win m' ∙ pixels ∙ sym (drawn_pixels_lem w h pic s win m'))
      ∙ sym (table_done (draw_table film w h pic s r win m' out) (draw_agrees film w h pic s m t n done s m' win out accepted_handed))
    where
      greys : List ℕ
      greys = greys_of pic w (rect_of win)

      pixels : cond (clip_one_of s'.clip) (greys_of pic w' (rect_of win)) (render_of w' h' s' m' win (greys_of pic w' (rect_of win))) ≡ cond (clip_one_of s.clip) greys (render_of w h s m' win greys)
      pixels =
          rw (wide, high, same_clip_one s'.clip s.clip known.shown.ready.clip (prepare_work film w h pic s m t n done).ready.clip clip)
          (ap (cond (clip_one_of s.clip) greys) (render_fields w h s s' m' win greys across down bins least most))

  -- demand 2, "through a window from the record and mappings prepared for those pixels and unchanged since": whatever else was handed to draw, each drawn pixel of an accepted
  -- window is the one of the integer rule
  pub accepted_by_rule : clip_one_of s.clip ≡ false → (j i : ℕ) → j < win.height → i < win.width
      → get_or (draw_of film' w' h' pic s' r win m' out).out (j * win.width + i) 0 ≡ rule_grey w h pic s (win.left + i) (win.top + j)
  accepted_by_rule one j i l k =
      ap (λ (x : DrawOut). get_or x.out (j * win.width + i) 0) accepted_same ∙ own_window film w h pic s m t n done s m' win out accepted_handed one j i l k

  -- at the factor 1.0 the film's own
  pub accepted_as_film : clip_one_of s.clip ≡ true → (j i : ℕ) → j < win.height → i < win.width
      → get_or (draw_of film' w' h' pic s' r win m' out).out (j * win.width + i) 0 ≡ get_or pic ((win.top + j) * w + (win.left + i)) 0
  accepted_as_film one j i l k =
      ap (λ (x : DrawOut). get_or x.out (j * win.width + i) 0) accepted_same ∙ drawn_is_film film w h pic s m t n done s m' win out accepted_handed one j i l k

  -- and the one in enhance's picture
  pub accepted_as_enhanced : (m₂ t₂ : List ℕ) → entries_of s ≤ length m₂ → bins_of s ≤ length t₂ → (j i : ℕ) → j < win.height → i < win.width
      → get_or (draw_of film' w' h' pic s' r win m' out).out (j * win.width + i) 0 ≡ get_or (enhance_of w h pic s m₂ t₂).picture ((win.top + j) * w + (win.left + i)) 0
  accepted_as_enhanced m₂ t₂ room scratch j i l k =
      ap (λ (x : DrawOut). get_or x.out (j * win.width + i) 0) accepted_same ∙ drawn_is_enhanced film w h pic s m t n done s m' win out accepted_handed m₂ t₂ room scratch j i l k
