-- Inside the profile the byte calls answer and leave what the wide calls do of the same numbers; outside it they refuse and keep all memory.
-- Laws of the outcomes that the contracts of the byte calls cite.
-- Assumes nothing.
use Prim.Native.Nat.{ℕ}
use mathlib.Core.List.{List, ◌++◌}
use mathlib.Core.Path.{◌≡◌, refl, sym, ap, ◌∙◌}
use lib.ListN.{length}
use Rattle.base_rows.specs.Refuse.{first, unless, accepted, refused}
use Rattle.base_rows.proofs.Walk.{first_same, first_both, unless_refused}
use Rattle.film_settings.specs.declared.Settings.{Settings}
use Rattle.film_settings.specs.declared.MapRecord.{MapRecord}
use Rattle.film_settings.specs.declared.Footer.{Footer}
use Rattle.film_settings.specs.declared.Window.{Window}
use Rattle.film_settings.specs.Settings.{record_of, shared_rows}
use Rattle.film_settings.proofs.Ready.{shared_numbered}
use Rattle.film_tiles.specs.Tiles.{foot_of}
use Rattle.film_prepare.specs.Prepare.{PrepareOut, prepare_leaves, prepared_of, prepare_of, EnhanceOut, enhance_leaves, enhanced_of, enhance_of}
use Rattle.film_record.specs.Held.{record_rows, window_rows}
use Rattle.film_draw.specs.Draw.{pixel_rows, draw_rows, drawn_pixels, DrawOut, draw_leaves, draw_of}
use Rattle.film_draw.proofs.Tables.{draw_rows_lem}
use Rattle.byte_profile.specs.Profile.{profile_rows, byte_rows, Profile}
use Rattle.byte_profile.proofs.Profile.{byte_numbered, byte_ready, byte_inside, profile_none}
use Rattle.byte_prepare.specs.Bytes.{byte_prepare_rows, byte_enhance_rows, byte_prepare_of, byte_enhance_of}
use Rattle.byte_prepare.proofs.Tables.{bytes_profile, enhance_profile}
use Rattle.byte_prepare.proofs.Endings.{prepare_inside, enhance_inside}
use Rattle.byte_draw.specs.Bytes.{byte_draw_rows, byte_draw_of}
use Rattle.promise_films.proofs.Accepted.{ByTable, table_accepted}

-- ---- prepare and enhance

module _ (film w h : ℕ) (pic : List ℕ) (s : Settings) (m t n : List ℕ) where
  -- prepare on bytes goes by its own rows
  pub prepare_bytes_table : ByTable (λ (x : PrepareOut). x.answer) (first (byte_prepare_rows w h pic s (length m) (length t) (length n)))
      (record_of film w h s, foot_of w h s) (prepared_of film w h pic s m t n) (λ k. prepare_leaves (refused k) m t n) (byte_prepare_of film w h pic s m t n)
  unfolding byte_prepare_of prepared_of
  prepare_bytes_table =
      record {
        when_none = λ z. ap (λ i. unless i (λ k. prepare_leaves (refused k) m t n) (prepared_of film w h pic s m t n)) z;
        when_some = λ z. sym (unless_refused _ (λ k. prepare_leaves (refused k) m t n) (prepared_of film w h pic s m t n) z);
        says_done = refl;
        says_lent = λ k. refl;
      }

  -- a film that it accepts is inside the profile
  pub prepare_bytes_profile : {v : MapRecord × Footer} → (byte_prepare_of film w h pic s m t n).answer ≡ accepted v → Profile s
  prepare_bytes_profile e = bytes_profile w h pic s (length m) (length t) (length n) (table_accepted prepare_bytes_table e).0

  -- and it ends as prepare does
  pub prepare_bytes_wide : {v : MapRecord × Footer} → (byte_prepare_of film w h pic s m t n).answer ≡ accepted v → byte_prepare_of film w h pic s m t n ≡ prepare_of film w h pic s m t n
  prepare_bytes_wide e = prepare_inside film w h pic s m t n (profile_none s (prepare_bytes_profile e))

module _ (w h : ℕ) (pic : List ℕ) (s : Settings) (m t : List ℕ) where
  -- enhance on bytes goes by the same rows but 32
  pub enhance_bytes_table : ByTable (λ (x : EnhanceOut). x.answer) (first (byte_enhance_rows w h pic s (length m) (length t)))
      (foot_of w h s) (enhanced_of w h pic s m t) (λ k. enhance_leaves (refused k) pic m t) (byte_enhance_of w h pic s m t)
  unfolding byte_enhance_of enhanced_of
  enhance_bytes_table =
      record {
        when_none = λ z. ap (λ k. unless k (λ n. enhance_leaves (refused n) pic m t) (enhanced_of w h pic s m t)) z;
        when_some = λ z. sym (unless_refused _ (λ n. enhance_leaves (refused n) pic m t) (enhanced_of w h pic s m t) z);
        says_done = refl;
        says_lent = λ k. refl;
      }

  pub enhance_bytes_profile : {v : Footer} → (byte_enhance_of w h pic s m t).answer ≡ accepted v → Profile s
  enhance_bytes_profile e = enhance_profile w h pic s (length m) (length t) (table_accepted enhance_bytes_table e).0

  pub enhance_bytes_wide : {v : Footer} → (byte_enhance_of w h pic s m t).answer ≡ accepted v → byte_enhance_of w h pic s m t ≡ enhance_of w h pic s m t
  enhance_bytes_wide e = enhance_inside w h pic s m t (profile_none s (enhance_bytes_profile e))

-- ---- draw

module _ (film w h : ℕ) (pic : List ℕ) (s : Settings) (r : MapRecord) (win : Window) (m out : List ℕ) where
  -- inside the profile draw's byte table gives the number of the wide one
  pub draw_rows_inside : first (profile_rows s) ≡ 0 → first (byte_draw_rows film w h pic s r win m (length out)) ≡ first (draw_rows film w h pic s r win m (length out))
  unfolding byte_draw_rows
  draw_rows_inside inside =
      first_same (byte_rows w h (length pic) s (length m)) (shared_rows w h (length pic) s (length m))
      (record_rows film w h s r ++ (window_rows w h win (length out) ++ pixel_rows w pic s win m))
      (byte_numbered w h (length pic) s (length m)) (shared_numbered w h (length pic) s (length m)) (byte_inside w h (length pic) s (length m) inside)
      ∙ ap first (sym (draw_rows_lem film w h pic s r win m (length out)))

  -- so draw on bytes is draw
  pub draw_inside : first (profile_rows s) ≡ 0 → byte_draw_of film w h pic s r win m out ≡ draw_of film w h pic s r win m out
  unfolding byte_draw_of draw_of
  draw_inside inside =
      ap (λ k. unless k (λ n. draw_leaves (refused n) out) (draw_leaves (accepted tt) (drawn_pixels w h pic s win m))) (draw_rows_inside inside)

  -- it goes by its own rows
  pub draw_bytes_table : ByTable (λ (x : DrawOut). x.answer) (first (byte_draw_rows film w h pic s r win m (length out))) tt
      (draw_leaves (accepted tt) (drawn_pixels w h pic s win m)) (λ k. draw_leaves (refused k) out) (byte_draw_of film w h pic s r win m out)
  unfolding byte_draw_of
  draw_bytes_table =
      record {
        when_none = λ z. ap (λ k. unless k (λ n. draw_leaves (refused n) out) (draw_leaves (accepted tt) (drawn_pixels w h pic s win m))) z;
        when_some = λ z. sym (unless_refused _ (λ n. draw_leaves (refused n) out) (draw_leaves (accepted tt) (drawn_pixels w h pic s win m)) z);
        says_done = refl;
        says_lent = λ k. refl;
      }

  -- a window that it accepts is drawn with settings inside the profile, and as draw draws it
  pub draw_bytes_wide : (byte_draw_of film w h pic s r win m out).answer ≡ accepted tt → byte_draw_of film w h pic s r win m out ≡ draw_of film w h pic s r win m out
  unfolding byte_draw_rows
  draw_bytes_wide e =
      draw_inside (profile_none s (byte_ready w h (length pic) s (length m)
      (first_both (byte_rows w h (length pic) s (length m)) _ (byte_numbered w h (length pic) s (length m)) (table_accepted draw_bytes_table e).0).0).profile)
