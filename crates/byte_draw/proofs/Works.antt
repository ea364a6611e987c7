-- The work of the byte draw: what its rendering asks, and the outcome of each return.
-- Assumes nothing.
use Prim.Native.Nat.{ℕ, ◌≤◌}
use mathlib.Core.Bool.{Bool, true, false, cond}
use mathlib.Core.List.{List}
use mathlib.Core.Path.{◌≡◌, sym, ap, ◌∙◌}
use lib.ListN.{length}
use native.Mathlib.Nat.{mul-le-mul, le_of_eq}
use native.Mathlib.Omega.{arith}
use Rattle.base_rows.specs.Refuse.{first, unless, accepted, refused}
use Rattle.base_rows.proofs.Walk.{unless_refused}
use Rattle.tile_count.specs.Tally.{greys_of}
use Rattle.film_settings.specs.declared.Settings.{Settings}
use Rattle.film_settings.specs.declared.MapRecord.{MapRecord}
use Rattle.film_settings.specs.declared.Window.{Window}
use Rattle.film_settings.specs.Settings.{entries_of, clip_one_of}
use Rattle.pixel_render.specs.Render.{render_of, rect_of}
use Rattle.film_draw.specs.Draw.{drawn_pixels, draw_leaves}
use Rattle.film_draw.proofs.Works.{render_asks}
use Rattle.film_draw.proofs.Like.{drawn_pixels_lem}
use Rattle.byte_render.specs.Bytes.{RenderFromAsks}
use Rattle.byte_profile.specs.Profile.{Profile}
use Rattle.byte_draw.specs.Bytes.{byte_draw_rows, byte_draw_of, ByteWindowReady}

-- "grid 8 by 8 only, bins 64, 128 (or 0) or 256": 16384 entries at most
entries_most : {s : Settings} → Profile s → entries_of s ≤ 16384
entries_most known = mul-le-mul (mul-le-mul (le_of_eq known.across) (le_of_eq known.down)) known.few

-- what the rendering of the copied bytes asks
pub from_asks : {w h : ℕ} {pic : List ℕ} {s : Settings} {win : Window} {m out : List ℕ} {room : ℕ} → ByteWindowReady w h pic s win m room → out ≡ greys_of pic w (rect_of win)
    → clip_one_of s.clip ≡ false → RenderFromAsks w h s m win out
from_asks ready e one =
    let (mapped, shown) = render_asks ready.shown e one in
    record {
      mapped = mapped;
      shown = shown;
      bytes = le_of_eq ready.profile.max;
      entries = entries_most ready.profile;
      wide = omega (arith, ready.shown.across, ready.shown.ready.tiled.widest);
    }

-- ---- the returns of the work

-- b is what the code is told of the factor 1.0
module _ (w h : ℕ) (pic : List ℕ) (s : Settings) (win : Window) (m : List ℕ) {b : Bool} (told : b ≡ clip_one_of s.clip) where
  -- what is drawn, by it
  drawn_by : cond b (greys_of pic w (rect_of win)) (render_of w h s m win (greys_of pic w (rect_of win))) ≡ drawn_pixels w h pic s win m
  drawn_by =
      ap (λ one. cond one (greys_of pic w (rect_of win)) (render_of w h s m win (greys_of pic w (rect_of win)))) told
      ∙ sym (drawn_pixels_lem w h pic s win m)

  pub work_copied : {end : List ℕ} → b ≡ true → end ≡ greys_of pic w (rect_of win) → end ≡ drawn_pixels w h pic s win m
  work_copied one e =
      e
      ∙ sym (ap (λ b. cond b (greys_of pic w (rect_of win)) (render_of w h s m win (greys_of pic w (rect_of win)))) one)
      ∙ drawn_by

  pub work_rendered : {out end : List ℕ} → b ≡ false → out ≡ greys_of pic w (rect_of win) → end ≡ render_of w h s m win out → end ≡ drawn_pixels w h pic s win m
  work_rendered one e q =
      q
      ∙ ap (render_of w h s m win) e
      ∙ sym (ap (λ b. cond b (greys_of pic w (rect_of win)) (render_of w h s m win (greys_of pic w (rect_of win)))) one)
      ∙ drawn_by

-- ---- the returns of draw

module _ (film w h : ℕ) (pic : List ℕ) (s : Settings) (r : MapRecord) (win : Window) (m out : List ℕ) where
  pub byte_draw_ends_refused : {x : ℕ} → x ≡ first (byte_draw_rows film w h pic s r win m (length out)) → (x ≡ 0 → ⊥) → draw_leaves (refused x) out ≡ byte_draw_of film w h pic s r win m out
  unfolding byte_draw_of
  byte_draw_ends_refused {x} e z =
      unless_refused x (λ n. draw_leaves (refused n) out) (draw_leaves (accepted tt) (drawn_pixels w h pic s win m)) z
      ∙ ap (λ k. unless k (λ n. draw_leaves (refused n) out) (draw_leaves (accepted tt) (drawn_pixels w h pic s win m))) e

  pub byte_draw_ends_well : {x : ℕ} {end : List ℕ} → x ≡ first (byte_draw_rows film w h pic s r win m (length out)) → x ≡ 0 → end ≡ drawn_pixels w h pic s win m
      → draw_leaves (accepted tt) end ≡ byte_draw_of film w h pic s r win m out
  unfolding byte_draw_of
  byte_draw_ends_well e z q = ap (draw_leaves (accepted tt)) q ∙ ap (λ k. unless k (λ n. draw_leaves (refused n) out) (draw_leaves (accepted tt) (drawn_pixels w h pic s win m))) (sym z ∙ e)
