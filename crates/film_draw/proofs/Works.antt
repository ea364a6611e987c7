-- The work of draw: what its steps ask, and the outcome of each of its returns.
-- Assumes nothing.
use Prim.Native.Nat.{ℕ}
use mathlib.Core.Bool.{false}
use mathlib.Core.List.{List}
use mathlib.Core.Path.{◌≡◌, refl, sym, ap, ◌∙◌}
use lib.ListN.{length}
use native.Mathlib.Nat.{mul_comm}
use Rattle.base_lists.specs.Lists.{all}
use Rattle.base_rows.specs.Refuse.{first, unless, accepted, refused}
use Rattle.base_rows.proofs.Walk.{unless_refused}
use Rattle.base_range.specs.Scan.{within}
use Rattle.tile_count.specs.Tally.{greys_of}
use Rattle.film_settings.specs.declared.Settings.{Settings}
use Rattle.film_settings.specs.declared.MapRecord.{MapRecord}
use Rattle.film_settings.specs.declared.Window.{Window}
use Rattle.film_settings.specs.Settings.{clip_one_of}
use Rattle.pixel_render.specs.Render.{rect_of, Mapped, Shown}
use Rattle.tile_count.proofs.Greys.{length_greys}
use Rattle.pixel_render.proofs.Laws.{ready_mapped}
use Rattle.film_window.specs.Frame.{CopyWindowAsks}
use Rattle.film_window.proofs.Frames.{framed}
use Rattle.film_draw.specs.Draw.{draw_rows, drawn_pixels, draw_of, draw_leaves, WindowReady}

-- what the copying asks
pub copy_asks : {w h : ℕ} {pic : List ℕ} {s : Settings} {win : Window} {m : List ℕ} (out : List ℕ) → WindowReady w h pic s win m (length out) → CopyWindowAsks pic w win out
copy_asks out ready =
    record { framed = framed ready.wide ready.across ready.down ready.ready.whole; size = ready.area }

-- what the rendering of the copied pixels asks
pub render_asks : {w h : ℕ} {pic : List ℕ} {s : Settings} {win : Window} {m out : List ℕ} {room : ℕ} → WindowReady w h pic s win m room → out ≡ greys_of pic w (rect_of win)
    → clip_one_of s.clip ≡ false → Mapped w h s m × Shown w h s win out
render_asks {w} {h} {pic} {s} {win} {m} {out} ready e one = (
  ready_mapped ready.ready refl (ready.mappings one),
  record {
    across = ready.across;
    down = ready.down;
    size = ap length e ∙ length_greys pic w (rect_of win) ∙ mul_comm win.width win.height;
    greys = ap (all (within s.min s.max)) e ∙ ready.greys;
  },
)

-- ---- the returns of draw

module _ (film w h : ℕ) (pic : List ℕ) (s : Settings) (r : MapRecord) (win : Window) (m out : List ℕ) where
  pub draw_ends_refused : {x : ℕ} → x ≡ first (draw_rows film w h pic s r win m (length out)) → (x ≡ 0 → ⊥) → draw_leaves (refused x) out ≡ draw_of film w h pic s r win m out
  unfolding draw_of
  draw_ends_refused {x} e z =
      unless_refused x (λ n. draw_leaves (refused n) out) (draw_leaves (accepted tt) (drawn_pixels w h pic s win m)) z
      ∙ ap (λ k. unless k (λ n. draw_leaves (refused n) out) (draw_leaves (accepted tt) (drawn_pixels w h pic s win m))) e

  pub draw_ends_well : {x : ℕ} {end : List ℕ} → x ≡ first (draw_rows film w h pic s r win m (length out)) → x ≡ 0 → end ≡ drawn_pixels w h pic s win m
      → draw_leaves (accepted tt) end ≡ draw_of film w h pic s r win m out
  unfolding draw_of
  draw_ends_well e z q = ap (draw_leaves (accepted tt)) q ∙ ap (λ k. unless k (λ n. draw_leaves (refused n) out) (draw_leaves (accepted tt) (drawn_pixels w h pic s win m))) (sym z ∙ e)
