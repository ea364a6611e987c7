-- Laws of rendering: where a window's pixels lie, a window against the whole film, and what the rendered greys are held to.
-- Assumes nothing.
use Prim.Native.Nat.{ℕ, ◌+◌, ◌*◌, ◌≤◌, ◌<◌}
use mathlib.Core.Bool.{true}
use mathlib.Core.List.{List}
use mathlib.Core.Path.{◌≡◌, refl, sym, ap, ap₂, ◌∙◌}
use lib.ListN.{length, get_or, take}
use native.Mathlib.Nat.{zero-add}
use native.Mathlib.Omega.{arith}
use Rattle.base_lists.specs.Lists.{all}
use Rattle.base_lists.proofs.Tabs.{get_or_tab, tab_cong}
use Rattle.base_lists.proofs.Fills.{length_joined, joined_cong}
use Rattle.base_lists.proofs.Blocks.{get_or_joined, block_fits}
use Rattle.base_lists.proofs.Alls.{all_at, all_joined, all_tab}
use Rattle.base_range.specs.Scan.{within}
use Rattle.tile_bin.specs.Binning.{bin_of}
use Rattle.tile_count.specs.Tally.{greys_of}
use Rattle.tile_count.proofs.Greys.{get_or_greys}
use Rattle.pixel_place.specs.Blend.{place_of, grey_of}
use Rattle.film_settings.specs.declared.Settings.{Settings}
use Rattle.film_settings.specs.declared.Window.{Window}
use Rattle.film_settings.specs.Settings.{bins_of, entries_of, kept_of, Ready}
use Rattle.film_settings.proofs.Like.{bins_kept}
use Rattle.film_settings.proofs.Records.{tiled_columns, tiled_rows}
use Rattle.pixel_weigh.proofs.Pixels.{corners_by}
use Rattle.pixel_render.specs.Render.{pixel_of, column_place, row_place, rendered_of, render_of, whole, rect_of, Mapped, Shown, RenderPixelAsks}
use Rattle.pixel_render.proofs.Pixels.{pixel_corners, pixel_fields, pixel_bin, pixel_within, pixel_front}
use Rattle.pixel_render.proofs.Rows.{pixel_asks}
use Rattle.pixel_render.proofs.Strips.{strip, length_strip, render_strips}

-- ---- a window's pixels

-- there is a rendered grey for each pixel of the window
pub length_render : (w h : ℕ) (s : Settings) (m : List ℕ) (win : Window) (vs : List ℕ) → length (render_of w h s m win vs) ≡ win.height * win.width
length_render w h s m win vs =
    ap length (render_strips w h s m win vs)
    ∙ length_joined win.width win.height (strip w h s m win vs) (λ j l. length_strip w h s m win vs j)

-- "the window's pixels row by row": the pixel in row j and column i of the window is the film's in row top + j and column left + i
pub render_at : (w h : ℕ) (s : Settings) (m : List ℕ) (win : Window) (vs : List ℕ) {j i : ℕ} → j < win.height → i < win.width
    → get_or (render_of w h s m win vs) (j * win.width + i) 0 ≡ rendered_of w h s m (win.left + i) (win.top + j) (get_or vs (j * win.width + i) 0)
render_at w h s m win vs {j} {i} l k =
    ap (λ t. get_or t (j * win.width + i) 0) (render_strips w h s m win vs)
    ∙ get_or_joined win.width win.height (strip w h s m win vs) (λ t q. length_strip w h s m win vs t) j i 0 l k
    ∙ get_or_tab win.width (λ i. rendered_of w h s m (win.left + i) (win.top + j) (get_or vs (j * win.width + i) 0)) i 0 k

-- the clip setting plays no part in rendering
pub render_fields : (w h : ℕ) (s s' : Settings) (m : List ℕ) (win : Window) (vs : List ℕ)
    → s'.across ≡ s.across → s'.down ≡ s.down → bins_of s' ≡ bins_of s → s'.min ≡ s.min → s'.max ≡ s.max → render_of w h s' m win vs ≡ render_of w h s m win vs
unfolding render_of rendered_of
render_fields w h s s' m win vs across down bins min max =
    joined_cong win.height
    (λ j l. tab_cong win.width (λ i k. pixel_fields s s' m _ _ _ across bins min max
    ∙ ap₂ (λ a d. pixel_of s m (place_of w a (win.left + i)) (place_of h d (win.top + j)) (get_or vs (j * win.width + i) 0)) across down))

-- and bins 0 are 128: with the settings as they are kept the pixels come out the same
pub render_kept : (w h : ℕ) (s : Settings) (m : List ℕ) (win : Window) (vs : List ℕ) → render_of w h (kept_of s) m win vs ≡ render_of w h s m win vs
render_kept w h s m win vs = render_fields w h s (kept_of s) m win vs refl refl (bins_kept s) refl refl

-- a pixel of a window inside the film is the same pixel of the whole film
pub window_law : (w h : ℕ) (s : Settings) (m : List ℕ) (win : Window) (pic : List ℕ) → win.left + win.width ≤ w → win.top + win.height ≤ h
    → {j i : ℕ} → j < win.height → i < win.width
    → get_or (render_of w h s m win (greys_of pic w (rect_of win))) (j * win.width + i) 0
    ≡ get_or (render_of w h s m (whole w h) pic) ((win.top + j) * w + (win.left + i)) 0
window_law w h s m win pic across down {j} {i} l k =
    render_at w h s m win (greys_of pic w (rect_of win)) l k
    ∙ ap (rendered_of w h s m (win.left + i) (win.top + j)) (get_or_greys pic w (rect_of win) l k)
    ∙ ap₂ (λ x y. rendered_of w h s m x y (get_or pic ((win.top + j) * w + (win.left + i)) 0)) (sym (zero-add (win.left + i))) (sym (zero-add (win.top + j)))
    ∙ sym (render_at w h s m (whole w h) pic {j = win.top + j} {i = win.left + i} (omega arith) (omega arith))

-- ---- rendered greys lie in Min to Max

-- each pixel of the film does
pub rendered_within : {w h : ℕ} {s : Settings} {m : List ℕ} → Mapped w h s m → (x y v : ℕ) → x < w → y < h → within s.min s.max v ≡ true
    → within s.min s.max (rendered_of w h s m x y v) ≡ true
unfolding rendered_of
rendered_within mapped x y v l k g = pixel_within (pixel_asks mapped l k g)

-- a window's pixel has a grey from Min to Max
pub shown_within : {w h : ℕ} {s : Settings} {win : Window} {vs : List ℕ} → Shown w h s win vs → {j i : ℕ} → j < win.height → i < win.width
    → within s.min s.max (get_or vs (j * win.width + i) 0) ≡ true
shown_within {w} {h} {s} {win} {vs} shown {j} {i} l k =
    let room : win.height * win.width ≤ length vs = omega (arith, shown.size) in
    all_at (within s.min s.max) vs shown.greys (j * win.width + i) 0 (omega (arith, block_fits win.width win.height l room))

-- so each pixel of a rendered window does
pub render_within : {w h : ℕ} {s : Settings} {m : List ℕ} {win : Window} {vs : List ℕ} → Mapped w h s m → Shown w h s win vs
    → all (within s.min s.max) (render_of w h s m win vs) ≡ true
unfolding render_of
render_within {w} {h} {s} {m} {win} {vs} mapped shown =
    all_joined (within s.min s.max) win.height _
    (λ j l. all_tab (within s.min s.max) win.width _ (λ i k. rendered_within mapped _ _ _ (omega (arith, shown.across)) (omega (arith, shown.down)) (shown_within shown l k)))

-- ---- only the mappings' entries of the map buffer are read

-- a pixel of the film is the same in buffers that agree in the mappings' entries
pub rendered_front : {w h : ℕ} {s : Settings} {m : List ℕ} → Mapped w h s m → (m' : List ℕ) → take (entries_of s) m ≡ take (entries_of s) m'
    → (x y v : ℕ) → x < w → y < h → within s.min s.max v ≡ true → rendered_of w h s m x y v ≡ rendered_of w h s m' x y v
unfolding rendered_of
rendered_front mapped m' e x y v l k g = pixel_front (pixel_asks mapped l k g) m' e

-- and so is a window
pub render_front : {w h : ℕ} {s : Settings} {m : List ℕ} {win : Window} {vs : List ℕ} → Mapped w h s m → Shown w h s win vs → (m' : List ℕ)
    → take (entries_of s) m ≡ take (entries_of s) m' → render_of w h s m win vs ≡ render_of w h s m' win vs
unfolding render_of
render_front {w} {h} {s} {m} {win} {vs} mapped shown m' e =
    joined_cong win.height
    (λ j l. tab_cong win.width (λ i k. rendered_front mapped m' e _ _ _ (omega (arith, shown.across)) (omega (arith, shown.down)) (shown_within shown l k)))

-- ---- what a call knows once no refusal applies

-- settings that are not refused, and mappings from Min to Max in a buffer that is long enough: pixels can be rendered
pub ready_mapped : {w h size : ℕ} {s : Settings} {room : ℕ} {m : List ℕ} → Ready w h size s room → length m ≡ room → all (within s.min s.max) (take (entries_of s) m) ≡ true
    → Mapped w h s m
ready_mapped {w} {h} {size} {s} {room} {m} ready e g =
    record {
      maps =
          record {
            across = ready.tiled.acrossmost;
            down = ready.tiled.downmost;
            scale = record { order = omega (arith, ready.tiled.min); most = ready.tiled.max; some = ready.tiled.bins; few = ready.tiled.binsmost; reach = ready.tiled.reach };
            room = rw e ready.fitting;
            greys = g;
          };
      columns = tiled_columns ready.tiled;
      rows = tiled_rows ready.tiled;
    }

-- the rendered grey by the mapped values of the four tiles, where `value j i` is that of the pixel's bin in tile row j and tile column i
pub rendered_by : {w h : ℕ} {s : Settings} {m : List ℕ} → Mapped w h s m → (value : ℕ → ℕ → ℕ) {x y : ℕ} (v : ℕ) → x < w → y < h → within s.min s.max v ≡ true
    → ((j i : ℕ) → j < s.down → i < s.across → bin_of s.min s.max (bins_of s) v < bins_of s
    → get_or m ((j * s.across + i) * bins_of s + bin_of s.min s.max (bins_of s) v) 0 ≡ value j i)
    → rendered_of w h s m x y v
    ≡ grey_of (column_place w s x) (row_place h s y)
    (value (row_place h s y).lower (column_place w s x).lower) (value (row_place h s y).lower (column_place w s x).upper)
    (value (row_place h s y).upper (column_place w s x).lower) (value (row_place h s y).upper (column_place w s x).upper)
unfolding rendered_of
rendered_by {w} {h} {s} {m} mapped value {x} {y} v l k g same =
    let places : RenderPixelAsks s m (column_place w s x) (row_place h s y) v = pixel_asks mapped l k g in
    pixel_corners s m (column_place w s x) (row_place h s y) v
    ∙ corners_by s m (bin_of s.min s.max (bins_of s) v) value places.column places.row (λ j i p q. same j i p q (pixel_bin places))
