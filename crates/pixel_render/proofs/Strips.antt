-- The turns of `render_rows`: each row of a window is rendered in its place.
-- Assumes nothing.
use Prim.Native.Nat.{ℕ, ◌+◌, ◌-◌, ◌*◌, ◌≤◌, ◌<◌}
use mathlib.Core.List.{List}
use mathlib.Core.Path.{◌≡◌, refl, sym, ap, ap₂, ◌∙◌}
use lib.ListN.{length, get_or, take, drop}
use native.Mathlib.Nat.{mul-le-mul_right}
use native.Mathlib.Omega.{arith}
use borrow.Rule.Slice.PartMut.{put_mid}
use Rattle.base_lists.specs.Lists.{tab, sum, joined, blocks}
use Rattle.base_lists.proofs.Tabs.{length_tab, tab_cong}
use Rattle.base_lists.proofs.Blocks.{length_blocks, drop_blocks, blocks_step, blocks_end, block_fits}
use Rattle.base_lists.proofs.Windows.{blocks_whole, block, block_cut, get_or_block, length_block, length_part}
use Rattle.base_lists.proofs.Alls.{all_drop, all_take}
use Rattle.pixel_grid.specs.Grid.{Fits}
use Rattle.pixel_place.proofs.Places.{place_sound}
use Rattle.film_settings.specs.declared.Settings.{Settings}
use Rattle.film_settings.specs.declared.Window.{Window}
use Rattle.pixel_bins.specs.Bins.{binned_of}
use Rattle.pixel_bins.proofs.Bins.{bins_length}
use Rattle.pixel_render.proofs.Counts.{row_few, sum_next}
use Rattle.pixel_render.specs.Render.{rendered_of, row_place, row_of, moved_row, render_of, moved_window, Mapped, Shown, RenderRowAsks}

-- row j of the window, rendered
abbrev pub strip : ℕ → ℕ → Settings → List ℕ → Window → List ℕ → ℕ → List ℕ
strip w h s m win vs j = tab win.width (λ i. rendered_of w h s m (win.left + i) (win.top + j) (get_or vs (j * win.width + i) 0))

-- how many sums of it move
abbrev pub strip_moves : ℕ → Settings → Window → ℕ → List ℕ → ℕ → ℕ
strip_moves w s win room vs j = moved_row w s win.left room (binned_of s (take win.width (drop (j * win.width) vs)))

-- it has the window's width
pub length_strip : (w h : ℕ) (s : Settings) (m : List ℕ) (win : Window) (vs : List ℕ) (j : ℕ) → length (strip w h s m win vs j) ≡ win.width
length_strip w h s m win vs j = length_tab win.width _

-- a window is its rows
pub render_strips : (w h : ℕ) (s : Settings) (m : List ℕ) (win : Window) (vs : List ℕ) → render_of w h s m win vs ≡ joined win.height (strip w h s m win vs)
unfolding render_of
render_strips w h s m win vs = refl

module _ {w h : ℕ} {s : Settings} {m : List ℕ} {win : Window} {vs : List ℕ} (asks : Mapped w h s m × Shown w h s win vs) where
  -- a row ends inside the window's pixels
  pub strip_room : {j : ℕ} → j < win.height → j * win.width + win.width ≤ length vs
  strip_room {j} l = block_fits win.width win.height l (omega (arith, asks.1.size))

  -- before row j is rendered it is as it was
  strip_part : {px : List ℕ} (j : ℕ) → px ≡ blocks win.width (strip w h s m win vs) vs j → block px j win.width ≡ block vs j win.width
  strip_part j e = ap (take (j * win.width + win.width - j * win.width)) (ap (drop (j * win.width)) e ∙ drop_blocks win.width (strip w h s m win vs) vs j (λ i l. length_strip w h s m win vs i))

  -- what rendering row j asks
  pub strip_asks : {px : List ℕ} {j : ℕ} → px ≡ blocks win.width (strip w h s m win vs) vs j → j < win.height
      → Fits h s.down × (win.top + j < h) × RenderRowAsks w s m win.left (row_place h s (win.top + j)) (block px j win.width)
  strip_asks {px} {j} e l =
      let below : win.top + j < h = omega (arith, asks.1.down) in
      rw (strip_part j e) (
        asks.0.rows,
        below,
        record {
          maps = asks.0.maps;
          columns = asks.0.columns;
          across = omega (arith, length_block vs j win.width (strip_room l), asks.1.across);
          row = place_sound asks.0.rows below;
          greys = all_take _ (j * win.width + win.width - j * win.width) (drop (j * win.width) vs) (all_drop _ (j * win.width) vs asks.1.greys);
        },
      )

  -- row j, rendered
  strip_is : {j : ℕ} → j < win.height → row_of w s m win.left (row_place h s (win.top + j)) (block vs j win.width) ≡ strip w h s m win vs j
  unfolding row_of rendered_of
  strip_is {j} l =
      ap (λ n. tab n (λ i. rendered_of w h s m (win.left + i) (win.top + j) (get_or (block vs j win.width) i 0))) (length_block vs j win.width (strip_room l))
      ∙ tab_cong win.width (λ i k. ap (rendered_of w h s m (win.left + i) (win.top + j)) (get_or_block vs j win.width i k))

  -- one row more
  pub strips_next : {px ys : List ℕ} {j : ℕ} → px ≡ blocks win.width (strip w h s m win vs) vs j → j < win.height
      → ys ≡ row_of w s m win.left (row_place h s (win.top + j)) (block px j win.width)
      → put_mid (j * win.width) (j * win.width + win.width - j * win.width) px ys ≡ blocks win.width (strip w h s m win vs) vs (j + 1)
  strips_next {px} {ys} {j} e l q =
      blocks_step win.width (strip w h s m win vs) vs (λ i k. length_strip w h s m win vs i) e
      (q ∙ ap (row_of w s m win.left (row_place h s (win.top + j))) (strip_part j e) ∙ strip_is l)

  -- and how many sums have moved by then, no more than there are pixels
  pub strips_moved : {px : List ℕ} {j moves n r room : ℕ} → px ≡ blocks win.width (strip w h s m win vs) vs j → j < win.height
      → moves ≡ sum j (strip_moves w s win room vs) → moves ≤ j * win.width → n ≡ room → r ≡ moved_row w s win.left n (binned_of s (block px j win.width))
      → (moves + r ≡ sum (j + 1) (strip_moves w s win room vs)) × (moves + r ≤ (j + 1) * win.width)
  strips_moved {px} {j} {moves} {n} {r} {room} e l told few q z =
      sum_next win.width (strip_moves w s win room vs) (told, few) is (omega (arith, is, row_few w s room win.left (binned_of s part), bins_length s part refl, length_part vs win.width (j * win.width) (strip_room l)))
    where
      part : List ℕ
      part = take win.width (drop (j * win.width) vs)

      is : r ≡ strip_moves w s win room vs j
      is = z ∙ ap₂ (moved_row w s win.left) q (ap (binned_of s) (strip_part j e ∙ block_cut vs j win.width))

  -- the length stays
  pub strips_length : {px : List ℕ} {j : ℕ} → px ≡ blocks win.width (strip w h s m win vs) vs j → j ≤ win.height → length px ≡ length vs
  strips_length {px} {j} e l =
      ap length e ∙ length_blocks win.width (strip w h s m win vs) vs j (λ i k. length_strip w h s m win vs i) (omega (arith, mul-le-mul_right win.width l, asks.1.size))

  -- the whole window
  pub strips_end : {px : List ℕ} {j : ℕ} → px ≡ blocks win.width (strip w h s m win vs) vs j → j ≤ win.height → win.height ≤ j → px ≡ render_of w h s m win vs
  strips_end e l k =
      blocks_end win.width (strip w h s m win vs) vs e l k
      ∙ blocks_whole win.width (strip w h s m win vs) vs win.height asks.1.size
      ∙ sym (render_strips w h s m win vs)

-- how many sums of it moved
pub window_moved : (w : ℕ) (s : Settings) (win : Window) (room : ℕ) (vs : List ℕ) {j moves : ℕ} → moves ≡ sum j (strip_moves w s win room vs) → j ≤ win.height → win.height ≤ j → moves ≡ moved_window w s win room vs
unfolding moved_window
window_moved w s win room vs {j} e l k = let q : j ≡ win.height = omega arith in e ∙ ap (λ t. sum t (strip_moves w s win room vs)) q
