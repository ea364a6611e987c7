-- A row of bytes through a line: what the wide row is lent, that what it leaves are bytes, and what comes back.
-- Assumes nothing.
use Prim.Native.Nat.{ℕ, ◌+◌, ◌<◌}
use mathlib.Core.Bool.{true}
use mathlib.Core.List.{List, ◌++◌}
use mathlib.Core.Path.{◌≡◌, refl, sym, ap, ◌∙◌}
use lib.ListN.{length, take, drop, get_or}
use lib.Seq.{take_at}
use native.Mathlib.Nat.{le_of_eq}
use native.Mathlib.Omega.{arith}
use borrow.Author.Tests.{lt-ltb}
use Rattle.base_lists.specs.Lists.{all, onto, blocks}
use Rattle.base_lists.proofs.Tabs.{length_tab}
use Rattle.base_lists.proofs.Fills.{take_onto}
use Rattle.base_lists.proofs.Windows.{block, length_block}
use Rattle.base_lists.proofs.Alls.{all_tab}
use Rattle.base_lists.proofs.Maps.{onto_whole}
use Rattle.base_range.proofs.Spans.{within_high}
use Rattle.pixel_grid.specs.Grid.{Fits}
use Rattle.film_settings.specs.declared.Settings.{Settings}
use Rattle.film_settings.specs.declared.Window.{Window}
use Rattle.pixel_render.specs.Render.{column_place, row_place, pixel_of, row_of, Mapped, Shown, RenderRowAsks}
use Rattle.pixel_render.proofs.Pixels.{pixel_within}
use Rattle.pixel_render.proofs.Rows.{grey_asks}
use Rattle.pixel_render.proofs.Strips.{strip, strip_room, strip_asks, strips_length}
use Rattle.byte_narrow.specs.Narrow.{is_byte}
use Rattle.byte_render.specs.Bytes.{ByteRowAsks, ByteAsks}

module _ {w h : ℕ} {s : Settings} {m : List ℕ} {left y : ℕ} {vs : List ℕ} {room : ℕ} (asks : ByteRowAsks w h s m left y vs room) where
  -- the rendered row is as long as the row
  rendered_length : length (row_of w s m left (row_place h s y) vs) ≡ length vs
  unfolding row_of
  rendered_length = length_tab (length vs) _

  -- rendered greys lie in Min to Max, and Max is a byte
  rendered_bytes : all is_byte (row_of w s m left (row_place h s y) vs) ≡ true
  unfolding row_of
  rendered_bytes =
      all_tab is_byte (length vs) _
      (λ i l.
      let v : ℕ = pixel_of s m (column_place w s (left + i)) (row_place h s y) (get_or vs i 0) in
      lt-ltb v 256 (omega (arith, within_high s.min s.max v (pixel_within (grey_asks asks.row i l)), asks.bytes)))

  module _ (d : List ℕ) {line : List ℕ} (widened : line ≡ onto d vs) where
    -- the line's front is the row
    front : take (length vs) line ≡ vs
    front = ap (take (length vs)) widened ∙ take_onto d vs (length vs) refl

    -- as long as it
    pub line_size : length vs ≡ length (take (length vs) line)
    line_size = sym (ap length front)

    -- what rendering it asks
    pub line_asks : Fits h s.down × (y < h) × RenderRowAsks w s m left (row_place h s y) (take (length vs) line)
    line_asks = rw front (asks.rows, asks.below, asks.row)

    module _ {ys : List ℕ} (e : ys ≡ row_of w s m left (row_place h s y) (take (length vs) line)) where
      -- what the line's front is left with
      line_front : take (length vs) (ys ++ drop (length vs) line) ≡ row_of w s m left (row_place h s y) vs
      line_front =
          let q : ys ≡ row_of w s m left (row_place h s y) vs = e ∙ ap (row_of w s m left (row_place h s y)) front in
          take_at ys (drop (length vs) line) (length vs) (ap length q ∙ rendered_length) ∙ q

      -- as many as before
      pub back_size : length vs ≡ length (take (length vs) (ys ++ drop (length vs) line))
      back_size = sym (ap length line_front ∙ rendered_length)

      -- and bytes
      pub line_bytes : all is_byte (take (length vs) (ys ++ drop (length vs) line)) ≡ true
      line_bytes = ap (all is_byte) line_front ∙ rendered_bytes

      -- so the row comes back rendered
      pub line_back : {px : List ℕ} → px ≡ onto vs (take (length vs) (ys ++ drop (length vs) line)) → px ≡ row_of w s m left (row_place h s y) vs
      line_back q = q ∙ ap (onto vs) line_front ∙ onto_whole vs _ (le_of_eq (sym rendered_length))

-- ---- a window's rows

-- what the wide window asks
pub wide_asks : {w h : ℕ} {s : Settings} {m : List ℕ} {win : Window} {vs : List ℕ} {room : ℕ} → ByteAsks w h s m win vs room → Mapped w h s m × Shown w h s win vs
wide_asks asks = (asks.mapped, asks.shown)

-- what rendering row j of a window asks
pub bytes_asks : {w h : ℕ} {s : Settings} {m : List ℕ} {win : Window} {vs : List ℕ} {room rest : ℕ} → ByteAsks w h s m win vs room → {px : List ℕ} {j : ℕ}
    → px ≡ blocks win.width (strip w h s m win vs) vs j → j < win.height → rest ≡ room
    → ByteRowAsks w h s m win.left (win.top + j) (block px j win.width) rest
bytes_asks {win = win} asks {px} {j} e l n =
    let row = strip_asks (wide_asks asks) e l in
    let size : length px ≡ _ = strips_length (wide_asks asks) e (omega arith) in
    record {
      rows = row.0;
      below = row.1;
      row = row.2;
      bytes = asks.bytes;
      fitting = omega (arith, length_block px j win.width (omega (arith, size, strip_room (wide_asks asks) l)), asks.fitting, n);
    }
