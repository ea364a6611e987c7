-- The turns of `paint`: the rows passed are painted, those ahead are as they were.
-- Assumes nothing.
use Prim.Native.Nat.{ℕ, ◌+◌, ◌-◌, ◌*◌, ◌≤◌, ◌<◌}
use mathlib.Core.List.{List}
use mathlib.Core.Path.{◌≡◌, ap, ◌∙◌}
use native.Mathlib.Nat.{mul_comm, mul-le-mul, mul-le-mul_right}
use native.Mathlib.Omega.{arith}
use borrow.Rule.Slice.PartMut.{put_mid}
use lib.ListN.{length, take, drop}
use Rattle.base_lists.specs.Lists.{joined, blocks}
use Rattle.base_lists.proofs.Tabs.{length_tab}
use Rattle.base_lists.proofs.Blocks.{block_fits, blocks_step, blocks_end, length_blocks}
use Rattle.base_lists.proofs.Windows.{length_block, blocks_whole}
use Rattle.film_settings.specs.declared.Settings.{Settings}
use Rattle.film_settings.specs.Settings.{Tiled}
use Rattle.film_direct.specs.Direct.{rule_row, DirectRowAsks, DirectPaintAsks}
use Rattle.film_direct.proofs.Pixels.{paint_again}

-- a grey for each column
pub length_rule_row : (w h : ℕ) (pic : List ℕ) (s : Settings) (y : ℕ) → length (rule_row w h pic s y) ≡ w
unfolding rule_row
length_rule_row w h pic s y = length_tab w _

module _ {w h : ℕ} {pic : List ℕ} {s : Settings} {target scratch : ℕ} (asks : DirectPaintAsks w h pic s target scratch) where
  tiled : Tiled w h s
  tiled = asks.film.work.ready.tiled

  -- the target is small
  pub target_small : target ≤ 16777216
  target_small = omega (arith, asks.room, mul-le-mul {n₂ = 4096} {m₂ = 4096} tiled.widest tiled.highest)

  -- a row lies in it
  pub row_room : (y : ℕ) → y < h → y * w + w ≤ target
  row_room y l = block_fits w h l (omega (arith, asks.room, mul_comm w h))

  -- what the row asks
  pub row_asks : (px : List ℕ) (y : ℕ) {n : ℕ} → y < h → length px ≡ target → n ≡ scratch → DirectRowAsks w h pic s y (length (take (y * w + w - y * w) (drop (y * w) px))) n
  row_asks px y l e q = record { film = paint_again asks.film q; row = l; room = length_block px y w (omega (arith, row_room y l)) }

  module _ (o px : List ℕ) (y : ℕ) (e : px ≡ blocks w (rule_row w h pic s) o y) where
    -- one row more
    pub rows_next : {ys : List ℕ} → ys ≡ rule_row w h pic s y → put_mid (y * w) (y * w + w - y * w) px ys ≡ blocks w (rule_row w h pic s) o (y + 1)
    rows_next q = blocks_step w (rule_row w h pic s) o (λ i l. length_rule_row w h pic s i) e q

    -- the length stays
    pub rows_length : y ≤ h → length o ≡ target → length px ≡ length o
    rows_length l q = ap length e ∙ length_blocks w (rule_row w h pic s) o y (λ i k. length_rule_row w h pic s i) (omega (arith, mul-le-mul_right w l, mul_comm w h, asks.room))

    -- all rows
    pub rows_end : y ≤ h → h ≤ y → length o ≡ target → px ≡ joined h (rule_row w h pic s)
    rows_end l k q = blocks_end w (rule_row w h pic s) o e l k ∙ blocks_whole w (rule_row w h pic s) o h (omega (arith, asks.room, mul_comm w h))
