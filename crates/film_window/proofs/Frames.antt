-- The rows of a window: where they lie in the picture, what is looked for in them, and how they are copied.
-- Assumes nothing.
use Prim.Native.Nat.{ℕ, ◌+◌, ◌-◌, ◌*◌, ◌≤◌, ◌<◌, min, max}
use mathlib.Core.Bool.{Bool, true, false, ◌&&◌}
use mathlib.Core.List.{List, append-nil}
use mathlib.Core.Path.{◌≡◌, refl, sym, ap, ◌∙◌}
use lib.Dec.{leb}
use lib.ListN.{length, take, drop, get_or, length-drop}
use lib.Seq.{drop-length, length-take-le}
use native.Mathlib.Nat.{le_of_eq, mul_comm, mul-le-mul_right}
use native.Mathlib.Omega.{arith}
use borrow.Rule.Slice.PartMut.{put_mid}
use borrow.Author.Tests.{le-leb}
use Rattle.base_lists.specs.Lists.{joined, all, onto, blocks}
use Rattle.base_lists.proofs.Tabs.{every_not}
use Rattle.base_lists.proofs.Fills.{joined_suc}
use Rattle.base_lists.proofs.Blocks.{blocks_step, blocks_end, block_fits, length_blocks}
use Rattle.base_lists.proofs.Alls.{all_both, all_joined_every}
use Rattle.base_lists.proofs.Maps.{onto_whole}
use Rattle.base_range.proofs.Spans.{Spans, spans_next}
use Rattle.tile_count.specs.Tally.{greys_of}
use Rattle.tile_count.proofs.Greys.{row_of, greys_rows, length_row_lem, row_room, part_row}
use Rattle.film_settings.specs.declared.Window.{Window}
use Rattle.pixel_render.specs.Render.{rect_of}
use Rattle.film_window.specs.Frame.{Framed, CopyWindowAsks}

-- a window inside the film lies inside the film's picture
pub framed : {w h size : ℕ} {win : Window} → 0 < win.width → win.left + win.width ≤ w → win.top + win.height ≤ h → size ≡ w * h → Framed size w win
framed {w} {h} {size} {win} some across down whole =
    record { some = some; across = across; down = omega (arith, mul-le-mul_right w down, mul_comm h w) }

-- the greys of row y of the window
abbrev pub line : List ℕ → ℕ → Window → ℕ → List ℕ
line pic stride win = row_of pic stride (rect_of win)

-- a row ends inside the picture
pub line_room : {size stride : ℕ} {win : Window} → Framed size stride win → (y : ℕ) → y < win.height → (win.top + y) * stride + (win.left + win.width) ≤ size
line_room {win = win} f y h = row_room (rect_of win) f.across f.down y h

-- the row as a part of the picture
pub line_part : (pic : List ℕ) (stride : ℕ) (win : Window) → Framed (length pic) stride win → (y : ℕ) → y < win.height
    → take ((win.top + y) * stride + win.left + win.width - ((win.top + y) * stride + win.left)) (drop ((win.top + y) * stride + win.left) pic) ≡ line pic stride win y
line_part pic stride win f y h = part_row pic stride (rect_of win) f.across f.down y h

-- and cut out of it
pub line_cut : (pic : List ℕ) (stride : ℕ) (win : Window) → Framed (length pic) stride win → (y : ℕ) → y < win.height
    → take win.width (drop ((win.top + y) * stride + win.left) pic) ≡ line pic stride win y
line_cut pic stride win f y h =
    let w : win.width ≡ (win.top + y) * stride + win.left + win.width - ((win.top + y) * stride + win.left) = omega arith in
    ap (λ n. take n (drop ((win.top + y) * stride + win.left) pic)) w ∙ line_part pic stride win f y h

-- ---- a row, looked at where the range begins at 0

-- no grey as yet
pub above_first : (hi : ℕ) (xs : List ℕ) → Spans 0 hi (take 0 xs) 0 0
unfolding all
above_first hi xs = record { told = sym (le-leb 0 hi (omega arith)) }

-- one grey more: the least stays 0
pub above_next : (hi : ℕ) (xs : List ℕ) {i b q : ℕ} → Spans 0 hi (take i xs) 0 b → i < length xs → q ≡ max b (get_or xs i 0) → Spans 0 hi (take (i + 1) xs) 0 q
above_next hi xs {i} {b} h l high =
    let none : min 0 (get_or xs i 0) ≡ 0 = omega arith in
    rw high record { told = (spans_next 0 hi xs h l).told ∙ ap (λ a. leb 0 a && leb (max b (get_or xs i 0)) hi) none }

-- ---- the rows, looked at one by one

pub lines_first : (p : ℕ → Bool) (f : ℕ → List ℕ) → all p (joined 0 f) ≡ true
unfolding joined all
lines_first p f = refl

-- a row that meets it
pub lines_next : (p : ℕ → Bool) (f : ℕ → List ℕ) {y : ℕ} {vs : List ℕ} → all p (joined y f) ≡ true → all p vs ≡ true → vs ≡ f y → all p (joined (y + 1) f) ≡ true
lines_next p f {y} {vs} h k e = ap (all p) (joined_suc y f) ∙ all_both p (joined y f) (f y) h (ap (all p) (sym e) ∙ k)

-- all rows do
pub lines_end : (p : ℕ → Bool) (pic : List ℕ) (stride : ℕ) (win : Window) {y : ℕ} → all p (joined y (line pic stride win)) ≡ true → y ≤ win.height → win.height ≤ y
    → all p (greys_of pic stride (rect_of win)) ≡ true
lines_end p pic stride win {y} h k l =
    let e : win.height ≡ y = omega arith in
    ap (all p) (greys_rows pic stride (rect_of win) ∙ ap (λ n. joined n (line pic stride win)) e) ∙ h

-- a row that does not meet it is enough
pub lines_not : (p : ℕ → Bool) (pic : List ℕ) (stride : ℕ) (win : Window) {y : ℕ} {vs : List ℕ} → y < win.height → all p vs ≡ false → vs ≡ line pic stride win y
    → all p (greys_of pic stride (rect_of win)) ≡ false
lines_not p pic stride win {y} {vs} h k e =
    ap (all p) (greys_rows pic stride (rect_of win))
    ∙ all_joined_every p win.height (line pic stride win)
    ∙ every_not win.height (λ i. all p (line pic stride win i)) y h (ap (all p) (sym e) ∙ k)

-- ---- the rows, copied one by one

module _ {pic : List ℕ} {stride : ℕ} {win : Window} {out₀ : List ℕ} (asks : CopyWindowAsks pic stride win out₀) where
  -- where a row goes lies inside the output
  pub place_room : {y : ℕ} → y < win.height → y * win.width + win.width ≤ length out₀
  place_room l = block_fits win.width win.height l (omega (arith, asks.size))

  -- a part of the output that a row fills
  pub length_place : (out : List ℕ) {y : ℕ} → y < win.height → length out ≡ length out₀
      → length (take (y * win.width + win.width - y * win.width) (drop (y * win.width) out)) ≡ win.width
  length_place out {y} l e =
      let w : y * win.width + win.width - y * win.width ≡ win.width = omega arith in
      ap (λ k. length (take k (drop (y * win.width) out))) w
      ∙ length-take-le win.width (drop (y * win.width) out) (rw length-drop (omega (arith, place_room l)))

  -- one row more
  pub rows_next : {out vs ys : List ℕ} {y : ℕ} → out ≡ blocks win.width (line pic stride win) out₀ y → length out ≡ length out₀ → y < win.height
      → vs ≡ line pic stride win y
      → ys ≡ onto (take (y * win.width + win.width - y * win.width) (drop (y * win.width) out)) vs
      → put_mid (y * win.width) (y * win.width + win.width - y * win.width) out ys ≡ blocks win.width (line pic stride win) out₀ (y + 1)
  rows_next {out} {vs} {ys} {y} e n l v q =
      blocks_step win.width (line pic stride win) out₀ (λ i k. length_row_lem pic stride (rect_of win) i) e
      (q ∙ onto_whole _ vs (le_of_eq (length_place out l n ∙ sym (ap length v ∙ length_row_lem pic stride (rect_of win) y))) ∙ v)

  -- the length stays
  pub rows_length : {out : List ℕ} {y : ℕ} → out ≡ blocks win.width (line pic stride win) out₀ y → y ≤ win.height → length out ≡ length out₀
  rows_length {out} {y} e l =
      ap length e
      ∙ length_blocks win.width (line pic stride win) out₀ y (λ i k. length_row_lem pic stride (rect_of win) i) (omega (arith, mul-le-mul_right win.width l, asks.size))

  -- the whole window
  pub rows_end : {out : List ℕ} {y : ℕ} → out ≡ blocks win.width (line pic stride win) out₀ y → y ≤ win.height → win.height ≤ y → out ≡ greys_of pic stride (rect_of win)
  unfolding blocks
  rows_end {out} {y} e l k =
      blocks_end win.width (line pic stride win) out₀ e l k
      ∙ rw (← asks.size, drop-length out₀, append-nil) (sym (greys_rows pic stride (rect_of win)))
