-- slide by the names of its arguments; a name with ' is lent memory at the end. The only file here that counts its parameters, in their order in the source.
-- Assumes nothing.
use Prim.Native.Nat.{ℕ}
use mathlib.Core.List.{List}
use Rattle.base_rows.specs.Run.{Run, Ran}
use Rattle.tile_slide.specs.Slide.{Slid}
use Rattle.tile_slide.proofs.slide.Kinds as slide
use Rattle.tile_slide.proofs.slide.Reads as slide-reads

pub record SlideCall : Type 0 where
  pub pixels : List ℕ
  pub width : ℕ
  pub height : ℕ
  pub side : ℕ
  pub x : ℕ
  pub y : ℕ
  pub low : ℕ
  pub high : ℕ
  pub bins : ℕ
  pub factor : ℕ
  pub counts : List ℕ
  pub counts' : List ℕ

abbrev pub slide_values : Run slide.ps slide.r slide-reads.Post → SlideCall
slide_values run =
    let (pixels, (width, (height, (side, (x, (y, (by, (counts, end)))))))) = run.handed in
    let (_, (_, (_, (_, (_, (_, (_, (counts', end')))))))) = run.left in
    record { pixels = pixels.now; width = width; height = height; side = side; x = x; y = y; low = by.min; high = by.max; bins = by.bins; factor = by.factor; counts = counts.now; counts' = counts'.now }

-- slide ran with these values
abbrev pub Slides : SlideCall → Type 0
Slides = Ran slide_values

pub slide_ends : {c : SlideCall} → Slides c → Slid c.pixels c.width c.height c.side c.x c.y c.low c.high c.bins c.counts c.counts'
slide_ends ran = rw ran.named ran.run.allowed
