-- What looking at a window and copying it ask: that it lies inside the picture.
-- pic is the picture, stride its width, win the window and out the output.
-- Assumes nothing.
use Rattle.std.specs.Prelude.{ℕ, ◌+◌, ◌*◌, ◌≤◌, ◌<◌, List, ◌≡◌, length}
use Rattle.film_settings.specs.declared.Window.{Window}

-- a window inside a picture of `size` pixels, `stride` wide, of a column at least
pub record Framed (size stride : ℕ) (win : Window) : Type 0 where
  pub some : 0 < win.width
  pub across : win.left + win.width ≤ stride
  pub down : (win.top + win.height) * stride ≤ size

-- what the copying of a window asks: it lies inside the picture, and the output has its area
pub record CopyWindowAsks (pic : List ℕ) (stride : ℕ) (win : Window) (out : List ℕ) : Type 0 where
  pub framed : Framed (length pic) stride win
  pub size : length out ≡ win.height * win.width
