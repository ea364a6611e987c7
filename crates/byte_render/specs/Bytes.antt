-- What rendering bytes asks. What is rendered is said by `pixel_render`, what is copied by `film_window`: greys are the same numbers in bytes.
-- w and h are the film's width and height, m the map buffer, room the length of the line that rows go through.
-- Assumes nothing.
use Rattle.std.specs.Prelude.{ℕ, ◌≤◌, ◌<◌, List, length}
use Rattle.pixel_grid.specs.Grid.{Fits}
use Rattle.film_settings.specs.declared.Settings.{Settings}
use Rattle.film_settings.specs.declared.Window.{Window}
use Rattle.film_settings.specs.Settings.{entries_of}
use Rattle.pixel_render.specs.Render.{row_place, Mapped, Shown, RenderRowAsks}

-- what a row of bytes asks: what a row asks, a Max that is a byte ("Min 0, Max 255"), and a line that the row fits
pub record ByteRowAsks (w h : ℕ) (s : Settings) (m : List ℕ) (left y : ℕ) (vs : List ℕ) (room : ℕ) : Type 0 where
  pub rows : Fits h s.down
  pub below : y < h
  pub row : RenderRowAsks w s m left (row_place h s y) vs
  pub bytes : s.max ≤ 255
  pub fitting : length vs ≤ room

-- what a window of bytes asks: what a window asks, a Max that is a byte, and a line that its rows fit
pub record ByteAsks (w h : ℕ) (s : Settings) (m : List ℕ) (win : Window) (vs : List ℕ) (room : ℕ) : Type 0 where
  pub mapped : Mapped w h s m
  pub shown : Shown w h s win vs
  pub bytes : s.max ≤ 255
  pub fitting : win.width ≤ room

-- what a window of bytes asks where the mappings are bytes too: what a window asks, a Max that is a byte, and mappings and rows that fit
-- the function's own room: "grid 8 by 8 only, bins 64, 128 (or 0) or 256" make 16384 entries at most, and a film is 4096 wide at most
pub record RenderFromAsks (w h : ℕ) (s : Settings) (m : List ℕ) (win : Window) (vs : List ℕ) : Type 0 where
  pub mapped : Mapped w h s m
  pub shown : Shown w h s win vs
  pub bytes : s.max ≤ 255
  pub entries : entries_of s ≤ 16384
  pub wide : win.width ≤ 4096
