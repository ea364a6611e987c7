-- "The rendered grey" of a pixel of an accepted film, as the calls leave it: enhance, prepare then draw, both on bytes too, and counting, mapping, then draw.
-- A name with ' is lent memory at the end.
-- Assumes nothing.
use Prim.Native.Nat.{ℕ, ◌+◌, ◌*◌, ◌<◌}
use mathlib.Core.List.{List}
use mathlib.Core.Path.{◌≡◌}
use lib.ListN.{get_or}
use Rattle.base_rows.specs.Refuse.{accepted}
use Rattle.film_settings.specs.declared.Settings.{Settings}
use Rattle.film_settings.specs.declared.Footer.{Footer}
use Rattle.promise_films.proofs.Runs.{PrepareCall, EnhanceCall, Enhances, DrawCall}
use Rattle.promise_films.proofs.Ways.{DrawnFrom, drawn_grey}
use Rattle.promise_bytes.proofs.Runs.{EnhancesBytes}
use Rattle.promise_bytes.proofs.Ended.{DrawnFromBytes}
use Rattle.promise_counts.proofs.Runs.{MapCall}
use Rattle.promise_counts.proofs.Ways.{DrawnFromMapping}

-- a film: its size, settings and pixels
pub record Film : Type 0 where
  pub width : ℕ
  pub height : ℕ
  pub settings : Settings
  pub pixels : List ℕ

-- the one that enhance, or prepare, was handed
abbrev pub enhances_film : EnhanceCall → Film
enhances_film e = record { width = e.width; height = e.height; settings = e.settings; pixels = e.pixels }

abbrev pub prepares_film : PrepareCall → Film
prepares_film p = record { width = p.width; height = p.height; settings = p.settings; pixels = p.pixels }

-- the one of these pixels whose counts mapping was handed
abbrev pub maps_film : List ℕ → MapCall → Film
maps_film pic m = record { width = m.width; height = m.height; settings = m.settings; pixels = pic }

-- the grey in column i and row j of what enhance left
abbrev pub enhanced_grey : EnhanceCall → ℕ → ℕ → ℕ
enhanced_grey e i j = get_or e.pixels' (j * e.width + i) 0

-- "the rendered grey" g of the pixel in column x and row y of the film f, by each of the ways; a window's pixel in column i and row j is the film's that lies there
pub data Rendered : Film → ℕ → ℕ → ℕ → Type 0 where
  by_enhance : {e : EnhanceCall} {foot : Footer} {x y : ℕ} → Enhances e → e.answer ≡ accepted foot → x < e.width → y < e.height
      → Rendered (enhances_film e) x y (enhanced_grey e x y)
  by_draw : {p : PrepareCall} {foot : Footer} {d : DrawCall} {i j : ℕ} → DrawnFrom p foot d → i < d.window.width → j < d.window.height
      → Rendered (prepares_film p) (d.window.left + i) (d.window.top + j) (drawn_grey d i j)
  by_enhance_bytes : {e : EnhanceCall} {foot : Footer} {x y : ℕ} → EnhancesBytes e → e.answer ≡ accepted foot → x < e.width → y < e.height
      → Rendered (enhances_film e) x y (enhanced_grey e x y)
  by_draw_bytes : {p : PrepareCall} {foot : Footer} {d : DrawCall} {i j : ℕ} → DrawnFromBytes p foot d → i < d.window.width → j < d.window.height
      → Rendered (prepares_film p) (d.window.left + i) (d.window.top + j) (drawn_grey d i j)
  by_counts : {pic : List ℕ} {m : MapCall} {foot : Footer} {d : DrawCall} {i j : ℕ} → DrawnFromMapping pic m foot d → i < d.window.width → j < d.window.height
      → Rendered (maps_film pic m) (d.window.left + i) (d.window.top + j) (drawn_grey d i j)
