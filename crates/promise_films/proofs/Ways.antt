-- What the promises speak of, beside one call: what prepare left and is handed to draw, a window drawn from it, and a file that was written and is read back.
-- A name with ' is lent memory at the end.
-- Assumes nothing.
use Prim.Native.Nat.{ℕ, ◌+◌, ◌*◌, ◌≤◌, ◌<◌}
use mathlib.Core.Bool.{false}
use mathlib.Core.Path.{◌≡◌}
use lib.ListN.{length, get_or, take, drop}
use Rattle.base_rows.specs.Refuse.{accepted, refused}
use Rattle.film_settings.specs.declared.Footer.{Footer}
use Rattle.film_settings.specs.Settings.{bins_of, entries_of, kept_of, clip_one_of}
use Rattle.promise_films.specs.Films.{HandedOn}
use Rattle.promise_films.proofs.Runs.{PrepareCall, Prepares, EnhanceCall, Enhances, DrawCall, Draws, SizesCall, ReadsSizes, RasterCall, ReadsRaster, GreysCall, Greys, WriteCall, Writes}

-- ---- a record of another film

-- draw says a number above 0, and the output holds what it held
abbrev pub Refuses : DrawCall → Type 0
Refuses d = (n : ℕ) × (0 < n) × (d.answer ≡ refused n) × (d.out' ≡ d.out)

-- ---- what prepare left

-- what prepare left, handed to draw: prepare accepted the film of p with this footer, and draw is handed the same film with the record that prepare answered, the settings,
-- the mappings that prepare left, a window inside the film and an output of its area
pub record HandedToDraw (p : PrepareCall) (foot : Footer) (d : DrawCall) : Type 0 where
  pub prepares : Prepares p
  pub prepared : p.answer ≡ accepted (d.kept, foot)
  pub draws : Draws d
  pub film : d.film ≡ p.film
  pub width : d.width ≡ p.width
  pub height : d.height ≡ p.height
  pub pixels : d.pixels ≡ p.pixels
  pub rest : HandedOn p.width p.height p.settings p.map' d.settings d.map d.window (length d.out)

-- "through a window from the record and mappings prepared for those pixels and unchanged since": prepare accepted the film of p with this footer,
-- and draw accepted d, handed the record that prepare answered, the same pixels and, but at the factor 1.0, the mappings that it left, whatever else
pub record DrawnFrom (p : PrepareCall) (foot : Footer) (d : DrawCall) : Type 0 where
  pub prepares : Prepares p
  pub prepared : p.answer ≡ accepted (d.kept, foot)
  pub draws : Draws d
  pub drawn : d.answer ≡ accepted tt
  pub pixels : d.pixels ≡ p.pixels
  pub mappings : clip_one_of p.settings.clip ≡ false → take (entries_of p.settings) d.map ≡ take (entries_of p.settings) p.map'

-- enhance is handed the film of p, with settings that are kept as its own, and buffers that are long enough
pub record EnhancesFilm (p : PrepareCall) (e : EnhanceCall) : Type 0 where
  pub enhances : Enhances e
  pub width : e.width ≡ p.width
  pub height : e.height ≡ p.height
  pub pixels : e.pixels ≡ p.pixels
  pub like : kept_of e.settings ≡ kept_of p.settings
  pub map : entries_of p.settings ≤ length e.map
  pub scratch : bins_of p.settings ≤ length e.scratch

-- the grey in column i and row j of what draw left
abbrev pub drawn_grey : DrawCall → ℕ → ℕ → ℕ
drawn_grey d i j = get_or d.out' (j * d.window.width + i) 0

-- ---- the raster

-- "Read is asked twice over the same bytes": for the sizes, z, and for the raster, k
pub record ReadTwice (z : SizesCall) (k : RasterCall) : Type 0 where
  pub sizes : ReadsSizes z
  pub raster : ReadsRaster k
  pub same : z.bytes ≡ k.bytes

-- ---- a film written and read back, call by call

-- a film written and read back: write said n bytes, read was asked twice over those bytes, and greys were asked of what it handed back: the sizes and maxval,
-- and bytes in which the raster stands from the start on
pub record ReadBack (c : WriteCall) (n : ℕ) (z : SizesCall) (k : RasterCall) (g : GreysCall) : Type 0 where
  pub writes : Writes c
  pub written : c.answer ≡ accepted n
  pub reads : ReadTwice z k
  pub file : k.bytes ≡ take n c.out'
  pub turns : Greys g
  pub sizes : z.answer ≡ accepted (g.width, g.height, g.maxval)
  pub raster : drop g.start g.bytes ≡ k.part
  pub room : g.width * g.height ≤ length g.target
