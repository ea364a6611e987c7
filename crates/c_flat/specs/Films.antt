-- What tz_prepare, tz_enhance and tz_draw leave: 0 or the refusal's number, and all lent memory, as the calls beneath them give it.
-- The quoted sentences are those of document 01, "What each call hands back", and of document 00, demand 1.
-- Assumes nothing.
use Rattle.std.specs.Prelude.{ℕ, List, Float}
use Rattle.base_rows.specs.Refuse.{Says, accepted, refused}
use Rattle.film_settings.specs.declared.MapRecord.{MapRecord}
use Rattle.film_settings.specs.declared.Footer.{Footer}
use Rattle.film_prepare.specs.Prepare.{PrepareOut, EnhanceOut}
use Rattle.film_draw.specs.Draw.{DrawOut}
use Rattle.c_flat.specs.Flat.{returned, record_numbers, clip_factor_of, Axes, axes_after}

-- "a footer record with L, the factor asked as f32 and the factor used as f64": the three cells that it is handed out in
pub record Foot : Type 0 where
  pub limit : ℕ
  pub asked : Float
  pub used : Float

-- three cells as one
abbrev pub foot_from : ℕ → Float → Float → Foot
foot_from l a u = record { limit = l; asked = a; used = u }

-- the cells that hold a footer
abbrev pub foot_after : Footer → Foot
foot_after f = foot_from f.limit f.asked f.used

-- ---- tz_prepare

-- "It returns the map record and a footer record": the cells that they are handed out in, the record's numbers, factor and arrays, and the footer's three
pub record Cells : Type 0 where
  pub numbers : List ℕ
  pub factor : Float
  pub axes : Axes
  pub foot : Foot

-- the cells as one
abbrev pub cells_from : List ℕ → Float → Axes → Foot → Cells
cells_from numbers factor axes foot = record { numbers = numbers; factor = factor; axes = axes; foot = foot }

-- an accepted film's record and footer in their cells; "after a refusal all lent memory holds what it held before"
abbrev pub cells_after : Says (MapRecord × Footer) → Cells → Cells
cells_after (accepted v) cells = cells_from (record_numbers v.0) (clip_factor_of v.0.settings.clip) (axes_after v.0) (foot_after v.1)
cells_after (refused n) cells = cells

-- what tz_prepare leaves: its number, the map buffer, the scratch, the list and the cells
pub record FlatPrepared : Type 0 where
  pub number : ℕ
  pub map : List ℕ
  pub scratch : List ℕ
  pub list : List ℕ
  pub cells : Cells

-- a number, three buffers and the cells as one
abbrev pub prepared_as : (n : ℕ) (m t list : List ℕ) (cells : Cells) → FlatPrepared
prepared_as n m t list cells = record { number = n; map = m; scratch = t; list = list; cells = cells }

-- from what prepare leaves, and what the cells held before
unfoldable pub flat_prepared : PrepareOut → Cells → FlatPrepared
flat_prepared e cells = prepared_as (returned e.answer) e.map e.scratch e.list (cells_after e.answer cells)

-- ---- tz_enhance

-- "the same buffers and footer, and the picture rendered": what tz_enhance leaves
pub record FlatEnhanced : Type 0 where
  pub number : ℕ
  pub picture : List ℕ
  pub map : List ℕ
  pub scratch : List ℕ
  pub foot : Foot

-- a number and the cells as one
abbrev pub enhanced_as : (n : ℕ) (pic m t : List ℕ) (foot : Foot) → FlatEnhanced
enhanced_as n pic m t foot = record { number = n; picture = pic; map = m; scratch = t; foot = foot }

-- an accepted film's footer in its cells; a refusal leaves what stood there
abbrev pub enhanced_by : Says Footer → List ℕ → List ℕ → List ℕ → Foot → FlatEnhanced
enhanced_by (accepted f) pic m t foot = enhanced_as 0 pic m t (foot_after f)
enhanced_by (refused n) pic m t foot = enhanced_as n pic m t foot

-- from what enhance leaves, and what the footer's cells held before
unfoldable pub flat_enhanced : EnhanceOut → Foot → FlatEnhanced
flat_enhanced o foot = enhanced_by o.answer o.picture o.map o.scratch foot

-- ---- tz_draw

-- "the window's pixels row by row in the output": what tz_draw leaves
pub record FlatDrawn : Type 0 where
  pub number : ℕ
  pub out : List ℕ

-- a number and an output as one
abbrev pub drawn_as : ℕ → List ℕ → FlatDrawn
drawn_as n out = record { number = n; out = out }

-- from what draw leaves
unfoldable pub flat_drawn : DrawOut → FlatDrawn
flat_drawn s = drawn_as (returned s.answer) s.out
