-- Settings, records and answers as the C interface passes them: flat numbers, and arrays where a record goes in or out.
-- The quoted sentences are document 01's; docs/RULES.md, 8, has the calls.
-- Assumes nothing.
use Rattle.std.specs.Prelude.{ℕ, zero, suc, false, List, [], ◌∷◌, pos, Float, get_or}
use Rattle.std.specs.Float.{fin}
use Rattle.base_rows.specs.Refuse.{Says, accepted, refused}
use Rattle.tile_limit.specs.declared.Clip.{Clip}
use Rattle.tile_limit.specs.declared.Clip.TheVariants.{Off, Factor}
use Rattle.tile_limit.specs.declared.Edition.{Edition}
use Rattle.tile_limit.specs.declared.Edition.TheVariants.{Ours, Of1986}
use Rattle.pixel_grid.specs.declared.Axis.{Axis}
use Rattle.film_settings.specs.declared.Settings.{Settings}
use Rattle.film_settings.specs.declared.MapRecord.{MapRecord}
use Rattle.film_settings.specs.declared.Window.{Window}

-- "A refusal returns its number alone": the number that a call returns, and 0 where it is accepted
abbrev pub returned : {A : Type 0} → Says A → ℕ
returned (accepted v) = 0
returned (refused n) = n

-- a clip of 0 is off, with any other number the factor counts
abbrev pub clip_from_of : ℕ → Float → Clip
clip_from_of zero f = Off
clip_from_of (suc n) f = Factor f

-- its number back again: "one of two: off, or a factor carried as f32"
abbrev pub clip_number_of : Clip → ℕ
clip_number_of Off = 0
clip_number_of (Factor f) = 1

-- and its factor, 0.0 where it is off
abbrev pub clip_factor_of : Clip → Float
clip_factor_of Off = fin false 0 (pos 0)
clip_factor_of (Factor f) = f

-- order 8, "The edition is a setting": 0 is ours, any other number is that of 1986
abbrev pub edition_from_of : ℕ → Edition
edition_from_of zero = Ours
edition_from_of (suc n) = Of1986

-- its number back again: 0 or 1
abbrev pub edition_number_of : Edition → ℕ
edition_number_of Ours = 0
edition_number_of Of1986 = 1

-- "It sits inside the settings record": grid across and down, bins, Min, Max, the clip setting and the edition, from eight arguments
abbrev pub settings_from_of : (across down bins min max clip : ℕ) (factor : Float) (edition : ℕ) → Settings
settings_from_of across down bins min max clip factor edition =
    record { across = across; down = down; bins = bins; min = min; max = max; clip = clip_from_of clip factor; edition = edition_from_of edition }

-- a record is ten numbers, and its factor apart: film, width, height, across, down, bins, min, max, clip, edition
abbrev pub record_numbers : MapRecord → List ℕ
record_numbers r =
    r.film
    ∷ r.width
    ∷ r.height
    ∷ r.settings.across
    ∷ r.settings.down
    ∷ r.settings.bins
    ∷ r.settings.min
    ∷ r.settings.max
    ∷ clip_number_of r.settings.clip
    ∷ edition_number_of r.settings.edition
    ∷ []

-- order 6: "The map record keeps the edges and centres": the four arrays that they are handed over in
pub record Axes : Type 0 where
  pub column_edges : List ℕ
  pub column_centres : List ℕ
  pub row_edges : List ℕ
  pub row_centres : List ℕ

-- four arrays as one
abbrev pub axes_from : (ce cc re rc : List ℕ) → Axes
axes_from ce cc re rc = record { column_edges = ce; column_centres = cc; row_edges = re; row_centres = rc }

-- the arrays that hold the edges and centres of the columns and of the rows
abbrev pub axes_of : Axis → Axis → Axes
axes_of columns rows = axes_from columns.edges columns.centres rows.edges rows.centres

-- the arrays that hold the edges and centres of a record
abbrev pub axes_after : MapRecord → Axes
axes_after r = axes_of r.columns r.rows

-- an axis from its edges and its centres
abbrev pub axis_from_of : List ℕ → List ℕ → Axis
axis_from_of edges centres = record { edges = edges; centres = centres }

-- "A map record holds the film's number (any 32-bit number), sizes and settings", and its edges and centres: from its ten numbers, its factor and its four arrays
abbrev pub record_from_of : List ℕ → Float → Axes → MapRecord
record_from_of l factor axes =
    record {
      film = get_or l 0 0;
      width = get_or l 1 0;
      height = get_or l 2 0;
      settings = settings_from_of (get_or l 3 0) (get_or l 4 0) (get_or l 5 0) (get_or l 6 0) (get_or l 7 0) (get_or l 8 0) factor (get_or l 9 0);
      columns = axis_from_of axes.column_edges axes.column_centres;
      rows = axis_from_of axes.row_edges axes.row_centres;
    }

-- draw's window, from its four numbers
abbrev pub window_from : (left top width height : ℕ) → Window
window_from left top width height = record { left = left; top = top; width = width; height = height }
