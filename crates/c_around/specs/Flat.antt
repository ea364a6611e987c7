-- What tz_around is asked and leaves: 0 or the refusal's number, and all lent memory, as around gives it.
-- The quoted sentences are those of order 13, and of document 00, demand 1.
-- Assumes nothing.
use Rattle.std.specs.Prelude.{ℕ, List, Float}
use Rattle.base_rows.specs.Refuse.{Says, accepted, refused}
use Rattle.film_settings.specs.declared.Settings.{Settings}
use Rattle.film_settings.specs.declared.Footer.{Footer}
use Rattle.film_prepare.specs.Prepare.{PaintOut}
use Rattle.c_flat.specs.Flat.{settings_from_of}
use Rattle.c_flat.specs.Films.{Foot, foot_after}

-- the settings of six arguments: every pixel has a region in the place of a grid, and none is asked for
abbrev pub regional : (bins min max clip : ℕ) (factor : Float) (edition : ℕ) → Settings
regional bins min max clip factor edition = settings_from_of 0 0 bins min max clip factor edition

-- the number returned, the target and the scratch that were lent, and the footer's cells
pub record FlatArounded : Type 0 where
  pub number : ℕ
  pub target : List ℕ
  pub scratch : List ℕ
  pub foot : Foot

-- a number, two buffers and the cells as one
abbrev pub arounded_as : ℕ → List ℕ → List ℕ → Foot → FlatArounded
arounded_as n o t foot = record { number = n; target = o; scratch = t; foot = foot }

-- "The footer shows the region of column 0, row 0": in its cells; "after a refusal all lent memory holds what it held before"
abbrev pub arounded_by : Says Footer → List ℕ → List ℕ → Foot → FlatArounded
arounded_by (accepted f) o t foot = arounded_as 0 o t (foot_after f)
arounded_by (refused n) o t foot = arounded_as n o t foot

-- from what around leaves, and what the footer's cells held before
unfoldable pub flat_arounded : PaintOut → Foot → FlatArounded
flat_arounded p foot = arounded_by p.answer p.target p.scratch foot
