-- What tz_direct leaves: 0 or the refusal's number, and all lent memory, as the plain engine gives it.
-- The quoted sentences are those of order 12, and of document 01, "What each call hands back".
-- Assumes nothing.
use Rattle.std.specs.Prelude.{ℕ, List}
use Rattle.base_rows.specs.Refuse.{Says, accepted, refused}
use Rattle.film_settings.specs.declared.Footer.{Footer}
use Rattle.film_prepare.specs.Prepare.{PaintOut}
use Rattle.c_flat.specs.Films.{Foot, foot_after}

-- "It writes to a separate picture": the number returned, the target and the scratch that were lent, and the footer's three cells
pub record FlatPainted : Type 0 where
  pub number : ℕ
  pub target : List ℕ
  pub scratch : List ℕ
  pub foot : Foot

-- a number, two buffers and the cells as one
abbrev pub painted_as : ℕ → List ℕ → List ℕ → Foot → FlatPainted
painted_as n o t foot = record { number = n; target = o; scratch = t; foot = foot }

-- an accepted film's footer in its cells; "A refusal returns its number alone", and the cells keep what stood there
abbrev pub painted_by : Says Footer → List ℕ → List ℕ → Foot → FlatPainted
painted_by (accepted f) o t foot = painted_as 0 o t (foot_after f)
painted_by (refused n) o t foot = painted_as n o t foot

-- from what the engine leaves, and what the footer's cells held before
unfoldable pub flat_painted : PaintOut → Foot → FlatPainted
flat_painted p foot = painted_by p.answer p.target p.scratch foot
