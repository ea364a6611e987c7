-- around by the names of its arguments; a name with ' is lent memory at the end. The only file here that counts its parameters, in their order in the source.
-- Assumes nothing.
use Prim.Native.Nat.{ℕ}
use mathlib.Core.List.{List}
use mathlib.Core.Path.{◌≡◌}
use Rattle.base_rows.specs.Given.{said}
use Rattle.base_rows.specs.Refuse.{Says}
use Rattle.base_rows.specs.Run.{Run, Ran}
use Rattle.film_settings.specs.declared.Settings.{Settings}
use Rattle.film_settings.specs.declared.Footer.{Footer}
use Rattle.film_prepare.specs.Prepare.{paint_leaves}
use Rattle.film_around.specs.Around.{around_of}
use Rattle.film_around.proofs.around.Kinds as around
use Rattle.film_around.proofs.around.Reads as around-reads
use Rattle.promise_around.specs.Regions.{gridless}

pub record AroundCall : Type 0 where
  pub width : ℕ
  pub height : ℕ
  pub pixels : List ℕ
  pub side : ℕ
  pub settings : Settings
  pub target : List ℕ
  pub scratch : List ℕ
  pub answer : Says Footer
  pub target' : List ℕ
  pub scratch' : List ℕ

abbrev pub around_values : Run around.ps around.r around-reads.Post → AroundCall
around_values run =
    let (width, (height, (pixels, (side, (settings, (target, (scratch, end))))))) = run.handed in
    let (_, (_, (_, (_, (_, (target', (scratch', end'))))))) = run.left in
    record { width = width; height = height; pixels = pixels.now; side = side; settings = settings; target = target.now; scratch = scratch.now; answer = said run.answer; target' = target'.now; scratch' = scratch'.now }

-- what it is handed
abbrev pub around_arguments : AroundCall → ℕ × ℕ × List ℕ × ℕ × Settings × List ℕ × List ℕ
around_arguments c = (c.width, c.height, c.pixels, c.side, c.settings, c.target, c.scratch)

-- what it reads of that: of the settings no grid, and "bins 0 kept as 128"
abbrev pub around_read : AroundCall → ℕ × ℕ × List ℕ × ℕ × Settings × List ℕ × List ℕ
around_read c = (c.width, c.height, c.pixels, c.side, gridless c.settings, c.target, c.scratch)

-- around ran with these values
abbrev pub Arounds : AroundCall → Type 0
Arounds = Ran around_values

pub around_ends : {c : AroundCall} → Arounds c
    → paint_leaves c.answer c.target' c.scratch' ≡ around_of c.width c.height c.pixels c.side c.settings c.target c.scratch
around_ends ran = rw ran.named ran.run.allowed
