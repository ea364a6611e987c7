-- direct by the names of its arguments; a name with ' is lent memory at the end. The only file here that counts its parameters, in their order in the source.
-- Assumes nothing.
use Prim.Native.Nat.{ℕ}
use mathlib.Core.List.{List}
use mathlib.Core.Path.{◌≡◌}
use Rattle.base_rows.specs.Given.{said}
use Rattle.base_rows.specs.Refuse.{Says}
use Rattle.base_rows.specs.Run.{Run, Ran}
use Rattle.film_settings.specs.declared.Settings.{Settings}
use Rattle.film_settings.specs.declared.Footer.{Footer}
use Rattle.film_prepare.specs.Prepare.{paint_leaves}
use Rattle.film_direct.specs.Direct.{direct_of}
use Rattle.film_direct.proofs.direct.Kinds as direct
use Rattle.film_direct.proofs.direct.Reads as direct-reads

pub record DirectCall : Type 0 where
  pub width : ℕ
  pub height : ℕ
  pub pixels : List ℕ
  pub settings : Settings
  pub target : List ℕ
  pub scratch : List ℕ
  pub answer : Says Footer
  pub target' : List ℕ
  pub scratch' : List ℕ

abbrev pub direct_values : Run direct.ps direct.r direct-reads.Post → DirectCall
direct_values run =
    let (width, (height, (pixels, (settings, (target, (scratch, end)))))) = run.handed in
    let (_, (_, (_, (_, (target', (scratch', end')))))) = run.left in
    record { width = width; height = height; pixels = pixels.now; settings = settings; target = target.now; scratch = scratch.now; answer = said run.answer; target' = target'.now; scratch' = scratch'.now }

-- what it is handed
abbrev pub direct_arguments : DirectCall → ℕ × ℕ × List ℕ × Settings × List ℕ × List ℕ
direct_arguments c = (c.width, c.height, c.pixels, c.settings, c.target, c.scratch)

-- direct ran with these values
abbrev pub Directs : DirectCall → Type 0
Directs = Ran direct_values

pub direct_ends : {d : DirectCall} → Directs d
    → paint_leaves d.answer d.target' d.scratch' ≡ direct_of d.width d.height d.pixels d.settings d.target d.scratch
direct_ends ran = rw ran.named ran.run.allowed
