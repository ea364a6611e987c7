-- What the promises of the plain engine speak of beside one call: the film that it was handed, and enhance handed the same one.
-- A name with ' is lent memory at the end.
-- Assumes nothing.
use Prim.Native.Nat.{ℕ, ◌+◌, ◌*◌}
use mathlib.Core.Path.{◌≡◌}
use lib.ListN.{length, get_or}
use Rattle.std.specs.Prelude.{Result}
use Rattle.base_rows.specs.declared.Refusal.{Refusal}
use Rattle.base_rows.specs.Refuse.{accepted}
use Rattle.film_settings.specs.declared.Footer.{Footer}
use Rattle.film_settings.specs.Settings.{kept_of}
use Rattle.promise_films.proofs.Runs.{EnhanceCall}
use Rattle.promise_reach.proofs.Rendered.{Film}
use Rattle.promise_direct.proofs.Runs.{DirectCall}

-- the film that direct was handed
abbrev pub directs_film : DirectCall → Film
directs_film d = record { width = d.width; height = d.height; settings = d.settings; pixels = d.pixels }

-- the grey in column i and row j of what it left
abbrev pub directed_grey : DirectCall → ℕ → ℕ → ℕ
directed_grey d i j = get_or d.target' (j * d.width + i) 0

-- ---- beside enhance

-- one film for both, bins 0 being 128; a target of width x height, and scratches of one length
pub record SameFilm (d : DirectCall) (e : EnhanceCall) : Type 0 where
  pub width : d.width ≡ e.width
  pub height : d.height ≡ e.height
  pub pixels : d.pixels ≡ e.pixels
  pub like : kept_of d.settings ≡ kept_of e.settings
  pub target : length d.target ≡ d.width * d.height
  pub scratch : length d.scratch ≡ length e.scratch

-- what is equal: what the two calls themselves answer, what that says, the scratch where both scratches were, and the picture
pub record IsEnhance (d : DirectCall) (e : EnhanceCall) (of_direct of_enhance : Result Footer Refusal) : Type 0 where
  pub own : of_direct ≡ of_enhance
  pub answer : d.answer ≡ e.answer
  pub scratch : d.scratch ≡ e.scratch → d.scratch' ≡ e.scratch'
  pub picture : {foot : Footer} → e.answer ≡ accepted foot → d.target' ≡ e.pixels'
