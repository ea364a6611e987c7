-- A region of an accepted film, with a factor above one: a rectangle of which demand 3 can be asked, and the pixel's own bin.
-- Assumes nothing.
use Prim.Native.Nat.{ℕ, ◌<◌}
use mathlib.Core.Path.{◌≡◌, refl}
use native.Mathlib.Nat.{mul_comm}
use native.Mathlib.Omega.{arith}
use lib.Arith.{digits_lt}
use lib.Ieee.{Float}
use Rattle.base_rows.specs.Refuse.{accepted}
use Rattle.film_settings.specs.declared.Footer.{Footer}
use Rattle.film_settings.specs.Settings.{bins_of}
use Rattle.film_tiles.proofs.Films.{clip_holds}
use Rattle.tile_slide.specs.Slide.{region_rect}
use Rattle.film_around.specs.Around.{AroundReady}
use Rattle.film_around.proofs.Pixels.{film_inside, film_greys, bin_small}
use Rattle.promise_films.specs.Films.{ClippingOn}
use Rattle.promise_films.proofs.Sound.{RectAsks}
use Rattle.promise_around.specs.Regions.{own_bin}
use Rattle.promise_around.proofs.Runs.{AroundCall, Arounds}
use Rattle.promise_around.proofs.Outcomes.{around_known}

module _ {c : AroundCall} {foot : Footer} (ran : Arounds c) (done : c.answer ≡ accepted foot) {f : Float} (on : ClippingOn c.settings.clip f) (i j : ℕ) (l : i < c.width)
    (k : j < c.height) where
  pub film : AroundReady c.width c.height c.pixels c.side c.settings
  film = (around_known ran done).film

  -- a region is a rectangle of which demand 3 can be asked
  pub region_asks : RectAsks c.settings.min c.settings.max (bins_of c.settings) c.settings.clip c.pixels c.width (region_rect c.width c.height c.side i j)
  region_asks =
      record {
        some = (film_inside film l k).some;
        bins = omega (arith, film.scale.some);
        order = film.scale.order;
        greys = film_greys film l k;
        holds = clip_holds c.settings.clip _ (bins_of c.settings) film.fair (omega (arith, film.scale.some));
      }

  pub own_bin_lem : own_bin c.width c.pixels c.settings i j < bins_of c.settings
  own_bin_lem =
      bin_small {s = c.settings}
      record {
        scale = film.scale;
        by = refl;
        greys = film.greys;
        inside = omega (arith, digits_lt {q = j} {m = c.height} {r = i} {c = c.width} k l, mul_comm c.width c.height, film.whole);
      }
      refl
