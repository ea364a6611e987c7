-- What is shown of a pixel of an accepted film, by whichever call that ended as enhance or as draw does: the grey of `pixel_rule: shown_grey`, by the rule, and the film's own at the factor 1.0.
-- Assumes nothing.
use Prim.Native.Nat.{ℕ, ◌+◌, ◌*◌, ◌<◌}
use mathlib.Core.Path.{◌≡◌, ap}
use native.Mathlib.Omega.{arith}
use lib.ListN.{get_or, take}
use mathlib.Core.Bool.{false}
use mathlib.Core.List.{List}
use Rattle.film_settings.specs.Settings.{Tiled, clip_one_of, entries_of}
use Rattle.pixel_rule.specs.Rule.{shown_grey}
use Rattle.pixel_rule.proofs.Rule.{shown_by}
use Rattle.promise_films.proofs.Ended.{Shown, Rendered as Whole}
use Rattle.promise_films.proofs.Made.{Made, made_tiled, shown_inside, shown_by_rule, shown_as_film}
use Rattle.promise_reach.proofs.Rendered.{Film, enhanced_grey, enhances_film}
use Rattle.base_rows.specs.Refuse.{accepted}
use Rattle.film_settings.specs.declared.Settings.{Settings}
use Rattle.film_settings.specs.declared.Footer.{Footer}
use Rattle.promise_films.proofs.Whole.{whole_work, whole_as_film, whole_by_rule}
use Rattle.promise_films.proofs.Runs.{DrawCall, EnhanceCall}
use Rattle.promise_films.proofs.Ways.{drawn_grey}

-- a pixel of a film that was not refused, of which the grey g is shown
pub record Seen (f : Film) (x y g : ℕ) : Type 0 where
  pub tiled : Tiled f.width f.height f.settings
  pub column : x < f.width
  pub row : y < f.height
  pub shows : g ≡ shown_grey f.width f.height f.pixels f.settings x y

-- of a film that was rendered whole, whichever call ended as enhance does
pub whole_seen : (e : EnhanceCall) {foot : Footer} → Whole e → e.answer ≡ accepted foot → {x y : ℕ} → x < e.width → y < e.height
    → Seen (enhances_film e) x y (enhanced_grey e x y)
whole_seen e ends done {x} {y} l k =
    record {
      tiled = (whole_work e ends done).ready.tiled;
      column = l;
      row = k;
      shows = shown_by _ _ _ _ x y (λ one. ap (λ p. get_or p (y * e.width + x) 0) (whole_as_film e ends done one)) (λ one. whole_by_rule e ends done one x y l k);
    }

-- and of one that was drawn, whichever call ended as draw does, from what was made of it
pub shown_seen : {film w h : ℕ} {pic : List ℕ} {s : Settings} {foot : Footer} {left : List ℕ} {d : DrawCall} → Made film w h pic s d.kept foot left → Shown d
    → d.answer ≡ accepted tt → d.pixels ≡ pic → (clip_one_of s.clip ≡ false → take (entries_of s) d.map ≡ take (entries_of s) left)
    → {i j : ℕ} → i < d.window.width → j < d.window.height → Seen (record { width = w; height = h; settings = s; pixels = pic }) (d.window.left + i) (d.window.top + j) (drawn_grey d i j)
shown_seen made shown drawn pixels mappings {i} {j} l k =
    let inside = shown_inside made shown drawn pixels mappings in
    record {
      tiled = made_tiled made;
      column = omega (arith, inside.0);
      row = omega (arith, inside.1);
      shows = shown_by _ _ _ _ _ _ (λ one. shown_as_film made shown drawn pixels mappings one j i k l) (λ one. shown_by_rule made shown drawn pixels mappings one j i k l);
    }
