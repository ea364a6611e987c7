-- Two films of one size with the same settings that are alike for a pixel: what is shown of it is the same in both, whichever way each was rendered.
-- Assumes nothing.
use Prim.Native.Nat.{ℕ, ◌+◌, ◌*◌}
use mathlib.Core.Path.{◌≡◌, sym, ap₂, ◌∙◌}
use Rattle.tile_count.specs.declared.Rect.{Rect}
use Rattle.film_settings.specs.Settings.{kept_of}
use Rattle.film_tiles.specs.Tiles.{tile_of}
use Rattle.pixel_rule.specs.Rule.{shown_grey}
use Rattle.pixel_rule.specs.Reach.{AgreeAt, DifferIn, Beyond}
use Rattle.pixel_rule.proofs.Rule.{shown_like}
use Rattle.pixel_rule.proofs.Local.{shown_local}
use Rattle.pixel_rule.proofs.Stays.{rect_stays}
use Rattle.promise_reach.proofs.Rendered.{Film}
use Rattle.promise_reach.proofs.Shown.{Seen}

-- ---- any two ways

-- "two films of one size with the same settings", bins 0 being 128; the edition is a setting
pub record Twins (f f' : Film) : Type 0 where
  pub width : f'.width ≡ f.width
  pub height : f'.height ≡ f.height
  pub settings : kept_of f'.settings ≡ kept_of f.settings

-- that are alike for the pixel in column x and row y
pub record Two (f f' : Film) (x y : ℕ) : Type 0 where
  pub twins : Twins f f'
  pub alike : AgreeAt f.width f.height f.settings f.pixels f'.pixels x y

-- what is shown of a pixel is the same in two films that are alike for it
pub seen_local : {f f' : Film} {x y g g' : ℕ} → Seen f x y g → Seen f' x y g' → Two f f' x y → g ≡ g'
seen_local {f} {f'} {x} {y} a b two =
    a.shows
    ∙ shown_local f.width f.height f.pixels f'.pixels f.settings x y two.alike
    ∙ shown_like f.width f.height f'.pixels f.settings f'.settings x y (sym two.twins.settings)
    ∙ ap₂ (λ w h. shown_grey w h f'.pixels f'.settings x y) (sym two.twins.width) (sym two.twins.height)
    ∙ sym b.shows

-- and of a pixel beyond the rectangle in which alone they differ
pub seen_stays : {f f' : Film} {x y g g' : ℕ} → Seen f x y g → Seen f' x y g' → Twins f f' → (r : Rect) → DifferIn f.width f.height f.pixels f'.pixels r
    → Beyond f.width f.height f.settings r x y → g ≡ g'
seen_stays {f} {f'} a b twins r differ beyond =
    seen_local a b (record { twins = twins; alike = rect_stays a.tiled f.pixels f'.pixels a.column a.row r differ beyond })

-- the tile in column i and row j of a film's grid
abbrev pub tile_in_lem : Film → ℕ → ℕ → Rect
tile_in_lem f i j = tile_of f.width f.height f.settings (j * f.settings.across + i)
