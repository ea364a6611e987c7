-- The footer, by the clip setting.
-- Assumes nothing.
use Prim.Native.Nat.{ℕ, ◌*◌, ◌<◌}
use mathlib.Core.Bool.{true, false}
use mathlib.Core.Path.{◌≡◌, refl, sym, ap, ◌∙◌, subst}
use native.Mathlib.Omega.{arith}
use borrow.Author.Tests.{not-false}
use lib.Ieee.{Float, of_bits, binary32, binary64}
use Rattle.tile_limit.specs.declared.Clip.{Clip}
use Rattle.tile_limit.specs.declared.Clip.TheVariants.{Off, Factor}
use Rattle.tile_limit.specs.Limit.{allowed, is_one, limit_of, used_of, LimitAsks, UsedAsks}
use Rattle.tile_limit.proofs.Laws.{limit_room}
use Rattle.film_settings.specs.declared.Settings.{Settings}
use Rattle.film_settings.specs.Settings.{bins_of, clip_bad_of, clip_one_of, Ready}
use Rattle.film_settings.specs.declared.Footer.{Footer}
use Rattle.film_tiles.specs.Tiles.{pixels_in, footer_of, foot_of, FilmFooterAsks, FooterAsks}
use Rattle.film_tiles.proofs.Tiles.{tiles_least, tile_pixels_most}

module _ (clip : Clip) (n b : ℕ) (asks : FooterAsks clip n b) where
  -- clip off
  pub footer_off : clip ≡ Off → ◌≡◌ {A = Footer} (record { limit = 0; asked = of_bits binary32 0; used = of_bits binary64 0 }) (footer_of clip n b)
  unfolding footer_of of_bits
  footer_off e = rw e refl

  module _ (f : Float) (e : clip ≡ Factor f) where
    -- the factor is allowed
    fair : allowed f ≡ true
    fair = not-false (allowed f) (subst (λ x. clip_bad_of x ≡ false) e asks.good)

    -- exactly 1.0
    pub footer_one : is_one f ≡ true
        → ◌≡◌ {A = Footer} (record { limit = 0; asked = of_bits binary32 1065353216; used = of_bits binary64 4607182418800017408 }) (footer_of clip n b)
    unfolding footer_of of_bits
    footer_one q = rw (e, q) refl

    pub limit_asks : LimitAsks f n b
    limit_asks = record { good = fair; pixels = asks.pixels; least = asks.least; most = asks.most }

    -- above 1.0
    pub footer_above : {l : ℕ} {u : Float} → is_one f ≡ false → l ≡ limit_of f n b → u ≡ used_of l b n
        → ◌≡◌ {A = Footer} (record { limit = l; asked = f; used = u }) (footer_of clip n b)
    unfolding footer_of
    footer_above q p r = rw (r, p, e, q) refl

    pub used_asks : {l : ℕ} → l ≡ limit_of f n b → UsedAsks l b
    used_asks q = record { exact = rw q (limit_room f n b fair asks.pixels asks.least asks.most) }

-- the footer of a film with a factor that is not 1.0 shows the limit
pub foot_limit : (w h : ℕ) (s : Settings) {f : Float} → s.clip ≡ Factor f → clip_one_of s.clip ≡ false → (foot_of w h s).limit ≡ limit_of f (pixels_in w h s 0) (bins_of s)
unfolding foot_of footer_of
foot_limit w h s {f} e o = let one : is_one f ≡ false = sym (ap clip_one_of e) ∙ o in rw (e, one) refl

-- the footer of a film, by its clip setting, its first tile's pixels and its bins
pub foot_is : (w h : ℕ) (s : Settings) → footer_of s.clip (pixels_in w h s 0) (bins_of s) ≡ foot_of w h s
unfolding foot_of
foot_is w h s = refl

-- what the footer of a tile asks, in a film of which no setting is refused
pub tile_footer_asks : {w h : ℕ} {s : Settings} {k b : ℕ} → FilmFooterAsks w h s → k < s.across * s.down → b ≡ bins_of s → FooterAsks s.clip (pixels_in w h s k) b
tile_footer_asks asks l e =
    record {
      good = asks.fair;
      pixels = tile_pixels_most asks.tiled l;
      least = omega (arith, asks.tiled.bins);
      most = omega (arith, asks.tiled.binsmost);
    }

-- and of the first
pub footer_asks : {w h : ℕ} {s : Settings} {b : ℕ} → FilmFooterAsks w h s → b ≡ bins_of s → FooterAsks s.clip (pixels_in w h s 0) b
footer_asks asks e = tile_footer_asks asks (omega (arith, tiles_least asks.tiled)) e

-- where none of the rows 1 to 11 and 31 applies, no setting is refused
pub film_asks : {w h size : ℕ} {s : Settings} {room : ℕ} → Ready w h size s room → FilmFooterAsks w h s
film_asks known = record { tiled = known.tiled; fair = known.clip }
