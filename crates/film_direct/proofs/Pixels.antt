-- The grey of one pixel, the rows and the film.
-- Assumes nothing.
use Prim.Native.Nat.{ℕ, ◌+◌, ◌-◌, ◌*◌, ◌≤◌, ◌<◌}
use mathlib.Core.Bool.{true}
use mathlib.Core.List.{List}
use mathlib.Core.Path.{◌≡◌, refl, sym, ap, ◌∙◌, subst}
use native.Mathlib.Nat.{mul_comm}
use native.Mathlib.Omega.{arith}
use lib.Arith.{digits_lt}
use lib.ListN.{get_or}
use Rattle.base_lists.specs.Lists.{filled}
use Rattle.base_lists.proofs.Alls.{all_at}
use Rattle.base_lists.proofs.Maps.{filled_behind}
use Rattle.base_range.specs.Scan.{within}
use Rattle.base_range.proofs.Spans.{within_low, within_high}
use Rattle.tile_bin.specs.Binning.{bin_of, factor_of, bin_by_of}
use Rattle.tile_bin.proofs.Bins.{bin_below, bin_by}
use Rattle.pixel_place.specs.declared.Place.{Place}
use Rattle.pixel_place.specs.Blend.{grey_of, Sound, Inverse}
use Rattle.pixel_place.proofs.Laws.{sound_wider, grey_most}
use Rattle.pixel_place.proofs.Places.{place_sound}
use Rattle.film_settings.specs.declared.Settings.{Settings}
use Rattle.film_settings.specs.Settings.{bins_of, Tiled}
use Rattle.film_settings.proofs.Records.{tiled_columns, tiled_rows}
use Rattle.pixel_render.specs.Render.{column_place, row_place}
use Rattle.film_tiles.specs.Tiles.{tile_of}
use Rattle.pixel_rule.specs.Rule.{tile_value}
use Rattle.pixel_rule.proofs.Rule.{value_at, rule_corners}
use Rattle.film_direct.specs.Direct.{corner_value, TileValueAsks, DirectReady, DirectBinAsks, DirectPixelAsks, BehindBins, RuleGreyed}
use Rattle.film_direct.proofs.Values.{paint_scale, corner_most}

-- ---- the scratch

pub behind_first : {s : Settings} {t : List ℕ} → BehindBins s t t
behind_first = record { behind = refl; size = refl }

pub behind_next : {s : Settings} {t₀ t u : List ℕ} → BehindBins s t₀ t → BehindBins s t u → BehindBins s t₀ u
behind_next a b = record { behind = b.behind ∙ a.behind; size = b.size ∙ a.size }

-- cleared at the end, it is as if it had been cleared at once
pub behind_clear : {s : Settings} {t₀ t u : List ℕ} {b : ℕ} → BehindBins s t₀ t → b ≡ bins_of s → u ≡ filled (λ k. 0) t b → u ≡ filled (λ k. 0) t₀ (bins_of s)
behind_clear {s} {t₀} {t} {u} {b} kept e q = q ∙ ap (filled (λ k. 0) t) e ∙ filled_behind (λ k. 0) t t₀ (bins_of s) kept.behind

-- what is asked goes on
pub paint_again : {w h : ℕ} {pic : List ℕ} {s : Settings} {n m : ℕ} → DirectReady w h pic s n → m ≡ n → DirectReady w h pic s m
paint_again {w} {h} {pic} {s} asks e = subst (λ k. DirectReady w h pic s k) (sym e) asks

-- ---- the bin of a grey

module _ {pic : List ℕ} {s : Settings} {at : ℕ} (asks : DirectBinAsks pic s at) where
  grey_in : within s.min s.max (get_or pic at 0) ≡ true
  grey_in = all_at (within s.min s.max) pic asks.greys at 0 asks.inside

  pub factor_asks : {b : ℕ} → b ≡ bins_of s → (s.min ≤ s.max) × (s.max ≤ 4095) × (0 < b) × (b ≤ s.max - s.min + 1)
  factor_asks e = (asks.scale.order, asks.scale.most, omega (arith, asks.scale.some), omega (arith, asks.scale.reach))

  pub grey_asks : (s.min ≤ get_or pic at 0) × (get_or pic at 0 ≤ 4095)
  grey_asks = (within_low _ s.max _ grey_in, omega (arith, within_high s.min _ _ grey_in, asks.scale.most))

  pub bin_is : {b f r : ℕ} → b ≡ bins_of s → f ≡ factor_of s.min s.max b → r ≡ bin_by_of s.min f (get_or pic at 0) → r ≡ bin_of s.min s.max (bins_of s) (get_or pic at 0)
  bin_is e q g =
      g
      ∙ ap (λ n. bin_by_of s.min n (get_or pic at 0)) (q ∙ ap (factor_of s.min s.max) e)
      ∙ bin_by s.min s.max (bins_of s) (get_or pic at 0) grey_in asks.scale.most (omega (arith, asks.scale.some))

  pub bin_small : {r : ℕ} → r ≡ bin_of s.min s.max (bins_of s) (get_or pic at 0) → r < bins_of s
  bin_small e = rw e (bin_below s.min s.max (bins_of s) (get_or pic at 0) grey_in (omega (arith, asks.scale.some)))

-- ---- a pixel

module _ {w h : ℕ} {pic : List ℕ} {s : Settings} {x y scratch : ℕ} (asks : DirectPixelAsks w h pic s x y scratch) where
  tiled : Tiled w h s
  tiled = asks.film.work.ready.tiled

  pub index_small : y * w + x < 16777216
  index_small = omega (arith, digits_lt {q = y} {m = 4096} {r = x} {c = w} (omega (arith, asks.row, tiled.highest)) asks.column, mul_comm w 4096, tiled.widest)

  pub bin_asks : DirectBinAsks pic s (y * w + x)
  bin_asks =
      record {
        scale = paint_scale asks.film;
        greys = asks.film.work.greys;
        inside = omega (arith, digits_lt {q = y} {m = h} {r = x} {c = w} asks.row asks.column, mul_comm w h, asks.film.work.ready.whole);
      }

  column_sound : Sound s.across 2048 (column_place w s x)
  column_sound = place_sound (tiled_columns tiled) asks.column

  row_sound : Sound s.down 2048 (row_place h s y)
  row_sound = place_sound (tiled_rows tiled) asks.row

  module _ {column row : Place} {k : ℕ} (p : column ≡ column_place w s x) (q : row ≡ row_place h s y) (e : k ≡ bin_of s.min s.max (bins_of s) (get_or pic (y * w + x) 0)) where
    -- what each of the four asks
    module _ {n : ℕ} (l : n ≡ scratch) where
      film_again : DirectReady w h pic s n
      film_again = paint_again asks.film l

      k_below : k < bins_of s
      k_below = bin_small bin_asks e

      pub upper_left : TileValueAsks w h pic s row.lower column.lower k n
      upper_left = record { film = film_again; row = rw q row_sound.lower; column = rw p column_sound.lower; bin = k_below }

      pub upper_right : TileValueAsks w h pic s row.lower column.upper k n
      upper_right = record { film = film_again; row = rw q row_sound.lower; column = rw p column_sound.upper; bin = k_below }

      pub lower_left : TileValueAsks w h pic s row.upper column.lower k n
      lower_left = record { film = film_again; row = rw q row_sound.upper; column = rw p column_sound.lower; bin = k_below }

      pub lower_right : TileValueAsks w h pic s row.upper column.upper k n
      lower_right = record { film = film_again; row = rw q row_sound.upper; column = rw p column_sound.upper; bin = k_below }

    module _ {a b c d : ℕ} (ea : a ≡ corner_value w h pic s row.lower column.lower k) (eb : b ≡ corner_value w h pic s row.lower column.upper k)
        (ec : c ≡ corner_value w h pic s row.upper column.lower k) (ed : d ≡ corner_value w h pic s row.upper column.upper k) where
      wide_column : Sound 16 2048 column
      wide_column = rw p (sound_wider column_sound tiled.acrossmost (omega arith))

      wide_row : Sound 16 2048 row
      wide_row = rw q (sound_wider row_sound tiled.downmost (omega arith))

      -- what the grey asks
      pub blend_asks : Sound 16 2048 column × Sound 16 2048 row × Inverse (column.span * row.span) 0 × (a ≤ 4095) × (b ≤ 4095) × (c ≤ 4095) × (d ≤ 4095)
      blend_asks =
          (wide_column, wide_row, record { small = λ z. omega arith; inverse = λ z. omega arith }, corner_most (upper_left refl) ea, corner_most (upper_right refl) eb, corner_most (lower_left refl) ec, corner_most (lower_right refl) ed)

      -- each of the four is the tile's value of the pixel's grey
      corner_rule : (j i : ℕ) {v : ℕ} → v ≡ corner_value w h pic s j i k → v ≡ tile_value w pic s (tile_of w h s (j * s.across + i)) (get_or pic (y * w + x) 0)
      unfolding corner_value
      corner_rule j i g = g ∙ value_at w pic s (tile_of w h s (j * s.across + i)) (get_or pic (y * w + x) 0) e

      -- and what it is
      pub pixel_is : {r : ℕ} → r ≡ grey_of column row a b c d → RuleGreyed w h pic s x y r
      pixel_is g =
          record {
            grey = g ∙ rule_corners w h pic s x y p q (corner_rule row.lower column.lower ea) (corner_rule row.lower column.upper eb) (corner_rule row.upper column.lower ec) (corner_rule row.upper column.upper ed);
            most = rw g (grey_most wide_column wide_row (corner_most (upper_left refl) ea) (corner_most (upper_right refl) eb) (corner_most (lower_left refl) ec) (corner_most (lower_right refl) ed));
          }
