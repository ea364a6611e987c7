-- The turns of `paint_pixels` and `paint`: the greys and rows passed are painted, those ahead are as they were.
-- Assumes nothing.
use Prim.Native.Nat.{ℕ, ◌+◌, ◌-◌, ◌*◌, ◌%◌, ◌≤◌, ◌<◌}
use mathlib.Core.List.{List}
use mathlib.Core.Path.{◌≡◌, refl, sym, ap, ◌∙◌}
use native.Mathlib.Nat.{mul_comm, mul-le-mul, mul-le-mul_right}
use native.Mathlib.Omega.{arith}
use borrow.Rule.Slice.PartMut.{put_mid}
use lib.ListN.{length, take, drop}
use Rattle.base_lists.specs.Lists.{joined, filled, blocks}
use Rattle.base_lists.proofs.Tabs.{length_tab}
use Rattle.base_lists.proofs.Blocks.{block_fits, blocks_step, blocks_end, length_blocks}
use Rattle.base_lists.proofs.Maps.{filled_behind}
use Rattle.base_lists.proofs.Windows.{length_block, blocks_whole}
use Rattle.tile_bin.specs.Binning.{factor_of}
use Rattle.film_settings.specs.declared.Settings.{Settings}
use Rattle.film_settings.specs.declared.Window.{Window}
use Rattle.film_settings.specs.Settings.{bins_of}
use Rattle.film_around.specs.Around.{around_row, AroundPixelAsks, RegionHeld, KeptPart, KeepAsks, PaintPixelsAsks, AroundRowAsks, AroundPaintAsks, BehindTwiceBins}
use Rattle.film_around.proofs.Pixels.{film_span}

-- ---- a row

module _ {w h : ℕ} {pic : List ℕ} {side : ℕ} {s : Settings} {y out : ℕ} (t₀ : List ℕ) (asks : AroundRowAsks w h pic side s y out (length t₀)) {b : ℕ} (e : b ≡ bins_of s) where
  -- what the pixels ask behind it
  pub pixels_asks : {t₁ : List ℕ} {f part : ℕ} → RegionHeld w h pic side s 0 y b t₀ t₁ → f ≡ factor_of s.min s.max b → 8192 ≤ part → PaintPixelsAsks w h pic side s y b f part out t₁
  pixels_asks begun q p =
      record {
        first = record {
          film = asks.film;
          column = asks.film.wide;
          row = asks.row;
          bins = e;
          by = q;
          room = omega (arith, asks.enough, e, begun.size);
          front = begun.front;
        };
        copied = p;
        row = asks.room;
      }

module _ {w h : ℕ} {pic : List ℕ} {side : ℕ} {s : Settings} {y b f part out : ℕ} {t₀ : List ℕ} (asks : PaintPixelsAsks w h pic side s y b f part out t₀) where
  -- before the first pixel
  pub held_first : RegionHeld w h pic side s 0 y b t₀ t₀
  held_first = record { front = asks.first.front; behind = refl; size = refl }

  module _ {x : ℕ} {t : List ℕ} (held : RegionHeld w h pic side s x y b t₀ t) (l : x < w) where
    -- what the next one asks
    pub pixel_asks : AroundPixelAsks w h pic side s x y b f t
    pixel_asks =
        record {
          film = asks.first.film;
          column = l;
          row = asks.first.row;
          bins = asks.first.bins;
          by = asks.first.by;
          room = omega (arith, asks.first.room, held.size);
          front = held.front;
        }

  -- and the part that is kept for it
  pub keep_asks : {x : ℕ} {win : Window} {p : List ℕ} → x < w → length p ≡ part → (0 < x % 64 → KeptPart w h pic side x y win p) → KeepAsks w h pic side x y win p
  keep_asks l e kept = record { asks = film_span asks.first.film l asks.first.row; room = omega (arith, e, asks.copied); kept = kept }

-- behind a pixel's counts
pub held_behind : {w h : ℕ} {pic : List ℕ} {side : ℕ} {s : Settings} {x y b : ℕ} {t₀ t : List ℕ} → b ≡ bins_of s → RegionHeld w h pic side s x y b t₀ t → BehindTwiceBins s t₀ t
held_behind {t₀ = t₀} {t = t} e held =
    record {
      behind = ap (λ n. drop (n + n) t) (sym e) ∙ held.behind ∙ ap (λ n. drop (n + n) t₀) e;
      size = held.size;
    }

-- one pixel more
pub held_next : {w h : ℕ} {pic : List ℕ} {side : ℕ} {s : Settings} {x x' y b : ℕ} {t₁ t t' : List ℕ} → RegionHeld w h pic side s x y b t₁ t → RegionHeld w h pic side s x' y b t t' → RegionHeld w h pic side s x' y b t₁ t'
held_next a c = record { front = c.front; behind = c.behind ∙ a.behind; size = c.size ∙ a.size }

-- ---- the scratch between rows

pub behind_first : {s : Settings} {t : List ℕ} → BehindTwiceBins s t t
behind_first = record { behind = refl; size = refl }

pub behind_next : {s : Settings} {t₀ t u : List ℕ} → BehindTwiceBins s t₀ t → BehindTwiceBins s t u → BehindTwiceBins s t₀ u
behind_next a b = record { behind = b.behind ∙ a.behind; size = b.size ∙ a.size }

-- cleared at the end, it is as if it had been cleared at once
pub behind_clear : {s : Settings} {t₀ t u : List ℕ} {b : ℕ} → BehindTwiceBins s t₀ t → b ≡ bins_of s → u ≡ filled (λ k. 0) t (2 * b) → u ≡ filled (λ k. 0) t₀ (2 * bins_of s)
behind_clear {s} {t₀} {t} {u} {b} kept e q =
    let twice : bins_of s + bins_of s ≡ 2 * bins_of s = omega arith in
    q
    ∙ ap (λ n. filled (λ k. 0) t (2 * n)) e
    ∙ filled_behind (λ k. 0) t t₀ (2 * bins_of s) (ap (λ n. drop n t) (sym twice) ∙ kept.behind ∙ ap (λ n. drop n t₀) twice)

-- ---- the film

-- a grey for each column
pub length_around_row : (w h : ℕ) (pic : List ℕ) (side : ℕ) (s : Settings) (y : ℕ) → length (around_row w h pic side s y) ≡ w
unfolding around_row
length_around_row w h pic side s y = length_tab w _

module _ {w h : ℕ} {pic : List ℕ} {side : ℕ} {s : Settings} {target scratch : ℕ} (asks : AroundPaintAsks w h pic side s target scratch) where
  -- the target is small
  pub target_small : target ≤ 16777216
  target_small = omega (arith, asks.room, mul-le-mul {n₂ = 4096} {m₂ = 4096} asks.film.widest asks.film.highest)

  -- a row lies in it
  pub row_room : (y : ℕ) → y < h → y * w + w ≤ target
  row_room y l = block_fits w h l (omega (arith, asks.room, mul_comm w h))

  -- what the row asks
  pub row_asks : (px : List ℕ) (y : ℕ) {n : ℕ} → y < h → length px ≡ target → n ≡ scratch → AroundRowAsks w h pic side s y (length (take (y * w + w - y * w) (drop (y * w) px))) n
  row_asks px y l e q =
      record { film = asks.film; row = l; room = length_block px y w (omega (arith, row_room y l)); enough = omega (arith, asks.enough, q) }

  module _ (o px : List ℕ) (y : ℕ) (e : px ≡ blocks w (around_row w h pic side s) o y) where
    -- one row more
    pub rows_next : {ys : List ℕ} → ys ≡ around_row w h pic side s y → put_mid (y * w) (y * w + w - y * w) px ys ≡ blocks w (around_row w h pic side s) o (y + 1)
    rows_next q = blocks_step w (around_row w h pic side s) o (λ i l. length_around_row w h pic side s i) e q

    -- the length stays
    pub rows_length : y ≤ h → length o ≡ target → length px ≡ length o
    rows_length l q = ap length e ∙ length_blocks w (around_row w h pic side s) o y (λ i k. length_around_row w h pic side s i) (omega (arith, mul-le-mul_right w l, mul_comm w h, asks.room))

    -- all rows
    pub rows_end : y ≤ h → h ≤ y → length o ≡ target → px ≡ joined h (around_row w h pic side s)
    rows_end l k q = blocks_end w (around_row w h pic side s) o e l k ∙ blocks_whole w (around_row w h pic side s) o h (omega (arith, asks.room, mul_comm w h))
