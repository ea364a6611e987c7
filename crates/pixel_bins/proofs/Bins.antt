-- Bins in the places of pixels: what each of them asks, and what callers know of them.
-- Assumes nothing.
use Prim.Native.Nat.{ℕ, ◌-◌, ◌*◌, ◌/◌, ◌%◌, ◌^◌, ◌≤◌, ◌<◌}
use mathlib.Core.Bool.{true}
use mathlib.Core.List.{List}
use mathlib.Core.Path.{◌≡◌, ap, ◌∙◌}
use lib.ListN.{length, get_or}
use lib.Pow.{pow_mono}
use native.Mathlib.Nat.{mul_comm, mul-le-mul_left, mul-le-mul_right, div-mul-le_self}
use native.Mathlib.Omega.{arith}
use Rattle.base_lists.specs.Lists.{all}
use Rattle.base_lists.proofs.Tabs.{length_tab, get_or_tab, eq_tab}
use Rattle.base_lists.proofs.Alls.{all_at}
use Rattle.base_range.specs.Scan.{within}
use Rattle.base_range.proofs.Spans.{within_low, within_high}
use Rattle.tile_bin.specs.Binning.{bin_of, bin_by_of, factor_of}
use Rattle.tile_bin.proofs.Bins.{bin_below, bin_by, few_room}
use Rattle.tile_count.specs.Tally.{Scale}
use Rattle.film_settings.specs.declared.Settings.{Settings}
use Rattle.film_settings.specs.Settings.{bins_of}
use Rattle.pixel_bins.specs.Bins.{binned_of, BinsAsks}

-- the bin of pixel i
abbrev pub binned : Settings → List ℕ → ℕ → ℕ
binned s vs i = bin_of s.min s.max (bins_of s) (get_or vs i 0)

-- the factor of the range and the bins
pub bins_asks : {s : Settings} {vs : List ℕ} {b f : ℕ} → Scale s.min s.max (bins_of s) × (all (within s.min s.max) vs ≡ true) → b ≡ bins_of s → f ≡ factor_of s.min s.max b → BinsAsks s vs f
bins_asks {s = s} h e q = record { scale = h.0; greys = h.1; by = q ∙ ap (factor_of s.min s.max) e }

module _ {s : Settings} {vs : List ℕ} {f : ℕ} (asks : BinsAsks s vs f) {i : ℕ} (l : i < length vs) where
  grey_in : within s.min s.max (get_or vs i 0) ≡ true
  grey_in = all_at (within s.min s.max) vs asks.greys i 0 l

  -- what the bin of a pixel asks
  pub grey_low : s.min ≤ get_or vs i 0
  grey_low = within_low _ _ _ grey_in

  pub grey_high : get_or vs i 0 ≤ 4095
  grey_high = omega (arith, within_high _ _ _ grey_in, asks.scale.most)

  -- and where the bins are few
  pub few_asks : bins_of s ≤ 256 → (get_or vs i 0 - s.min) * f < 4294967296
  few_asks few = rw asks.by (few_room s.min s.max (bins_of s) (get_or vs i 0) grey_in asks.scale.most (omega (arith, asks.scale.some)) few)

  -- the factor gives it
  pub by_factor : bin_by_of s.min f (get_or vs i 0) ≡ binned s vs i
  by_factor = ap (λ n. bin_by_of s.min n (get_or vs i 0)) asks.by ∙ bin_by s.min s.max (bins_of s) (get_or vs i 0) grey_in asks.scale.most (omega (arith, asks.scale.some))

  -- and it is small
  pub by_small : bin_by_of s.min f (get_or vs i 0) < 4096
  by_small = omega (arith, by_factor, bin_below s.min s.max (bins_of s) (get_or vs i 0) grey_in (omega (arith, asks.scale.some)), asks.scale.few)

-- a bin in each pixel's place
pub bins_are : (s : Settings) (vs : List ℕ) {ks : List ℕ} → length ks ≡ length vs → ((i : ℕ) → i < length vs → get_or ks i 0 ≡ binned s vs i) → ks ≡ binned_of s vs
unfolding binned_of
bins_are s vs {ks} e h = eq_tab ks (length vs) (binned s vs) 0 e h

-- ---- bins that stand in the places of pixels

module _ (s : Settings) (vs : List ℕ) {ks : List ℕ} (held : ks ≡ binned_of s vs) where
  -- one for each pixel
  pub bins_length : length ks ≡ length vs
  unfolding binned_of
  bins_length = ap length held ∙ length_tab (length vs) (binned s vs)

  module _ {i : ℕ} (l : i < length vs) where
    -- each is the pixel's bin
    pub held_is : get_or ks i 0 ≡ binned s vs i
    unfolding binned_of
    held_is = ap (λ t. get_or t i 0) held ∙ get_or_tab (length vs) (binned s vs) i 0 l

    -- and one of the bins
    pub held_in : Scale s.min s.max (bins_of s) → all (within s.min s.max) vs ≡ true → get_or ks i 0 < bins_of s
    held_in scale greys = rw held_is (bin_below s.min s.max (bins_of s) (get_or vs i 0) (all_at (within s.min s.max) vs greys i 0 l) (omega (arith, scale.some)))

-- ---- bins of 2^j greys each

-- b bins of 2^j greys are g greys, where 2^j is at most the quotient, and the product in 32 bits is g
pub even_bins : {b g j : ℕ} → 0 < b → g ≤ 4096 → 2 ^ j ≤ g / b → b * 2 ^ j % 4294967296 ≡ g → (j < 13) × (b * 2 ^ j ≡ g)
even_bins {b} {g} {j} p most part e =
    let room : b * 2 ^ j ≤ b * (g / b) = mul-le-mul_left b part in
    let whole : g / b * b ≤ g = div-mul-le_self g b in
    let own : 1 * 2 ^ j ≤ b * 2 ^ j = mul-le-mul_right (2 ^ j) p in
    let large : 13 ≤ j → 8192 ≤ 2 ^ j = λ h. pow_mono {i = 13} {j = j} h in
    (grind (arith, mul_comm b (g / b)), omega (arith, mul_comm b (g / b)))
