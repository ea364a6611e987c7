-- What around reads of its arguments: of the settings the range, the bins with 0 read as 128, the clip setting and the edition; of the film a pixel's own grey and its region.
-- Assumes nothing.
use Prim.Native.Nat.{ℕ, ◌+◌, ◌*◌}
use mathlib.Core.List.{List}
use mathlib.Core.Path.{◌≡◌, refl, ap}
use lib.ListN.{get_or}
use Rattle.base_lists.proofs.Tabs.{tab_cong}
use Rattle.base_lists.proofs.Fills.{joined_cong}
use Rattle.tile_bin.specs.Binning.{bin_of}
use Rattle.tile_count.specs.Tally.{greys_of}
use Rattle.film_settings.specs.declared.Settings.{Settings}
use Rattle.film_settings.specs.Settings.{bins_of, clip_bad_of}
use Rattle.film_settings.proofs.Parts.{grey_alike}
use Rattle.tile_slide.specs.Slide.{region_rect}
use Rattle.film_around.specs.Around.{around_work_rows, around_rows, region_mapping, around_grey, around_row, around_film, around_foot, arounded_of, around_of}

-- ---- a pixel's grey

-- it is the mapping of the pixel's own bin
pub around_grey_lem : (w h : ℕ) (pic : List ℕ) (side : ℕ) (s : Settings) (x y : ℕ)
    → around_grey w h pic side s x y ≡ get_or (region_mapping w h pic side s x y) (bin_of s.min s.max (bins_of s) (get_or pic (y * w + x) 0)) 0
unfolding around_grey
around_grey_lem w h pic side s x y = refl

-- pixels of one grey whose regions have the same greys, in films of any size
pub around_grey_by : (w h : ℕ) (pic : List ℕ) (w' h' : ℕ) (pic' : List ℕ) (side : ℕ) (s : Settings) (x y x' y' : ℕ)
    → greys_of pic w (region_rect w h side x y) ≡ greys_of pic' w' (region_rect w' h' side x' y') → get_or pic (y * w + x) 0 ≡ get_or pic' (y' * w' + x') 0
    → around_grey w h pic side s x y ≡ around_grey w' h' pic' side s x' y'
unfolding around_grey region_mapping
around_grey_by w h pic w' h' pic' side s x y x' y' greys own = rw (greys, own) refl

-- ---- the settings

-- two settings that are the same in what is read
pub record SameRead (s s' : Settings) : Type 0 where
  pub bins : bins_of s ≡ bins_of s'
  pub least : s.min ≡ s'.min
  pub most : s.max ≡ s'.max
  pub clip : s.clip ≡ s'.clip
  pub edition : s.edition ≡ s'.edition

module _ (w h : ℕ) (pic : List ℕ) (side : ℕ) {s s' : Settings} (same : SameRead s s') where
  pub around_grey_like : (x y : ℕ) → around_grey w h pic side s x y ≡ around_grey w h pic side s' x y
  unfolding around_grey region_mapping
  around_grey_like x y = rw (same.bins, same.least, same.most, same.clip, same.edition) refl

  film_like : around_film w h pic side s ≡ around_film w h pic side s'
  unfolding around_film around_row
  film_like = joined_cong h (λ y q. tab_cong w (λ x p. around_grey_like x y))

  rows_like : (scratch target : ℕ) → around_rows w h pic side s scratch target ≡ around_rows w h pic side s' scratch target
  unfolding around_rows around_work_rows
  rows_like scratch target = rw (grey_alike s s' same.bins same.least same.most (ap clip_bad_of same.clip), same.bins, same.least, same.most) refl

  -- give the same answer and memory
  pub around_like : (o t : List ℕ) → around_of w h pic side s o t ≡ around_of w h pic side s' o t
  unfolding around_of arounded_of around_foot
  around_like o t = rw (rows_like _ _, film_like, same.bins, same.clip) refl
