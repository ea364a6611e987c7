-- What counting looks at of the settings: not at the clip setting, and at bins 0 as 128; and 33 at the counts' length alone.
-- Assumes nothing.
use Prim.Native.Nat.{ℕ, ◌*◌}
use mathlib.Core.List.{List}
use mathlib.Core.Path.{◌≡◌, refl, ap₂, ◌∙◌}
use lib.ListN.{length, take}
use Rattle.base_lists.specs.Lists.{joined}
use Rattle.base_lists.proofs.Fills.{joined_cong}
use Rattle.base_lists.proofs.Windows.{front_short}
use Rattle.tile_limit.specs.declared.Clip.{Clip}
use Rattle.tile_limit.specs.declared.Edition.{Edition}
use Rattle.film_settings.specs.declared.Settings.{Settings}
use Rattle.film_settings.specs.Settings.{bins_of, entries_of, kept_of}
use Rattle.film_settings.proofs.Like.{bins_kept}
use Rattle.film_settings.proofs.Parts.{bins_alike, grid_alike, range_alike}
use Rattle.film_count.specs.Counting.{raw_counts, countings, counts_rows, outside_rows, picture_rows, count_rows, count_done_of, count_of, AlikeButClip, with_clipping}

-- ---- counting does not look at the clip setting

module _ (w h : ℕ) (pic : List ℕ) {s s' : Settings} (like : AlikeButClip s s') where
  -- its rows are the same
  pub rows_alike : (size : ℕ) → count_rows w h pic s size ≡ count_rows w h pic s' size
  unfolding count_rows picture_rows counts_rows outside_rows
  rows_alike size =
      rw (grid_alike w h s s' like.across like.down, range_alike s s' like.bins like.min like.max, like.bins, like.across, like.down, like.min, like.max) refl

  -- and the counts
  pub countings_alike : countings w h pic s ≡ countings w h pic s'
  unfolding countings
  countings_alike =
      ap₂ (λ x y. joined (x * y) (raw_counts w h pic s)) like.across like.down
      ∙ joined_cong (s'.across * s'.down) (λ k l. rw (like.bins, like.across, like.down, like.min, like.max) refl)

  -- so it answers and leaves the same
  pub count_alike : (cs : List ℕ) → count_of w h pic s cs ≡ count_of w h pic s' cs
  unfolding count_of count_done_of
  count_alike cs = rw (rows_alike (length cs), countings_alike) refl

-- settings that differ in the factor and the edition alone
pub clipping_alike : (s : Settings) (e : Edition) (f : Clip) → AlikeButClip s (with_clipping s e f)
clipping_alike s e f = record { across = refl; down = refl; bins = bins_alike s (with_clipping s e f) refl; min = refl; max = refl }

-- and in bins 0 and 128: "Bins B: 2 to 4096. 0 means 128."
pub kept_alike : (s : Settings) → AlikeButClip (kept_of s) s
kept_alike s = record { across = refl; down = refl; bins = bins_kept s; min = refl; max = refl }

-- ---- 33

-- bins 0 and 128
pub counts_kept : (s : Settings) (size : ℕ) → counts_rows (kept_of s) size ≡ counts_rows s size
unfolding counts_rows
counts_kept s size = rw (bins_kept s) refl

-- grid and bins
pub counts_alike : (s s' : Settings) → s.across ≡ s'.across → s.down ≡ s'.down → bins_of s ≡ bins_of s' → (size : ℕ) → counts_rows s size ≡ counts_rows s' size
unfolding counts_rows
counts_alike s s' across down bins size = rw (bins, across, down) refl

-- counts that are alike in front, as far as there are bins and tiles
pub counts_front : (s : Settings) (a b : List ℕ) → take (entries_of s) a ≡ take (entries_of s) b → counts_rows s (length a) ≡ counts_rows s (length b)
unfolding counts_rows
counts_front s a b front = rw (front_short (entries_of s) a b front) refl
