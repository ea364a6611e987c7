-- "Bins B: 2 to 4096. 0 means 128.", for every input: with the settings as they are kept, direct answers and leaves the same.
-- Assumes nothing.
use Prim.Native.Nat.{ℕ}
use mathlib.Core.List.{List}
use mathlib.Core.Path.{◌≡◌, refl, sym, ap, ◌∙◌}
use lib.ListN.{length}
use Rattle.base_lists.proofs.Tabs.{tab_cong}
use Rattle.base_lists.proofs.Fills.{joined_cong}
use Rattle.film_settings.specs.declared.Settings.{Settings}
use Rattle.film_settings.specs.Settings.{kept_of}
use Rattle.film_settings.proofs.Like.{bins_kept, setting_kept}
use Rattle.film_tiles.proofs.Like.{foot_kept}
use Rattle.pixel_rule.proofs.Rule.{shown_kept}
use Rattle.film_direct.specs.Direct.{direct_work_rows, direct_rows, shown_film, directed_of, direct_of}

-- the film that is shown
pub shown_film_kept : (w h : ℕ) (pic : List ℕ) (s : Settings) → shown_film w h pic (kept_of s) ≡ shown_film w h pic s
unfolding shown_film
shown_film_kept w h pic s = joined_cong h (λ y l. tab_cong w (λ x k. shown_kept w h pic s x y))

-- the rows 12, 17 and 13
pub work_kept : (w h : ℕ) (pic : List ℕ) (s : Settings) (scratch target : ℕ) → direct_work_rows w h pic (kept_of s) scratch target ≡ direct_work_rows w h pic s scratch target
unfolding direct_work_rows
work_kept w h pic s scratch target = rw (bins_kept s) refl

-- and all of them
pub rows_kept : (w h : ℕ) (pic : List ℕ) (s : Settings) (scratch target : ℕ) → direct_rows w h pic (kept_of s) scratch target ≡ direct_rows w h pic s scratch target
unfolding direct_rows
rows_kept w h pic s scratch target = rw (setting_kept w h (length pic) s, work_kept w h pic s scratch target) refl

-- so direct answers and leaves the same
pub direct_kept : (w h : ℕ) (pic : List ℕ) (s : Settings) (o t : List ℕ) → direct_of w h pic (kept_of s) o t ≡ direct_of w h pic s o t
unfolding direct_of directed_of
direct_kept w h pic s o t = rw (rows_kept w h pic s (length t) (length o), shown_film_kept w h pic s, foot_kept w h s, bins_kept s) refl

-- with all settings that are kept as the same
pub direct_like : (w h : ℕ) (pic : List ℕ) (s s' : Settings) (o t : List ℕ) → kept_of s ≡ kept_of s' → direct_of w h pic s o t ≡ direct_of w h pic s' o t
direct_like w h pic s s' o t like = sym (direct_kept w h pic s o t) ∙ ap (λ z. direct_of w h pic z o t) like ∙ direct_kept w h pic s' o t
