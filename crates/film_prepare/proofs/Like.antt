-- "Bins B: 2 to 4096. 0 means 128.", for every input: with the settings as they are kept, prepare and enhance answer and leave the same.
-- Assumes nothing.
use Prim.Native.Nat.{ℕ}
use mathlib.Core.List.{List}
use mathlib.Core.Path.{◌≡◌, refl}
use lib.ListN.{length}
use Rattle.film_settings.specs.declared.Settings.{Settings}
use Rattle.film_settings.specs.Settings.{kept_of}
use Rattle.film_settings.proofs.Like.{bins_kept, shared_kept}
use Rattle.film_settings.proofs.Records.{record_of_kept}
use Rattle.pixel_render.specs.Render.{whole}
use Rattle.pixel_render.proofs.Laws.{render_kept}
use Rattle.film_tiles.specs.Tiles.{mappings}
use Rattle.film_tiles.proofs.Like.{mappings_kept, spents_kept, foot_kept}
use Rattle.film_prepare.specs.Prepare.{work_rows, listed_rows, enhance_rows, prepare_rows, prepare_of, prepared_of, enhance_of, enhanced_of}

-- the rows 12 and 13
pub work_kept : (pic : List ℕ) (s : Settings) (scratch : ℕ) → work_rows pic (kept_of s) scratch ≡ work_rows pic s scratch
unfolding work_rows
work_kept pic s scratch = rw (bins_kept s) refl

-- and 12, 32 and 13
pub listed_kept : (pic : List ℕ) (s : Settings) (scratch list : ℕ) → listed_rows pic (kept_of s) scratch list ≡ listed_rows pic s scratch list
unfolding listed_rows
listed_kept pic s scratch list = rw (bins_kept s) refl

-- prepare's table
pub rows_kept : (w h : ℕ) (pic : List ℕ) (s : Settings) (room scratch list : ℕ) → prepare_rows w h pic (kept_of s) room scratch list ≡ prepare_rows w h pic s room scratch list
unfolding prepare_rows
rows_kept w h pic s room scratch list = rw (shared_kept w h (length pic) s room, listed_kept pic s scratch list) refl

-- and enhance's
pub over_kept : (w h : ℕ) (pic : List ℕ) (s : Settings) (room scratch : ℕ) → enhance_rows w h pic (kept_of s) room scratch ≡ enhance_rows w h pic s room scratch
unfolding enhance_rows
over_kept w h pic s room scratch = rw (shared_kept w h (length pic) s room, work_kept pic s scratch) refl

-- so prepare answers and leaves the same
pub prepare_kept : (film w h : ℕ) (pic : List ℕ) (s : Settings) (m t n : List ℕ) → prepare_of film w h pic (kept_of s) m t n ≡ prepare_of film w h pic s m t n
unfolding prepare_of prepared_of
prepare_kept film w h pic s m t n =
    rw (rows_kept w h pic s (length m) (length t) (length n), mappings_kept w h pic s, spents_kept w h pic s, foot_kept w h s, record_of_kept film w h s, bins_kept s) refl

-- and enhance
pub enhance_kept : (w h : ℕ) (pic : List ℕ) (s : Settings) (m t : List ℕ) → enhance_of w h pic (kept_of s) m t ≡ enhance_of w h pic s m t
unfolding enhance_of enhanced_of
enhance_kept w h pic s m t =
    rw (over_kept w h pic s (length m) (length t), mappings_kept w h pic s, render_kept w h s (mappings w h pic s) (whole w h) pic, foot_kept w h s, bins_kept s) refl
