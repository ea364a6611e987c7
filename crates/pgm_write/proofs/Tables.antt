-- The refusals of write: one behind the other, and what they tell where no row applies.
-- Assumes nothing.
use Prim.Native.Nat.{ℕ, ◌+◌, ◌*◌, ◌≤◌, ◌<◌}
use mathlib.Core.Bool.{Bool, true, false, not}
use mathlib.Core.List.{List}
use mathlib.Core.Path.{◌≡◌, refl, sym, ap}
use lib.Dec.{ltb}
use lib.ListN.{length, length-append}
use borrow.Author.Tests.{ltb-false, eqb-true, not-false, not-true, ne_eqb, eq-eqb, le-ltb, lt-ltb}
use Rattle.base_lists.specs.Lists.{all}
use Rattle.base_rows.specs.Refuse.{first, numbers_of, Numbered}
use Rattle.base_rows.proofs.Walk.{each_append, first_none, none_first, none_front, none_behind, front, behind}
use Rattle.pgm_header.specs.Header.{header_bytes}
use Rattle.pgm_samples.specs.Samples.{is_wide, none_above_of}
use Rattle.pgm_samples.proofs.Packing.{length_packed}
use Rattle.pgm_raster.specs.Raster.{raster_size_of, head_rows}
use Rattle.pgm_raster.proofs.Tables.{limit_numbered, head_within, within_none}
use Rattle.pgm_write.specs.Write.{file_picture_rows, written_rows, WriteReady, WriteAsks, file_of}

-- how many bytes a file has
pub length_file : (pic : List ℕ) (w h m : ℕ) → length pic ≡ w * h → length (file_of pic w h m) ≡ length (header_bytes w h m) + raster_size_of w h m
unfolding file_of
length_file pic w h m e = rw (length-append, length_packed (is_wide m) pic, e) refl

module _ (pic : List ℕ) (w h m : ℕ) where
  -- 22 or 23 applies
  pub picture_limit : {r : ℕ} → r ≡ first (head_rows w h m) → (r ≡ 0 → ⊥) → r ≡ first (file_picture_rows pic w h m)
  unfolding file_picture_rows
  picture_limit e z = front (head_rows w h m) _ e z

  -- 2 applies
  pub picture_size : {a : ℕ} → a ≡ first (head_rows w h m) → a ≡ 0 → (length pic ≡ w * h → ⊥) → 2 ≡ first (file_picture_rows pic w h m)
  unfolding first file_picture_rows
  picture_size e z q = behind (head_rows w h m) _ (limit_numbered w h m) e z (rw (ne_eqb (length pic) (w * h) q) refl)

  -- 26 applies
  pub picture_above : {a : ℕ} {t : Bool} → a ≡ first (head_rows w h m) → a ≡ 0 → length pic ≡ w * h → t ≡ none_above_of m pic → not t ≡ true
      → 26 ≡ first (file_picture_rows pic w h m)
  unfolding first file_picture_rows
  picture_above {a} {t} e z q f y = behind (head_rows w h m) _ (limit_numbered w h m) e z (rw (eq-eqb (length pic) (w * h) q, ← f, not-true t y) refl)

  -- none applies
  pub picture_fits : {a : ℕ} {t : Bool} → a ≡ first (head_rows w h m) → a ≡ 0 → length pic ≡ w * h → t ≡ none_above_of m pic → not t ≡ false
      → 0 ≡ first (file_picture_rows pic w h m)
  unfolding first file_picture_rows
  picture_fits {a} {t} e z q f n = behind (head_rows w h m) _ (limit_numbered w h m) e z (rw (eq-eqb (length pic) (w * h) q, ← f, not-false t n) refl)

  -- the numbers are above 0
  pub picture_numbered : Numbered (file_picture_rows pic w h m)
  unfolding all numbers_of file_picture_rows
  picture_numbered = each_append (ltb 0) (head_rows w h m) _ (limit_numbered w h m) refl

  -- no row applies: the picture has its size, and none of it is above maxval
  pub picture_film : first (file_picture_rows pic w h m) ≡ 0 → WriteReady pic w h m
  unfolding file_picture_rows
  picture_film e =
      let n = first_none (file_picture_rows pic w h m) picture_numbered e in
      let b = none_behind (head_rows w h m) _ n in
      record {
        within = head_within w h m (none_first (head_rows w h m) (none_front (head_rows w h m) _ n));
        whole = eqb-true _ _ (not-false _ b.0);
        bounded = not-false _ b.1.0;
      }

  -- and the other way
  pub film_none : WriteReady pic w h m → 0 ≡ first (file_picture_rows pic w h m)
  film_none f = picture_fits refl (none_first (head_rows w h m) (within_none w h m f.within)) f.whole refl (ap not f.bounded)

module _ (pic : List ℕ) (w h m : ℕ) (file : List ℕ) (room : ℕ) where
  -- 22, 23, 2 or 26 applies
  pub written_front : {r : ℕ} → r ≡ first (file_picture_rows pic w h m) → (r ≡ 0 → ⊥) → r ≡ first (written_rows pic w h m file room)
  unfolding written_rows
  written_front e z = front (file_picture_rows pic w h m) _ e z

  -- 27 applies
  pub written_short : {a : ℕ} → a ≡ first (file_picture_rows pic w h m) → a ≡ 0 → room < length file → 27 ≡ first (written_rows pic w h m file room)
  unfolding first written_rows
  written_short e z l = behind (file_picture_rows pic w h m) _ (picture_numbered pic w h m) e z (rw (lt-ltb room (length file) l) refl)

  -- none applies
  pub written_fits : {a : ℕ} → a ≡ first (file_picture_rows pic w h m) → a ≡ 0 → length file ≤ room → 0 ≡ first (written_rows pic w h m file room)
  unfolding first written_rows
  written_fits e z l = behind (file_picture_rows pic w h m) _ (picture_numbered pic w h m) e z (rw (le-ltb room (length file) l) refl)

  -- the numbers are above 0
  pub written_numbered : Numbered (written_rows pic w h m file room)
  unfolding all numbers_of written_rows
  written_numbered = each_append (ltb 0) (file_picture_rows pic w h m) _ (picture_numbered pic w h m) refl

  -- no row applies: what the work below relies on
  pub write_asks : first (written_rows pic w h m file room) ≡ 0 → WriteAsks pic w h m file room
  unfolding written_rows
  write_asks e =
      let n = first_none (written_rows pic w h m file room) written_numbered e in
      let b = none_behind (file_picture_rows pic w h m) _ n in
      record {
        film = picture_film pic w h m (none_first (file_picture_rows pic w h m) (none_front (file_picture_rows pic w h m) _ n));
        fitting = ltb-false _ _ b.0;
      }

  -- and the other way
  pub asks_none : WriteAsks pic w h m file room → first (written_rows pic w h m file room) ≡ 0
  asks_none a = sym (written_fits (film_none pic w h m a.film) refl a.fitting)
