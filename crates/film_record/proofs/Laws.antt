-- Laws of the record: when it is refused, and when it is not.
-- Assumes nothing.
use Prim.Native.Nat.{ℕ, ◌*◌}
use mathlib.Core.Bool.{Bool, true, false, ◌||◌, beq}
use mathlib.Core.List.{◌++◌}
use mathlib.Core.Logic.{◌≢◌}
use mathlib.Core.Path.{◌≡◌, refl, sym, ap, ◌∙◌}
use lib.Dec.{eqb}
use lib.Ieee.{Float, nan, inf, fin, up, down, eq}
use native.Mathlib.Omega.{arith}
use borrow.Author.Tests.{eq-eqb, ne_eqb, eqb-true, not-false}
use Rattle.tile_limit.specs.declared.Clip.{Clip}
use Rattle.tile_limit.specs.declared.Clip.TheVariants.{Off, Factor}
use Rattle.tile_limit.specs.Limit.{allowed}
use Rattle.base_lists.specs.Lists.{all}
use Rattle.base_rows.specs.Refuse.{first}
use Rattle.base_rows.proofs.Walk.{each_first, behind}
use Rattle.pixel_grid.specs.Grid.{axis_of}
use Rattle.pixel_grid.proofs.Axes.{same_axis_self}
use Rattle.film_settings.specs.declared.Settings.{Settings}
use Rattle.film_settings.specs.declared.MapRecord.{MapRecord}
use Rattle.film_settings.specs.Settings.{bins_of, kept_of, record_of, kept_record, clip_bad_of, same_clip_of}
use Rattle.film_settings.proofs.Like.{bins_kept}
use Rattle.film_settings.proofs.Parts.{bins_alike}
use Rattle.film_settings.proofs.Records.{record_film, record_width, record_height, record_settings, record_columns, record_rows_lem}
use Rattle.film_settings.proofs.Editions.{same_edition_self}
use Rattle.film_record.specs.Held.{film_rows, kept_rows, edition_rows, axis_rows, record_rows, Held}
use Rattle.film_record.proofs.Tables.{record_numbers_lem, kept_numbered, edition_numbered, record_held}

-- ---- a record that is another film's, of another size, of other settings or with other edges or centres

-- the rows of 15 give no other number
pub record_fifteen : (film w h : ℕ) (s : Settings) (r : MapRecord) → first (record_rows film w h s r) ≢ 0 → first (record_rows film w h s r) ≡ 15
unfolding all
record_fifteen film w h s r d =
    eqb-true (first (record_rows film w h s r)) 15
    (sym (ap (λ b. b || eqb (first (record_rows film w h s r)) 15) (ne_eqb (first (record_rows film w h s r)) 0 d))
    ∙ each_first (λ n. eqb n 0 || eqb n 15) (record_rows film w h s r) refl (rw (record_numbers_lem film w h s r) refl))

module _ (film w h : ℕ) (s : Settings) (r : MapRecord) where
  -- a record that differs in any field is refused with 15
  pub other_held : (Held film w h s r → ⊥) → first (record_rows film w h s r) ≡ 15
  other_held d = record_fifteen film w h s r (λ e. d (record_held film w h s r e))

  -- "The edition is a setting, so it is part of what 15 compares."
  pub other_edition : s.edition ≢ r.settings.edition → first (record_rows film w h s r) ≡ 15
  other_edition d = other_held (λ held. d held.edition)

  -- "also given where the record's edges or centres aren't those of this rule": those of the columns
  pub other_columns : axis_of w s.across ≢ r.columns → first (record_rows film w h s r) ≡ 15
  other_columns d = other_held (λ held. d held.columns)

  -- and those of the rows
  pub other_rows_lem : axis_of h s.down ≢ r.rows → first (record_rows film w h s r) ≡ 15
  other_rows_lem d = other_held (λ held. d held.rows)

-- ---- the record that prepare makes of these settings

-- a factor that is a number from 1.0 to 1024.0 is equal to itself
pub same_factor : (f : Float) → allowed f ≡ true → eq f f ≡ true
unfolding allowed eq
same_factor nan h = h
same_factor (inf s) h = absurd (let z : ◌≡◌ {A = ℕ} 0 1 = cc in omega arith)
same_factor (fin s m e) h = rw (eq-eqb (m * up e * down e) (m * up e * down e) refl, like s) refl
  where
    like : (b : Bool) → beq b b ≡ true
    like true = refl
    like false = refl

-- a clip setting that is not refused is the same as itself
pub same_clip : (clip : Clip) → clip_bad_of clip ≡ false → same_clip_of clip clip ≡ true
unfolding same_clip_of
same_clip Off h = refl
same_clip (Factor f) h = same_factor f (not-false (allowed f) h)

-- the settings that are kept of these are not refused
pub own_settings : (s : Settings) → clip_bad_of s.clip ≡ false → first (kept_rows s (kept_of s)) ≡ 0
unfolding first kept_rows
own_settings s c =
    rw (
      eq-eqb s.across s.across refl,
      eq-eqb s.down s.down refl,
      bins_kept s,
      eq-eqb (bins_of s) (bins_of s) refl,
      eq-eqb s.min s.min refl,
      eq-eqb s.max s.max refl,
      same_clip s.clip c,
    )
    refl

-- nor is their edition
pub own_edition : (s : Settings) → first (edition_rows s (kept_of s)) ≡ 0
unfolding first edition_rows
own_edition s = rw (same_edition_self s.edition) refl

-- nor are the edges and centres of a film's record
pub own_axes : (film w h : ℕ) (s : Settings) → first (axis_rows w h s (record_of film w h s)) ≡ 0
unfolding first axis_rows
own_axes film w h s =
    rw (record_columns film w h s, record_rows_lem film w h s, same_axis_self (axis_of w s.across), same_axis_self (axis_of h s.down)) refl

-- a record of the film, its sizes, its settings, its edition and its edges and centres is not refused
same_record : (film w h : ℕ) (s : Settings) (r : MapRecord) → film ≡ r.film → w ≡ r.width → h ≡ r.height → first (kept_rows s r.settings) ≡ 0 → first (edition_rows s r.settings) ≡ 0 → first (axis_rows w h s r) ≡ 0
    → first (record_rows film w h s r) ≡ 0
unfolding first record_rows film_rows
same_record film w h s r number wide high kept edition axes =
    rw (eq-eqb film r.film number, eq-eqb w r.width wide, eq-eqb h r.height high)
    (sym
    (behind (kept_rows s r.settings) (edition_rows s r.settings ++ axis_rows w h s r) (kept_numbered s r.settings) (sym kept) refl
    (behind (edition_rows s r.settings) (axis_rows w h s r) (edition_numbered s r.settings) (sym edition) refl (sym axes))))

-- nor is the record of a film, its sizes and these settings
pub own_record : (film w h : ℕ) (s : Settings) → clip_bad_of s.clip ≡ false → first (record_rows film w h s (record_of film w h s)) ≡ 0
own_record film w h s c =
    same_record film w h s (record_of film w h s) (sym (record_film film w h s)) (sym (record_width film w h s)) (sym (record_height film w h s))
    (ap (λ kept. first (kept_rows s kept)) (record_settings film w h s) ∙ own_settings s c)
    (ap (λ kept. first (edition_rows s kept)) (record_settings film w h s) ∙ own_edition s)
    (own_axes film w h s)

-- ---- the settings, with bins 0 kept as 128

-- the settings' rows read the bins so
pub settings_kept : (s kept : Settings) → kept_rows (kept_of s) kept ≡ kept_rows s kept
unfolding kept_rows
settings_kept s kept = rw (bins_kept s) refl

-- and the edition's row does not look at them
pub edition_kept : (s kept : Settings) → edition_rows (kept_of s) kept ≡ edition_rows s kept
unfolding edition_rows
edition_kept s kept = refl

-- 15 reads the bins so on both sides
pub record_kept : (film w h : ℕ) (s : Settings) (r : MapRecord) → record_rows film w h (kept_of s) r ≡ record_rows film w h s r
unfolding record_rows kept_rows edition_rows axis_rows
record_kept film w h s r = rw (bins_kept s) refl

pub record_kept_record : (film w h : ℕ) (s : Settings) (r : MapRecord) → record_rows film w h s (kept_record r) ≡ record_rows film w h s r
unfolding record_rows film_rows kept_rows edition_rows axis_rows
record_kept_record film w h s r = rw (bins_kept r.settings) refl

-- ---- what 15 reads of the clip settings

-- settings with another clip setting
abbrev pub reclipped : Settings → Clip → Settings
reclipped s c = record { across = s.across; down = s.down; bins = s.bins; min = s.min; max = s.max; clip = c; edition = s.edition }

-- and a record with another
abbrev pub reclipped_record : MapRecord → Clip → MapRecord
reclipped_record r c =
    record { film = r.film; width = r.width; height = r.height; settings = reclipped r.settings c; columns = r.columns; rows = r.rows }

-- whether the call's and the record's are the same, and no more
pub record_alike : (film w h : ℕ) (s : Settings) (r : MapRecord) (c c' : Clip) → same_clip_of c c' ≡ same_clip_of s.clip r.settings.clip
    → record_rows film w h (reclipped s c) (reclipped_record r c') ≡ record_rows film w h s r
unfolding record_rows film_rows kept_rows edition_rows axis_rows
record_alike film w h s r c c' e = rw (bins_alike (reclipped s c) s refl, bins_alike (reclipped r.settings c') r.settings refl, e) refl
