-- The record of a film, field by field, and that the sides of a film that is not refused are no shorter than its grid: what callers use, so that nobody opens `record_of`.
-- Assumes nothing.
use Prim.Native.Nat.{ℕ}
use mathlib.Core.Path.{◌≡◌, refl, ap, ◌∙◌}
use Rattle.pixel_grid.specs.Grid.{axis_of, Fits}
use Rattle.film_settings.specs.declared.Settings.{Settings}
use Rattle.film_settings.specs.Settings.{bins_of, kept_of, record_of, Tiled}
use Rattle.film_settings.proofs.Like.{bins_kept}

-- ---- the fields

module _ (film w h : ℕ) (s : Settings) where
  pub record_film : (record_of film w h s).film ≡ film
  unfolding record_of
  record_film = refl

  pub record_width : (record_of film w h s).width ≡ w
  unfolding record_of
  record_width = refl

  pub record_height : (record_of film w h s).height ≡ h
  unfolding record_of
  record_height = refl

  pub record_settings : (record_of film w h s).settings ≡ kept_of s
  unfolding record_of
  record_settings = refl

  pub record_columns : (record_of film w h s).columns ≡ axis_of w s.across
  unfolding record_of
  record_columns = refl

  pub record_rows_lem : (record_of film w h s).rows ≡ axis_of h s.down
  unfolding record_of
  record_rows_lem = refl

  -- its bins are the film's, 0 read as 128
  pub record_bins : bins_of (record_of film w h s).settings ≡ bins_of s
  record_bins = ap bins_of record_settings ∙ bins_kept s

  -- the settings as they are kept make the same record
  pub record_of_kept : record_of film w h (kept_of s) ≡ record_of film w h s
  unfolding record_of
  record_of_kept = rw (bins_kept s) refl

-- ---- the sides

pub tiled_columns : {w h : ℕ} {s : Settings} → Tiled w h s → Fits w s.across
tiled_columns t = record { some = t.across; few = t.acrossmost; least = t.columns; most = t.widest }

pub tiled_rows : {w h : ℕ} {s : Settings} → Tiled w h s → Fits h s.down
tiled_rows t = record { some = t.down; few = t.downmost; least = t.rows; most = t.highest }
