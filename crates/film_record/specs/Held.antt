-- Document 01, the refusals 15, 16 and 17: what a map record and a window are judged by.
-- film, w, h and s come with the call, r is the map record, win the window and room the output's length.
-- Assumes nothing.
use Rattle.std.specs.Prelude.{ℕ, ◌+◌, ◌*◌, true, not, List, [], ◌∷◌, ◌++◌, ◌≡◌, ltb, eqb}
use Rattle.base_rows.specs.Refuse.{Row, row}
use Rattle.pixel_grid.specs.Grid.{axis_of, same_axis_of}
use Rattle.film_settings.specs.declared.Settings.{Settings}
use Rattle.film_settings.specs.declared.MapRecord.{MapRecord}
use Rattle.film_settings.specs.declared.Window.{Window}
use Rattle.film_settings.specs.Settings.{bins_of, same_clip_of, same_edition_of}

-- 15: "size", a row for each side
abbrev pub sides_rows : (w h width height : ℕ) → List Row
sides_rows w h width height = row 15 (not (eqb w width)) ∷ row 15 (not (eqb h height)) ∷ []

-- 15: "record differs in film number, size ..", a row for each
unfoldable pub film_rows : ℕ → ℕ → ℕ → MapRecord → List Row
film_rows film w h r =
    row 15 (not (eqb film r.film)) ∷ sides_rows w h r.width r.height

-- 15: ".. or any setting (bins 0 read as 128 on both sides)", a row for each
unfoldable pub kept_rows : Settings → Settings → List Row
kept_rows s kept =
    row 15 (not (eqb s.across kept.across))
    ∷ row 15 (not (eqb s.down kept.down))
    ∷ row 15 (not (eqb (bins_of s) (bins_of kept)))
    ∷ row 15 (not (eqb s.min kept.min))
    ∷ row 15 (not (eqb s.max kept.max))
    ∷ row 15 (not (same_clip_of s.clip kept.clip))
    ∷ []

-- 15, order 8: "The edition is a setting, so it is part of what 15 compares."
unfoldable pub edition_rows : Settings → Settings → List Row
edition_rows s kept = row 15 (not (same_edition_of s.edition kept.edition)) ∷ []

-- 15: "also given where the record's edges or centres aren't those of this rule", a row for the columns and one for the rows
unfoldable pub axis_rows : ℕ → ℕ → Settings → MapRecord → List Row
axis_rows w h s r =
    row 15 (not (same_axis_of (axis_of w s.across) r.columns)) ∷ row 15 (not (same_axis_of (axis_of h s.down) r.rows)) ∷ []

-- 15: the record was made for another film, another size or other settings, or has other edges or centres
unfoldable pub record_rows : ℕ → ℕ → ℕ → Settings → MapRecord → List Row
record_rows film w h s r = film_rows film w h r ++ (kept_rows s r.settings ++ (edition_rows s r.settings ++ axis_rows w h s r))

-- 16 and 17: "window empty or not inside the film / output length is not the window's area"
unfoldable pub window_rows : ℕ → ℕ → Window → ℕ → List Row
window_rows w h win room =
    row 16 (eqb win.width 0)
    ∷ row 16 (eqb win.height 0)
    ∷ row 16 (ltb w (win.left + win.width))
    ∷ row 16 (ltb h (win.top + win.height))
    ∷ row 17 (not (eqb room (win.height * win.width)))
    ∷ []

-- what the rows of 15 tell where none applies: a record that was made for this film, this size and these settings
pub record Held (film w h : ℕ) (s : Settings) (r : MapRecord) : Type 0 where
  pub number : film ≡ r.film
  pub wide : w ≡ r.width
  pub high : h ≡ r.height
  pub across : s.across ≡ r.settings.across
  pub down : s.down ≡ r.settings.down
  pub bins : bins_of s ≡ bins_of r.settings
  pub least : s.min ≡ r.settings.min
  pub most : s.max ≡ r.settings.max
  pub clip : same_clip_of s.clip r.settings.clip ≡ true
  pub edition : s.edition ≡ r.settings.edition
  pub columns : axis_of w s.across ≡ r.columns
  pub rows : axis_of h s.down ≡ r.rows
