-- Either prepare, either draw, either enhance: films of bytes and of 16 bits by one rule. Bytes are their numbers, so that the pixels, the mappings and the output of the one call are handed to the other as the
-- same numbers (Wide has how they are widened and narrowed).
-- A name with ' is lent memory at the end.
-- Assumes nothing.
use mathlib.Core.Bool.{false}
use mathlib.Core.Logic.{◌⊎◌, inl, inr}
use mathlib.Core.Path.{◌≡◌, sym, ap, ◌∙◌}
use lib.ListN.{take}
use Rattle.base_rows.specs.Refuse.{first, accepted}
use Rattle.film_settings.specs.declared.Settings.{Settings}
use Rattle.film_settings.specs.declared.MapRecord.{MapRecord}
use Rattle.film_settings.specs.declared.Footer.{Footer}
use Rattle.film_settings.specs.Settings.{entries_of, kept_of, clip_one_of}
use Rattle.byte_profile.specs.Profile.{profile_rows}
use Rattle.byte_profile.proofs.Profile.{profile_none, profile_kept}
use Rattle.byte_prepare.proofs.Endings.{enhance_inside}
use Rattle.promise_films.proofs.Ended.{Shown, draw_shown, Rendered}
use Rattle.promise_films.proofs.Runs.{PrepareCall, Prepares, EnhanceCall, Enhances, enhance_ends, DrawCall, Draws}
use Rattle.promise_films.proofs.Made.{HandedFilm}
use Rattle.promise_bytes.proofs.Inside.{draw_inside}
use Rattle.promise_bytes.proofs.Runs.{PreparesBytes, EnhancesBytes, enhance_bytes_ends, DrawsBytes, draw_bytes_ends}
use Rattle.promise_bytes.proofs.Ended.{prepare_bytes_held, draw_bytes_shown}

-- ---- either prepare, either draw, either enhance

-- prepare, or prepare on bytes, ran with these values
abbrev pub PreparesEither : PrepareCall → Type 0
PreparesEither p = Prepares p ⊎ PreparesBytes p

-- draw, or draw on bytes
abbrev pub DrawsEither : DrawCall → Type 0
DrawsEither d = Draws d ⊎ DrawsBytes d

-- enhance, or enhance on bytes
abbrev pub EnhancesEither : EnhanceCall → Type 0
EnhancesEither e = Enhances e ⊎ EnhancesBytes e

-- the settings are inside the profile of the byte calls
abbrev pub Inside : Settings → Type 0
Inside s = first (profile_rows s) ≡ 0

-- so are settings that are kept as the same
pub kept_inside : (s s' : Settings) → kept_of s' ≡ kept_of s → Inside s → Inside s'
kept_inside s s' like inside = ap first (sym (profile_kept s') ∙ ap profile_rows like ∙ profile_kept s) ∙ inside

-- a film that prepare on bytes accepted has settings inside the profile
pub prepared_bytes_inside : {p : PrepareCall} {r : MapRecord} {foot : Footer} → PreparesBytes p → p.answer ≡ accepted (r, foot) → Inside p.settings
prepared_bytes_inside {p} ran done = profile_none p.settings (prepare_bytes_held ran done)

-- with settings inside the profile either draw shows what draw does
pub either_shown : {d : DrawCall} → DrawsEither d → Inside d.settings → Shown d
either_shown (inl ran) inside = draw_shown ran
either_shown {d} (inr ran) inside =
    record { ends = draw_bytes_ends ran ∙ draw_inside d.film d.width d.height d.pixels d.settings d.kept d.window d.map d.out inside }

-- so does either that accepted the window
pub accepted_shown : {d : DrawCall} → DrawsEither d → d.answer ≡ accepted tt → Shown d
accepted_shown (inl ran) done = draw_shown ran
accepted_shown (inr ran) done = draw_bytes_shown ran done

-- and either enhance renders what enhance does
pub either_rendered : {e : EnhanceCall} → EnhancesEither e → Inside e.settings → Rendered e
either_rendered (inl ran) inside = enhance_ends ran
either_rendered {e} (inr ran) inside = enhance_bytes_ends ran ∙ enhance_inside e.width e.height e.pixels e.settings e.map e.scratch inside

-- ---- what one left, handed to the other

-- what either prepare left, handed to either draw: it accepted the film of p with this footer, its settings are inside the profile, and draw is handed the same film with the record that was
-- answered, the settings, the mappings that were left, a window inside the film and an output of its area
pub record HandedEither (p : PrepareCall) (foot : Footer) (d : DrawCall) : Type 0 where
  pub prepares : PreparesEither p
  pub prepared : p.answer ≡ accepted (d.kept, foot)
  pub inside : Inside p.settings
  pub draws : DrawsEither d
  pub handed : HandedFilm p.film p.width p.height p.pixels p.settings p.map' d

-- of prepare on bytes nothing more is asked: its settings are inside the profile
pub record HandedToDrawBytes (p : PrepareCall) (foot : Footer) (d : DrawCall) : Type 0 where
  pub prepares : PreparesBytes p
  pub prepared : p.answer ≡ accepted (d.kept, foot)
  pub draws : DrawsBytes d
  pub handed : HandedFilm p.film p.width p.height p.pixels p.settings p.map' d

-- either prepare accepted the film of p with this footer, and either draw accepted d, handed the record that was answered, the same pixels and, but at the factor 1.0, the mappings that
-- were left, whatever else
pub record DrawnFromEither (p : PrepareCall) (foot : Footer) (d : DrawCall) : Type 0 where
  pub prepares : PreparesEither p
  pub prepared : p.answer ≡ accepted (d.kept, foot)
  pub draws : DrawsEither d
  pub drawn : d.answer ≡ accepted tt
  pub pixels : d.pixels ≡ p.pixels
  pub mappings : clip_one_of p.settings.clip ≡ false → take (entries_of p.settings) d.map ≡ take (entries_of p.settings) p.map'
