-- Laws of draw's refusals: when the record is refused.
-- Assumes nothing.
use Prim.Native.Nat.{ℕ}
use mathlib.Core.List.{List}
use mathlib.Core.Logic.{◌≢◌}
use mathlib.Core.Path.{◌≡◌, refl, sym, ◌∙◌}
use lib.ListN.{length}
use Rattle.base_rows.specs.Refuse.{first}
use Rattle.film_settings.specs.declared.Settings.{Settings}
use Rattle.film_settings.specs.declared.MapRecord.{MapRecord}
use Rattle.film_settings.specs.declared.Window.{Window}
use Rattle.film_settings.specs.Settings.{shared_rows}
use Rattle.film_record.specs.Held.{record_rows, Held}
use Rattle.film_record.proofs.Tables.{record_held}
use Rattle.film_record.proofs.Laws.{record_fifteen}
use Rattle.film_draw.specs.Draw.{draw_rows}
use Rattle.film_draw.proofs.Tables.{draw_record}

-- ---- a record that is another film's, of another size, of other settings or with other edges or centres

module _ (film w h : ℕ) (pic : List ℕ) (s : Settings) (r : MapRecord) (win : Window) (m : List ℕ) (room : ℕ) (shared : first (shared_rows w h (length pic) s (length m)) ≡ 0) where
  -- where none of the refusals 1 to 11 and 31 applies, a record that differs is refused with 15
  pub other_record : first (record_rows film w h s r) ≢ 0 → first (draw_rows film w h pic s r win m room) ≡ 15
  other_record d =
      sym (draw_record film w h pic s r win m room refl shared refl d)
      ∙ record_fifteen film w h s r d

  -- in any field
  pub other_field : (Held film w h s r → ⊥) → first (draw_rows film w h pic s r win m room) ≡ 15
  other_field d = other_record (λ e. d (record_held film w h s r e))
