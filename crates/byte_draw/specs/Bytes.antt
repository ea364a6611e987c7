-- Order 1, byte films: what draw on bytes answers and leaves. A byte is its number, so this is the wide call's own outcome behind the byte calls' table.
-- film, w, h, pic and s come with the call, r is the map record, win the window, m the map buffer and out the output as lent.
-- Assumes nothing.
use Rattle.std.specs.Prelude.{ℕ, List, ◌++◌, length}
use Rattle.base_rows.specs.Refuse.{Row, first, unless, accepted, refused}
use Rattle.film_settings.specs.declared.Settings.{Settings}
use Rattle.film_settings.specs.declared.MapRecord.{MapRecord}
use Rattle.film_settings.specs.declared.Window.{Window}
use Rattle.film_record.specs.Held.{record_rows, window_rows}
use Rattle.film_draw.specs.Draw.{pixel_rows, drawn_pixels, DrawOut, draw_leaves, WindowReady}
use Rattle.byte_profile.specs.Profile.{byte_rows, Profile}

-- 1 to 10 with 31 after 9, "30 for a setting outside the profile, after 10", then 11 and on as in the wide call
unfoldable pub byte_draw_rows : (film w h : ℕ) (pic : List ℕ) (s : Settings) (r : MapRecord) (win : Window) (m : List ℕ) (room : ℕ) → List Row
byte_draw_rows film w h pic s r win m room =
    byte_rows w h (length pic) s (length m) ++ (record_rows film w h s r ++ (window_rows w h win room ++ pixel_rows w pic s win m))

-- draw on bytes: a refusal leaves the output as it was; else what draw does
unfoldable pub byte_draw_of : (film w h : ℕ) (pic : List ℕ) (s : Settings) (r : MapRecord) (win : Window) (m out : List ℕ) → DrawOut
byte_draw_of film w h pic s r win m out =
    unless (first (byte_draw_rows film w h pic s r win m (length out))) (λ n. draw_leaves (refused n) out) (draw_leaves (accepted tt) (drawn_pixels w h pic s win m))

-- what the work of draw asks: what the wide call's work asks, and settings inside the profile
pub record ByteWindowReady (w h : ℕ) (pic : List ℕ) (s : Settings) (win : Window) (m : List ℕ) (room : ℕ) : Type 0 where
  pub shown : WindowReady w h pic s win m room
  pub profile : Profile s
