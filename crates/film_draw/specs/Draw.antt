-- Document 01, "What each call hands back" for draw: what it answers, and what the output holds at the end.
-- film, w, h, pic and s come with the call, r is the map record, win the window, m the map buffer and out the output as lent.
-- Assumes nothing.
use Rattle.std.specs.Prelude.{ℕ, ◌+◌, ◌*◌, ◌≤◌, ◌<◌, true, false, not, ◌&&◌, cond, List, [], ◌∷◌, ◌++◌, ◌≡◌, length, take}
use Rattle.base_lists.specs.Lists.{all}
use Rattle.base_rows.specs.Refuse.{Row, row, first, unless, Says, accepted, refused}
use Rattle.base_range.specs.Scan.{within}
use Rattle.tile_count.specs.Tally.{greys_of}
use Rattle.film_settings.specs.declared.Settings.{Settings}
use Rattle.film_settings.specs.declared.MapRecord.{MapRecord}
use Rattle.film_settings.specs.declared.Window.{Window}
use Rattle.film_settings.specs.Settings.{bins_of, entries_of, clip_one_of, outside_row, shared_rows, Ready}
use Rattle.pixel_render.specs.Render.{render_of, rect_of}
use Rattle.film_record.specs.Held.{record_rows, window_rows, Held}
use Rattle.film_window.specs.Frame.{Framed}

-- "then 13 over the window, then 18 (not at factor 1.0)": 18 is "one of the first (grid across) x (grid down) x B map entries outside Min to Max"
unfoldable pub pixel_rows : ℕ → List ℕ → Settings → Window → List ℕ → List Row
pixel_rows w pic s win m =
    outside_row (greys_of pic w (rect_of win)) s
    ∷ row 18 (not (clip_one_of s.clip) && not (all (within s.min s.max) (take (entries_of s) m)))
    ∷ []

-- "Draw: 1 to 11, 15, 16, 17, then 13 over the window, then 18 (not at factor 1.0)"; 31 stands behind 9
unfoldable pub draw_rows : (film w h : ℕ) (pic : List ℕ) (s : Settings) (r : MapRecord) (win : Window) (m : List ℕ) (room : ℕ) → List Row
draw_rows film w h pic s r win m room =
    shared_rows w h (length pic) s (length m) ++ (record_rows film w h s r ++ (window_rows w h win room ++ pixel_rows w pic s win m))

-- what draw leaves: its answer, which hands back no value or is a refusal, and the output
pub record DrawOut : Type 0 where
  pub answer : Says (Unit {0})
  pub out : List ℕ

-- the answer and the output at the end, as draw leaves them
abbrev pub draw_leaves : Says (Unit {0}) → List ℕ → DrawOut
draw_leaves answer out = record { answer = answer; out = out }

-- "the window's pixels row by row in the output, each by the rule above from the map entries as lent, whoever wrote them. At factor 1.0 it copies them"
unfoldable pub drawn_pixels : (w h : ℕ) (pic : List ℕ) (s : Settings) (win : Window) (m : List ℕ) → List ℕ
drawn_pixels w h pic s win m = cond (clip_one_of s.clip) (greys_of pic w (rect_of win)) (render_of w h s m win (greys_of pic w (rect_of win)))

-- where no row applies draw leaves them in the output; a refusal leaves the output as it was
unfoldable pub draw_of : (film w h : ℕ) (pic : List ℕ) (s : Settings) (r : MapRecord) (win : Window) (m out : List ℕ) → DrawOut
draw_of film w h pic s r win m out =
    unless (first (draw_rows film w h pic s r win m (length out))) (λ n. draw_leaves (refused n) out)
    (draw_leaves (accepted tt) (drawn_pixels w h pic s win m))

-- ---- what the functions ask

-- what the search for 13 and 18 asks: a window inside the film, a grid and bins as document 01 has them, and room for the mappings
pub record LookAsks (size w : ℕ) (s : Settings) (win : Window) (room : ℕ) : Type 0 where
  pub framed : Framed size w win
  pub acrossmost : s.across ≤ 16
  pub downmost : s.down ≤ 16
  pub binsmost : bins_of s ≤ 4096
  pub fitting : entries_of s ≤ room

-- what the work of draw asks: settings that are not refused, a window inside the film with a pixel at least, an output of its area,
-- pixels from Min to Max, and but at factor 1.0 mappings from Min to Max
pub record WindowReady (w h : ℕ) (pic : List ℕ) (s : Settings) (win : Window) (m : List ℕ) (room : ℕ) : Type 0 where
  pub ready : Ready w h (length pic) s (length m)
  pub wide : 0 < win.width
  pub high : 0 < win.height
  pub across : win.left + win.width ≤ w
  pub down : win.top + win.height ≤ h
  pub area : room ≡ win.height * win.width
  pub greys : all (within s.min s.max) (greys_of pic w (rect_of win)) ≡ true
  pub mappings : clip_one_of s.clip ≡ false → all (within s.min s.max) (take (entries_of s) m) ≡ true

-- ---- what draw knows once none of its rows applies

-- what all of draw's rows tell where none applies
pub record DrawReady (film w h : ℕ) (pic : List ℕ) (s : Settings) (r : MapRecord) (win : Window) (m : List ℕ) (room : ℕ) : Type 0 where
  pub held : Held film w h s r
  pub shown : WindowReady w h pic s win m room
