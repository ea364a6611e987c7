-- Document 02, order 11: what store, draw and drop answer, and what each leaves in lent memory.
-- room is the room record, m its buffer, t the scratch, n order 7's list, out the output as lent.
-- Assumes nothing.
use Rattle.std.specs.Prelude.{ℕ, ◌+◌, ◌-◌, true, not, cond, List, [], ◌∷◌, ◌++◌, ◌≡◌, eqb, length, take, drop}
use Rattle.base_rows.specs.Refuse.{Row, row, first, unless, Says, accepted, refused}
use Rattle.film_settings.specs.declared.Settings.{Settings}
use Rattle.film_settings.specs.declared.Window.{Window}
use Rattle.film_settings.specs.declared.Footer.{Footer}
use Rattle.film_settings.specs.Settings.{bins_of, same_clip_of, setting_rows}
use Rattle.film_tiles.specs.Tiles.{foot_of}
use Rattle.film_prepare.specs.Prepare.{prepare_rows, PrepareOut, prepared_of}
use Rattle.film_record.specs.Held.{sides_rows, kept_rows, edition_rows, window_rows}
use Rattle.film_draw.specs.Draw.{pixel_rows, drawn_pixels, DrawOut, draw_leaves}
use Rattle.film_sets.specs.declared.Set.{Set}
use Rattle.film_sets.specs.declared.Room.{Room}
use Rattle.film_sets.specs.Sets.{set_for_of, held, span_of, among, before, set_of, start_of, part_of, fit_rows, with_set_of, without_set_of, moved_down}

-- ---- store

-- 35, "the number is already stored", and 36, "eight films are stored"
unfoldable pub place_rows : ℕ → Room → List Row
place_rows film room = row 35 (among film (held room)) ∷ row 36 (eqb room.count 8) ∷ []

-- 40, 35 and 36
unfoldable pub enter_rows : Room → ℕ → ℕ → List Row
enter_rows room film size = fit_rows room size ++ place_rows film room

-- a table with the number b in a's place, as in "37 in 11's place"
unfoldable pub instead : ℕ → ℕ → List Row → List Row
instead a b [] = []
instead a b (row n c ∷ rows) = row (cond (eqb n a) b n) c ∷ instead a b rows

-- "40, 35, 36 .., in this order, stand before the film's own checks, 37 in 11's place"; 37: "the free entries are fewer than the set needs"
unfoldable pub store_rows : (room : Room) (film w h : ℕ) (pic : List ℕ) (s : Settings) (size scratch list : ℕ) → List Row
store_rows room film w h pic s size scratch list =
    enter_rows room film size ++ instead 11 37 (prepare_rows w h pic s (size - span_of (held room)) scratch list)

-- what store leaves: its answer, which is its footer or a refusal, the room record, the buffer, the scratch and the list
pub record StoreOut : Type 0 where
  pub answer : Says Footer
  pub room : Room
  pub map : List ℕ
  pub scratch : List ℕ
  pub list : List ℕ

abbrev pub store_leaves : Says Footer → Room → List ℕ → List ℕ → List ℕ → StoreOut
store_leaves answer room m t n = record { answer = answer; room = room; map = m; scratch = t; list = n }

-- the film's mappings behind the last set, all else as prepare leaves it, and its set behind the last in the record
unfoldable pub stored_of : (room : Room) (film w h : ℕ) (pic : List ℕ) (s : Settings) (m t n : List ℕ) → StoreOut
stored_of room film w h pic s m t n =
    let a = span_of (held room) in
    let e : PrepareOut = prepared_of film w h pic s (drop a m) t n in
    store_leaves (accepted (foot_of w h s)) (with_set_of room (set_for_of film w h s)) (take a m ++ e.map) e.scratch e.list

unfoldable pub store_of : (room : Room) (film w h : ℕ) (pic : List ℕ) (s : Settings) (m t n : List ℕ) → StoreOut
store_of room film w h pic s m t n =
    unless (first (store_rows room film w h pic s (length m) (length t) (length n))) (λ k. store_leaves (refused k) room m t n) (stored_of room film w h pic s m t n)

-- ---- draw

-- 38: "draw or drop of a number that isn't stored"
unfoldable pub stored_rows : ℕ → Room → List Row
stored_rows film room = row 38 (not (among film (held room))) ∷ []

-- 15, of a set: another size, or other settings. Its number is the call's own, and its edges and centres follow from these
unfoldable pub set_rows : ℕ → ℕ → Settings → Set → List Row
set_rows w h s r =
    sides_rows w h r.width r.height ++ (kept_rows s r.settings ++ edition_rows s r.settings)

-- what the rows of 15 tell of a set where none applies: it was made for this size and these settings
pub record SetHeld (w h : ℕ) (s : Settings) (r : Set) : Type 0 where
  pub wide : w ≡ r.width
  pub high : h ≡ r.height
  pub across : s.across ≡ r.settings.across
  pub down : s.down ≡ r.settings.down
  pub bins : bins_of s ≡ bins_of r.settings
  pub least : s.min ≡ r.settings.min
  pub most : s.max ≡ r.settings.max
  pub clip : same_clip_of s.clip r.settings.clip ≡ true
  pub edition : s.edition ≡ r.settings.edition

-- "40 .. and 38, in this order, stand before the film's own checks ..; a room draw gives no 11"
unfoldable pub show_rows : (room : Room) (film w h : ℕ) (pic : List ℕ) (s : Settings) (win : Window) (m : List ℕ) (size : ℕ) → List Row
show_rows room film w h pic s win m size =
    fit_rows room (length m)
    ++ (stored_rows film room
    ++ (setting_rows w h (length pic) s
    ++ (set_rows w h s (set_of film (held room)) ++ (window_rows w h win size ++ pixel_rows w pic s win (part_of film (held room) m)))))

-- "draws as if it alone had been prepared": by draw's own rule from the set's entries
unfoldable pub show_of : (room : Room) (film w h : ℕ) (pic : List ℕ) (s : Settings) (win : Window) (m out : List ℕ) → DrawOut
show_of room film w h pic s win m out =
    unless (first (show_rows room film w h pic s win m (length out))) (λ n. draw_leaves (refused n) out)
    (draw_leaves (accepted tt) (drawn_pixels w h pic s win (part_of film (held room) m)))

-- ---- drop

unfoldable pub drop_rows : Room → ℕ → ℕ → List Row
drop_rows room film size = fit_rows room size ++ stored_rows film room

-- what drop leaves: its answer, which hands back no value or is a refusal, the room record and the buffer
pub record DropOut : Type 0 where
  pub answer : Says (Unit {0})
  pub room : Room
  pub map : List ℕ

abbrev pub drop_leaves : Says (Unit {0}) → Room → List ℕ → DropOut
drop_leaves answer room m = record { answer = answer; room = room; map = m }

-- "on a drop the later sets move down"
unfoldable pub dropped_of : Room → ℕ → List ℕ → DropOut
dropped_of room film m =
    let rs = held room in
    let i = before film rs in
    drop_leaves (accepted tt) (without_set_of room i) (moved_down m (start_of film rs) (span_of (take (i + 1) rs)) (span_of rs))

unfoldable pub drop_of : Room → ℕ → List ℕ → DropOut
drop_of room film m =
    unless (first (drop_rows room film (length m))) (λ n. drop_leaves (refused n) room m) (dropped_of room film m)
