-- A draw from the room of a film that is stored and not dropped is draw's call of the film alone, from what prepare's outcome gives for it: what was said once of that outcome is so of it.
-- A name with ' is lent memory at the end.
-- Assumes nothing.
use Prim.Native.Nat.{ℕ, ◌+◌, ◌*◌, ◌≤◌, ◌<◌}
use mathlib.Core.Bool.{false}
use mathlib.Core.List.{List}
use mathlib.Core.Path.{◌≡◌, refl, ap, ap₂, subst, ◌∙◌}
use lib.ListN.{length, take, get_or}
use Rattle.base_lists.specs.Lists.{tab}
use Rattle.base_lists.proofs.Tabs.{length_tab}
use Rattle.base_lists.proofs.Fills.{take_onto}
use Rattle.base_rows.specs.Refuse.{first, says, accepted}
use Rattle.film_settings.specs.Settings.{bins_of, entries_of, record_of, clip_one_of}
use Rattle.film_tiles.specs.Tiles.{mappings, spent_entries, foot_of}
use Rattle.film_tiles.proofs.Films.{length_mappings}
use Rattle.film_prepare.specs.Prepare.{prepare_rows, PrepareOut, prepare_of}
use Rattle.film_draw.specs.Draw.{DrawOut, draw_leaves, draw_of}
use Rattle.promise_films.proofs.Accepted.{table_says, prepare_table}
use Rattle.promise_films.proofs.Reuse.{left_laid, left_room}
use Rattle.promise_films.proofs.Runs.{DrawCall}
use Rattle.film_sets.specs.declared.Room.{Room}
use Rattle.film_sets.proofs.Laid.{laid_at}
use Rattle.film_room.specs.Room.{show_of}
use Rattle.film_room.proofs.Shows.{show_kept}
use Rattle.promise_room.proofs.Kept.{FilmGood, Kept}
use Rattle.promise_room.specs.Films.{StoredFilm, film_size}
use Rattle.promise_room.proofs.Runs.{ShowCall, RoomDraws, show_ends}
use Rattle.promise_room.proofs.Histories.{History, history_kept}
use Rattle.promise_room.proofs.Alone.{Among, among_alone, OfFilm, of_film}
use Rattle.promise_films.proofs.Made.{Made, HandedFilm}
use Rattle.promise_films.proofs.Ended.{Shown}
use Rattle.promise_reach.proofs.Rendered.{Film}
use Rattle.promise_reach.proofs.Shown.{Seen, shown_seen}

-- a draw from the room, as it was left, of a film that is stored and not dropped: its number, sizes and pixels, and settings that are kept as its own
pub record DrawnFromRoom (f : StoredFilm) (c : ShowCall) : Type 0 where
  pub room : Room
  pub map : List ℕ
  pub films : List StoredFilm
  pub history : History room map films
  pub among : Among f films
  pub draws : RoomDraws c
  pub same_room : c.room ≡ room
  pub same_map : c.map ≡ map
  pub film : OfFilm f c.film c.width c.height c.pixels c.settings

-- the grey in column i and row j of what it left
abbrev pub room_grey : ShowCall → ℕ → ℕ → ℕ
room_grey c i j = get_or c.out' (j * c.window.width + i) 0

-- draw's call of the film alone, with this map buffer, that ended as the room's draw did
abbrev pub as_draw : StoredFilm → ShowCall → List ℕ → DrawCall
as_draw f c map =
    record { film = f.number; width = f.width; height = f.height; pixels = f.pixels; settings = f.settings; kept = record_of f.number f.width f.height f.settings; window = c.window; map = map; out = c.out; answer = c.answer; out' = c.out' }

module _ {f : StoredFilm} {c : ShowCall} (from : DrawnFromRoom f c) where
  kept : Kept from.room from.map from.films
  kept = history_kept from.history

  -- prepare accepts the film alone, in buffers that are just long enough
  good : first (prepare_rows f.width f.height f.pixels f.settings (entries_of f.settings) (bins_of f.settings) (spent_entries f.settings)) ≡ 0
  good =
      subst (λ (g : StoredFilm). first (prepare_rows g.width g.height g.pixels g.settings (entries_of g.settings) (bins_of g.settings) (spent_entries g.settings)) ≡ 0) from.among.is
      (laid_at film_size FilmGood kept.laid from.among.place f from.among.inside).accepts

  abbrev m : List ℕ
  m = tab (entries_of f.settings) (λ k. 0)

  abbrev t : List ℕ
  t = tab (bins_of f.settings) (λ k. 0)

  abbrev n : List ℕ
  n = tab (spent_entries f.settings) (λ k. 0)

  abbrev pub left : PrepareOut
  left = prepare_of f.number f.width f.height f.pixels f.settings m t n

  done : left.answer ≡ accepted (record_of f.number f.width f.height f.settings, foot_of f.width f.height f.settings)
  done =
      table_says (prepare_table f.number f.width f.height f.pixels f.settings m t n)
      ∙ ap (λ n. says n (record_of f.number f.width f.height f.settings, foot_of f.width f.height f.settings))
      (ap (λ a. first (prepare_rows f.width f.height f.pixels f.settings a (length t) (length n))) (length_tab (entries_of f.settings) (λ k. 0))
      ∙ ap₂ (λ a b. first (prepare_rows f.width f.height f.pixels f.settings (entries_of f.settings) a b)) (length_tab (bins_of f.settings) (λ k. 0)) (length_tab (spent_entries f.settings) (λ k. 0))
      ∙ good)

  enough : entries_of f.settings ≤ length left.map
  enough = left_room f.number f.width f.height f.pixels f.settings m t n done

  front : clip_one_of f.settings.clip ≡ false → take (entries_of f.settings) left.map ≡ mappings f.width f.height f.pixels f.settings
  front changes =
      ap (take (entries_of f.settings)) (left_laid f.number f.width f.height f.pixels f.settings m t n done changes)
      ∙ take_onto m (mappings f.width f.height f.pixels f.settings) (entries_of f.settings) (length_mappings f.width f.height f.pixels f.settings)

  abbrev drawn : DrawOut
  drawn = draw_of f.number f.width f.height f.pixels f.settings (record_of f.number f.width f.height f.settings) c.window left.map c.out

  shows : draw_leaves c.answer c.out' ≡ drawn
  shows =
      show_ends from.draws
      ∙ of_film (λ n w h pic s. show_of c.room n w h pic s c.window c.map c.out) (λ n w h pic s. show_kept c.room n w h pic s c.window c.map c.out) from.film
      ∙ rw (from.same_room, from.same_map) (among_alone kept from.among c.window c.out left.map enough front)

  -- so it shows what draw does of the film alone, from what prepare's outcome gives for it
  pub room_made : Made f.number f.width f.height f.pixels f.settings (record_of f.number f.width f.height f.settings) (foot_of f.width f.height f.settings) left.map
  room_made = record { map = m; scratch = t; list = n; accepts = done; leaves = refl }

  pub room_shown : Shown (as_draw f c left.map)
  room_shown = record { ends = shows }

  -- handed a window inside it and an output of its area
  pub room_handed : 0 < c.window.width → 0 < c.window.height → c.window.left + c.window.width ≤ f.width → c.window.top + c.window.height ≤ f.height
      → length c.out ≡ c.window.height * c.window.width → HandedFilm f.number f.width f.height f.pixels f.settings left.map (as_draw f c left.map)
  room_handed wide high across down area =
      record { film = refl; width = refl; height = refl; pixels = refl; rest = record { like = refl; long = enough; front = λ changes. refl; wide = wide; high = high; across = across; down = down; area = area } }

-- a film of the room without its number
abbrev pub picture_of : StoredFilm → Film
picture_of f = record { width = f.width; height = f.height; settings = f.settings; pixels = f.pixels }

-- a pixel of what a room draw that is done left
pub room_seen : {f : StoredFilm} {c : ShowCall} → DrawnFromRoom f c → c.answer ≡ accepted tt → {i j : ℕ} → i < c.window.width → j < c.window.height
    → Seen (picture_of f) (c.window.left + i) (c.window.top + j) (room_grey c i j)
room_seen from done l k = shown_seen (room_made from) (room_shown from) done refl (λ q. refl) l k
