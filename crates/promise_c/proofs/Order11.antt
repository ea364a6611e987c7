-- Order 11 through C: "After any sequence of stores, draws and drops from an empty room whose buffer nobody else writes and whose record is handed on as last returned, each film stored and not
-- dropped, its pixels unchanged since, draws as if it alone had been prepared."
-- Promises alone: of every run of the calls by their contracts (Runs), each listed in docs/PROMISES.md. A name with ' is lent memory, or the room record's cells, at the end, and 0 is returned where nothing is refused.
-- Assumes nothing.
use Prim.Native.Nat.{ℕ}
use mathlib.Core.List.{List, []}
use mathlib.Core.Path.{◌≡◌, refl, ap, ◌∙◌}
use Rattle.film_settings.specs.declared.Footer.{Footer}
use Rattle.film_draw.specs.Draw.{draw_leaves}
use Rattle.film_sets.specs.Sets.{empty_room}
use Rattle.film_room.specs.Room.{show_of}
use Rattle.film_room.proofs.Shows.{show_kept}
use Rattle.promise_films.proofs.Runs.{PrepareCall, DrawCall}
use Rattle.promise_room.specs.Films.{StoredFilm}
use Rattle.promise_room.proofs.Kept.{Kept}
use Rattle.promise_room.proofs.Alone.{Among, OfFilm, of_film, Alone, alone_shows}
use Rattle.c_flat.specs.Flat.{returned}
use Rattle.c_flat.specs.Films.{FlatDrawn, flat_drawn, drawn_as}
use Rattle.c_room.specs.Flat.{RoomCells, room_from_of, cells_of}
use Rattle.promise_c.proofs.Runs.{TzShowCall, TzShows, tz_show_ends}
use Rattle.promise_c.proofs.Rooms.{begin, TzHistory, history_kept}

-- so a room begins with the cells that tz_room_empty writes, and with any whose count is 0
pub tz_empty_begins : (m : List ℕ) → TzHistory (cells_of empty_room) m []
unfolding empty_room
tz_empty_begins m = begin (cells_of empty_room) m refl

-- the sets held are the films' own, in order, each with its own mappings
pub tz_room_kept : {cells : RoomCells} {m : List ℕ} {fs : List StoredFilm} → TzHistory cells m fs → Kept (room_from_of cells) m fs
tz_room_kept = history_kept

-- "each film stored and not dropped, its pixels unchanged since, draws as if it alone had been prepared": tz_room_draw returns the number of that film's own draw and leaves its output
pub tz_room_as_alone : {f : StoredFilm} {p : PrepareCall} {foot : Footer} {d : DrawCall} → Alone f p foot d → {cells : RoomCells} {m : List ℕ} {fs : List StoredFilm} → TzHistory cells m fs → Among f fs
    → (c : TzShowCall) → TzShows c → c.room ≡ cells → c.map ≡ m → OfFilm f c.film c.width c.height c.pixels c.settings
    → c.window ≡ d.window → c.out ≡ d.out → (c.number ≡ returned (d.answer)) × (c.out' ≡ d.out')
unfolding flat_drawn
tz_room_as_alone {f} {p} {foot} {d} alone {cells} {m} {fs} history among c ran same-room same_map of same-window same_out =
    let alike : show_of (room_from_of c.room) c.film c.width c.height c.pixels c.settings c.window c.map c.out ≡ draw_leaves d.answer d.out' =
    of_film (λ n w h pic s. show_of (room_from_of c.room) n w h pic s c.window c.map c.out) (λ n w h pic s. show_kept (room_from_of c.room) n w h pic s c.window c.map c.out) of
    ∙ rw (same-room, same_map, same-window, same_out) (alone_shows alone (history_kept history) among) in
    let shown : drawn_as c.number c.out' ≡ flat_drawn (draw_leaves d.answer d.out') = tz_show_ends ran ∙ ap flat_drawn alike in
    (ap (λ (z : FlatDrawn). z.number) shown, ap (λ (z : FlatDrawn). z.out) shown)
