-- What order 11's promises through C speak of and are proved with: "After any sequence of stores, draws and drops from an empty room whose buffer nobody else writes and whose record is handed on as
-- last returned, each film stored and not dropped, its pixels unchanged since, draws as if it alone had been prepared."
-- Of every run of the calls by their contracts (Runs); a name with ' is lent memory, or the room record's cells, at the end, and 0 is returned where nothing is refused.
-- Assumes nothing.
use Prim.Native.Nat.{ℕ, zero, suc, ◌+◌}
use mathlib.Core.List.{List, [], ◌∷◌, ◌++◌}
use mathlib.Core.Path.{◌≡◌, refl, sym, ap, ap₂, subst, ◌∙◌}
use native.Mathlib.Omega.{arith}
use lib.ListN.{length, take, drop}
use Rattle.base_lists.proofs.Tabs.{length_tab}
use Rattle.base_rows.specs.Refuse.{first}
use Rattle.film_prepare.specs.Prepare.{prepared_of}
use Rattle.film_sets.specs.declared.Room.{Room}
use Rattle.film_sets.specs.Sets.{held, span_of, twice, before, with_set_of, without_set_of, moved_down}
use Rattle.film_sets.proofs.Laid.{none}
use Rattle.film_sets.proofs.Holds.{held_none, twice_nil}
use Rattle.film_room.specs.Room.{store_rows, stored_of, store_of, drop_rows, dropped_of, drop_of}
use Rattle.promise_room.specs.Films.{StoredFilm, film_set, without}
use Rattle.promise_room.proofs.Kept.{Kept, stores_of, store_kept, drop_kept}
use Rattle.c_flat.specs.Films.{Foot}
use Rattle.c_room.specs.Flat.{RoomCells, room_from_of, FlatStored, flat_stored, FlatDropped, flat_dropped}
use Rattle.c_room.proofs.Handed.{room_back}
use Rattle.promise_c.proofs.Runs.{TzStoreCall, TzStores, tz_store_ends, TzShowCall, TzShows, TzDropCall, TzDrops, tz_drop_ends}

-- the film that is handed to tz_room_store
abbrev pub tz_film : TzStoreCall → StoredFilm
tz_film c = record { number = c.film; width = c.width; height = c.height; pixels = c.pixels; settings = c.settings }

-- the films that are stored and not dropped, behind a store that returned k
abbrev pub stored_by : ℕ → StoredFilm → List StoredFilm → List StoredFilm
stored_by zero f fs = fs ++ (f ∷ [])
stored_by (suc k) f fs = fs

-- and behind a drop of number n that returned k
abbrev pub dropped_by : ℕ → ℕ → List StoredFilm → List StoredFilm
dropped_by zero n fs = without n fs
dropped_by (suc k) n fs = fs

-- the cells of the room record and the buffer as they were left last, and the films stored and not dropped. Each call is handed both as they were left
pub data TzHistory : RoomCells → List ℕ → List StoredFilm → Type 0 where
  begin : (cells : RoomCells) (m : List ℕ) → cells.count ≡ 0 → TzHistory cells m []
  stores : {cells : RoomCells} {m : List ℕ} {fs : List StoredFilm} → TzHistory cells m fs → (c : TzStoreCall) → TzStores c → c.room ≡ cells → c.map ≡ m
      → TzHistory c.room' c.map' (stored_by c.number (tz_film c) fs)
  draws : {cells : RoomCells} {m : List ℕ} {fs : List StoredFilm} → TzHistory cells m fs → (c : TzShowCall) → TzShows c → c.room ≡ cells → c.map ≡ m → TzHistory cells m fs
  drops : {cells : RoomCells} {m : List ℕ} {fs : List StoredFilm} → TzHistory cells m fs → (c : TzDropCall) → TzDrops c → c.room ≡ cells → c.map ≡ m
      → TzHistory c.room' c.map' (dropped_by c.number c.film fs)

-- a room read from cells has eight places
places_from : (cells : RoomCells) → length (room_from_of cells).sets ≡ 8
unfolding room_from_of
places_from cells = length_tab 8 _

count_from : (cells : RoomCells) → (room_from_of cells).count ≡ cells.count
unfolding room_from_of
count_from cells = refl

-- what tz_room_store leaves of a room that holds these films
store_left : (cells : RoomCells) {m : List ℕ} {fs : List StoredFilm} → Kept (room_from_of cells) m fs → (f : StoredFilm) (t ls : List ℕ) (foot : Foot)
    → Kept (room_from_of (flat_stored (stores_of (room_from_of cells) f m t ls) foot cells).room) (flat_stored (stores_of (room_from_of cells) f m t ls) foot cells).map (stored_by (flat_stored (stores_of (room_from_of cells) f m t ls) foot cells).number f fs)
unfolding flat_stored store_of stored_of
store_left cells {m} {fs} kept f t ls foot =
    go (first (store_rows (room_from_of cells) f.number f.width f.height f.pixels f.settings (length m) (length t) (length ls))) refl
  where
    a : ℕ
    a = span_of (held (room_from_of cells))

    go : (n : ℕ) → first (store_rows (room_from_of cells) f.number f.width f.height f.pixels f.settings (length m) (length t) (length ls)) ≡ n
        → Kept (room_from_of (flat_stored (stores_of (room_from_of cells) f m t ls) foot cells).room) (flat_stored (stores_of (room_from_of cells) f m t ls) foot cells).map (stored_by (flat_stored (stores_of (room_from_of cells) f m t ls) foot cells).number f fs)
    go zero e =
        let k : Kept (with_set_of (room_from_of cells) (film_set f)) (take a m ++ (prepared_of f.number f.width f.height f.pixels f.settings (drop a m) t ls).map) (fs ++ (f ∷ [])) = store_kept kept f t ls e in
        rw e
        (subst (λ (r : Room). Kept r (take a m ++ (prepared_of f.number f.width f.height f.pixels f.settings (drop a m) t ls).map) (fs ++ (f ∷ [])))
        (sym (room_back (with_set_of (room_from_of cells) (film_set f)) k.places)) k)
    go (suc n) e = rw e kept

-- and tz_room_drop
drop_left : (cells : RoomCells) {m : List ℕ} {fs : List StoredFilm} → Kept (room_from_of cells) m fs → (n : ℕ)
    → Kept (room_from_of (flat_dropped (drop_of (room_from_of cells) n m) cells).room) (flat_dropped (drop_of (room_from_of cells) n m) cells).map (dropped_by (flat_dropped (drop_of (room_from_of cells) n m) cells).number n fs)
unfolding flat_dropped drop_of dropped_of
drop_left cells {m} {fs} kept n = go (first (drop_rows (room_from_of cells) n (length m))) refl
  where
    go : (k : ℕ) → first (drop_rows (room_from_of cells) n (length m)) ≡ k
        → Kept (room_from_of (flat_dropped (drop_of (room_from_of cells) n m) cells).room) (flat_dropped (drop_of (room_from_of cells) n m) cells).map (dropped_by (flat_dropped (drop_of (room_from_of cells) n m) cells).number n fs)
    go zero e =
        let k = drop_kept kept n e in
        rw e
        (subst (λ (r : Room). Kept r (moved_down m (span_of (take (before n (held (room_from_of cells))) (held (room_from_of cells)))) (span_of (take (before n (held (room_from_of cells)) + 1) (held (room_from_of cells)))) (span_of (held (room_from_of cells)))) (without n fs))
        (sym (room_back (without_set_of (room_from_of cells) (before n (held (room_from_of cells)))) k.places)) k)
    go (suc k) e = rw e kept

-- the sets held are the films' own, in order, each with its own mappings
pub history_kept : {cells : RoomCells} {m : List ℕ} {fs : List StoredFilm} → TzHistory cells m fs → Kept (room_from_of cells) m fs
history_kept (begin cells m none_yet) = record { sets = empty; laid = none; numbers = ap twice empty ∙ twice_nil; few = omega (arith, count_from cells, none_yet); places = places_from cells }
  where
    empty : held (room_from_of cells) ≡ []
    empty = held_none (room_from_of cells) (count_from cells ∙ none_yet)
history_kept (stores {cells} {m} {fs} before-it c ran same-room same_map) =
    subst (λ (z : FlatStored). Kept (room_from_of z.room) z.map (stored_by z.number (tz_film c) fs))
    (sym (tz_store_ends ran ∙ ap₂ (λ x y. flat_stored (stores_of (room_from_of x) (tz_film c) y c.scratch c.list) c.foot x) same-room same_map))
    (store_left cells (history_kept before-it) (tz_film c) c.scratch c.list c.foot)
history_kept (draws before-it c ran same-room same_map) = history_kept before-it
history_kept (drops {cells} {m} {fs} before-it c ran same-room same_map) =
    subst (λ (z : FlatDropped). Kept (room_from_of z.room) z.map (dropped_by z.number c.film fs))
    (sym (tz_drop_ends ran ∙ ap₂ (λ x y. flat_dropped (drop_of (room_from_of x) c.film y) x) same-room same_map))
    (drop_left cells (history_kept before-it) c.film)
