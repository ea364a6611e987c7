-- Document 02, order 11: "After any sequence of stores, draws and drops from an empty room whose buffer nobody else writes and whose record is handed on as last
-- returned": such a sequence of runs of the three calls by their contracts (Runs), and what the room and its buffer hold then.
-- Assumes nothing.
use Prim.Native.Nat.{ℕ}
use mathlib.Core.List.{List, []}
use mathlib.Core.Path.{◌≡◌, sym, ap, ap₂, subst, ◌∙◌}
use native.Mathlib.Omega.{arith}
use lib.ListN.{length}
use Rattle.film_sets.specs.declared.Room.{Room}
use Rattle.film_sets.specs.Sets.{held, twice}
use Rattle.film_sets.proofs.Laid.{none}
use Rattle.film_sets.proofs.Holds.{held_none, twice_nil}
use Rattle.film_room.specs.Room.{StoreOut, store_of, DropOut, drop_of}
use Rattle.promise_room.proofs.Runs.{StoreCall, Stores, store_ends, ShowCall, RoomDraws, DropCall, Drops, drop_ends}
use Rattle.promise_room.proofs.Kept.{Kept, store_keeps, drop_keeps}
use Rattle.promise_room.specs.Films.{StoredFilm, films_after_store, films_after_drop}

-- the film that is handed to store
abbrev pub stored_film : StoreCall → StoredFilm
stored_film c = record { number = c.film; width = c.width; height = c.height; pixels = c.pixels; settings = c.settings }

-- the room record and the buffer as they were left last, and the films stored and not dropped. Each call is handed both as they were left ("whose buffer nobody else writes
-- and whose record is handed on as last returned"); a draw hands nothing back of either. The room record holds eight places, as the type of its array says.
pub data History : Room → List ℕ → List StoredFilm → Type 0 where
  begin : (room : Room) (m : List ℕ) → room.count ≡ 0 → length room.sets ≡ 8 → History room m []
  stores : {room : Room} {m : List ℕ} {fs : List StoredFilm} → History room m fs → (c : StoreCall) → Stores c → c.room ≡ room → c.map ≡ m
      → History c.room' c.map' (films_after_store c.answer (stored_film c) fs)
  draws : {room : Room} {m : List ℕ} {fs : List StoredFilm} → History room m fs → (c : ShowCall) → RoomDraws c → c.room ≡ room → c.map ≡ m → History room m fs
  drops : {room : Room} {m : List ℕ} {fs : List StoredFilm} → History room m fs → (c : DropCall) → Drops c → c.room ≡ room → c.map ≡ m
      → History c.room' c.map' (films_after_drop c.answer c.film fs)

-- the sets held are the films' own, in order; each film's entries hold its mappings, at the factor 1.0 whatever stood there; no number stands there twice, and there are at most eight
pub history_kept : {room : Room} {m : List ℕ} {fs : List StoredFilm} → History room m fs → Kept room m fs
history_kept (begin room m none_yet eight) = record { sets = empty; laid = none; numbers = ap twice empty ∙ twice_nil; few = omega arith; places = eight }
  where
    empty : held room ≡ []
    empty = held_none room none_yet
history_kept (stores {room} {m} {fs} before-it c ran same-room same_map) =
    subst (λ (z : StoreOut). Kept z.room z.map (films_after_store z.answer (stored_film c) fs))
    (sym (store_ends ran ∙ ap₂ (λ x y. store_of x c.film c.width c.height c.pixels c.settings y c.scratch c.list) same-room same_map))
    (store_keeps (history_kept before-it) (stored_film c) c.scratch c.list)
history_kept (draws before-it c ran same-room same_map) = history_kept before-it
history_kept (drops {room} {m} {fs} before-it c ran same-room same_map) =
    subst (λ (z : DropOut). Kept z.room z.map (films_after_drop z.answer c.film fs))
    (sym (drop_ends ran ∙ ap₂ (λ x y. drop_of x c.film y) same-room same_map))
    (drop_keeps (history_kept before-it) c.film)
