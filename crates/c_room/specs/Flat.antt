-- A room record as the calls for C pass it, and what tz_room_store, tz_room_draw and tz_room_drop leave: 0 or the refusal's number, and all lent memory and cells.
-- The quoted sentences are those of order 11, of document 01, "What each call hands back", and of document 00, demand 1.
-- Assumes nothing.
use Rattle.std.specs.Prelude.{ℕ, ◌+◌, ◌*◌, List, [], ◌∷◌, Float, get_or}
use Rattle.std.specs.Float.{nan}
use Rattle.base_lists.specs.Lists.{tab, joined}
use Rattle.base_rows.specs.Refuse.{Says, accepted, refused}
use Rattle.film_settings.specs.declared.Footer.{Footer}
use Rattle.film_sets.specs.declared.Set.{Set}
use Rattle.film_sets.specs.declared.Room.{Room}
use Rattle.film_sets.specs.Sets.{no_set_of}
use Rattle.film_room.specs.Room.{StoreOut, DropOut}
use Rattle.c_flat.specs.Flat.{settings_from_of, clip_number_of, clip_factor_of, edition_number_of}
use Rattle.c_flat.specs.Films.{Foot, foot_after}

-- ---- a room record in cells

-- how many sets are stored, ten numbers for each of the eight places, and a factor for each
pub record RoomCells : Type 0 where
  pub count : ℕ
  pub numbers : List ℕ
  pub factors : List Float

-- the cells as one
abbrev pub room_cells_from : ℕ → List ℕ → List Float → RoomCells
room_cells_from count numbers factors = record { count = count; numbers = numbers; factors = factors }

-- the set in place i: film, width, height, across, down, bins, min, max, clip, edition, and its factor
abbrev pub set_from_of : List ℕ → List Float → ℕ → Set
set_from_of l fs i =
    record {
      film = get_or l (i * 10) 0;
      width = get_or l (i * 10 + 1) 0;
      height = get_or l (i * 10 + 2) 0;
      settings =
          settings_from_of (get_or l (i * 10 + 3) 0) (get_or l (i * 10 + 4) 0) (get_or l (i * 10 + 5) 0) (get_or l (i * 10 + 6) 0) (get_or l (i * 10 + 7) 0) (get_or l (i * 10 + 8) 0)
          (get_or fs i nan) (get_or l (i * 10 + 9) 0);
    }

-- the room that the cells hold
unfoldable pub room_from_of : RoomCells → Room
room_from_of c = record { count = c.count; sets = tab 8 (set_from_of c.numbers c.factors) }

-- a set's ten numbers
abbrev pub set_numbers_of : Set → List ℕ
set_numbers_of r =
    r.film
    ∷ r.width
    ∷ r.height
    ∷ r.settings.across
    ∷ r.settings.down
    ∷ r.settings.bins
    ∷ r.settings.min
    ∷ r.settings.max
    ∷ clip_number_of r.settings.clip
    ∷ edition_number_of r.settings.edition
    ∷ []

-- those of all eight places
unfoldable pub room_numbers_of : Room → List ℕ
room_numbers_of room = joined 8 (λ i. set_numbers_of (get_or room.sets i no_set_of))

-- the factor in place i, 0.0 where clip is off
abbrev pub factor_at : Room → ℕ → Float
factor_at room i = clip_factor_of (get_or room.sets i no_set_of).settings.clip

-- those of all eight places
unfoldable pub room_factors_of : Room → List Float
room_factors_of room = tab 8 (factor_at room)

-- the cells that hold a room
abbrev pub cells_of : Room → RoomCells
cells_of room = room_cells_from room.count (room_numbers_of room) (room_factors_of room)

-- ---- tz_room_store

-- a number, the footer's cells and the room's
pub record StoredCells : Type 0 where
  pub number : ℕ
  pub foot : Foot
  pub room : RoomCells

abbrev pub stored_cells_from : ℕ → Foot → RoomCells → StoredCells
stored_cells_from n foot room = record { number = n; foot = foot; room = room }

-- a stored film's footer and the room in their cells; "after a refusal all lent memory holds what it held before"
abbrev pub stored_cells : Says Footer → Room → Foot → RoomCells → StoredCells
stored_cells (accepted f) room foot cells = stored_cells_from 0 (foot_after f) (cells_of room)
stored_cells (refused n) room foot cells = stored_cells_from n foot cells

-- what tz_room_store leaves: its number, the buffer, the scratch, the list and the cells of footer and room
pub record FlatStored : Type 0 where
  pub number : ℕ
  pub map : List ℕ
  pub scratch : List ℕ
  pub list : List ℕ
  pub foot : Foot
  pub room : RoomCells

abbrev pub stored_as : (n : ℕ) (m t list : List ℕ) (foot : Foot) (room : RoomCells) → FlatStored
stored_as n m t list foot room = record { number = n; map = m; scratch = t; list = list; foot = foot; room = room }

-- from what store leaves, and what the cells held before
unfoldable pub flat_stored : StoreOut → Foot → RoomCells → FlatStored
flat_stored k foot cells =
    let c : StoredCells = stored_cells k.answer k.room foot cells in
    stored_as c.number k.map k.scratch k.list c.foot c.room

-- ---- tz_room_drop

-- a number and the room's cells
pub record DroppedCells : Type 0 where
  pub number : ℕ
  pub room : RoomCells

abbrev pub dropped_cells_from : ℕ → RoomCells → DroppedCells
dropped_cells_from n room = record { number = n; room = room }

-- the room that is left in its cells; a refusal leaves what stood there
abbrev pub dropped_cells : Says (Unit {0}) → Room → RoomCells → DroppedCells
dropped_cells (accepted v) room cells = dropped_cells_from 0 (cells_of room)
dropped_cells (refused n) room cells = dropped_cells_from n cells

-- what tz_room_drop leaves: its number, the buffer and the room's cells
pub record FlatDropped : Type 0 where
  pub number : ℕ
  pub map : List ℕ
  pub room : RoomCells

abbrev pub dropped_as : ℕ → List ℕ → RoomCells → FlatDropped
dropped_as n m room = record { number = n; map = m; room = room }

-- from what drop leaves, and what the cells held before
unfoldable pub flat_dropped : DropOut → RoomCells → FlatDropped
flat_dropped l cells =
    let c : DroppedCells = dropped_cells l.answer l.room cells in
    dropped_as c.number l.map c.room
