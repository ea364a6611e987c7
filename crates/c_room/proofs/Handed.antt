-- What the room's calls gave is handed on: one law for each answer; and a room record that was handed out and is handed back is the same.
-- Assumes nothing.
use Prim.Native.Nat.{ℕ, ◌+◌, ◌*◌, ◌<◌}
use mathlib.Core.List.{List}
use mathlib.Core.Path.{◌≡◌, refl, sym, ap, ◌∙◌}
use native.Mathlib.Nat.{add-zero}
use native.Mathlib.Omega.{arith}
use lib.Ieee.{nan}
use lib.ListN.{length, get_or}
use Rattle.std.proofs.Common.{Result, Ok, Err}
use Rattle.base_rows.specs.declared.Refusal.{Refusal}
use Rattle.base_rows.specs.Refuse.{Says}
use Rattle.base_rows.specs.Given.{number_of, said}
use Rattle.base_lists.specs.Lists.{tab}
use Rattle.base_lists.proofs.Tabs.{get_or_tab, tab_cong, tab_all}
use Rattle.base_lists.proofs.Blocks.{get_or_joined}
use Rattle.pixel_grid.specs.Grid.{no_axis_of}
use Rattle.film_settings.specs.declared.Settings.{Settings}
use Rattle.film_settings.specs.declared.MapRecord.{MapRecord}
use Rattle.film_settings.specs.declared.Footer.{Footer}
use Rattle.film_sets.specs.declared.Set.{Set}
use Rattle.film_sets.specs.declared.Room.{Room}
use Rattle.film_sets.specs.Sets.{no_set_of}
use Rattle.film_room.specs.Room.{StoreOut, store_leaves, DropOut, drop_leaves}
use Rattle.c_flat.specs.Flat.{settings_from_of, clip_number_of, clip_factor_of, edition_number_of}
use Rattle.c_flat.specs.Films.{Foot, foot_after}
use Rattle.c_flat.proofs.Handed.{record_back}
use Rattle.c_room.specs.Flat.{RoomCells, set_from_of, room_from_of, set_numbers_of, room_numbers_of, factor_at, room_factors_of, cells_of, stored_cells_from, stored_cells, stored_as, flat_stored, dropped_cells_from, dropped_cells, dropped_as, flat_dropped}

-- ---- store

-- a stored film's footer and the room stand in their cells
pub stored_done : (a : Result Footer Refusal) (room : Room) (foot : Foot) (old : RoomCells) {f : Footer} {y : Foot} {cells : RoomCells}
    → a ≡ Ok f → y ≡ foot_after f → cells ≡ cells_of room → stored_cells_from 0 y cells ≡ stored_cells (said a) room foot old
stored_done a room foot old q y c = rw (q, y, c) refl

-- a refusal leaves them
pub stored_refused : (a : Result Footer Refusal) (room : Room) (foot : Foot) (old : RoomCells) {r : Refusal} {n : ℕ} → a ≡ Err r → n ≡ number_of r
    → stored_cells_from n foot old ≡ stored_cells (said a) room foot old
stored_refused a room foot old q n = rw (q, n) refl

-- so what store leaves and what was handed out are what the call for C leaves
pub stored_handed : {a : Says Footer} {room : Room} {m t ls : List ℕ} (k : StoreOut) (foot : Foot) (old : RoomCells) {n : ℕ} {y : Foot} {cells : RoomCells}
    → store_leaves a room m t ls ≡ k → stored_cells_from n y cells ≡ stored_cells a room foot old → stored_as n m t ls y cells ≡ flat_stored k foot old
unfolding flat_stored
stored_handed {m = m} {t = t} {ls = ls} k foot old q h = rw (← q) (ap (λ z. stored_as z.number m t ls z.foot z.room) h)

-- ---- drop

pub dropped_done : (a : Result (Unit {0}) Refusal) (room : Room) (old : RoomCells) {v : Unit {0}} {cells : RoomCells} → a ≡ Ok v → cells ≡ cells_of room
    → dropped_cells_from 0 cells ≡ dropped_cells (said a) room old
dropped_done a room old q c = rw (q, c) refl

pub dropped_refused : (a : Result (Unit {0}) Refusal) (room : Room) (old : RoomCells) {r : Refusal} {n : ℕ} → a ≡ Err r → n ≡ number_of r
    → dropped_cells_from n old ≡ dropped_cells (said a) room old
dropped_refused a room old q n = rw (q, n) refl

pub dropped_handed : {a : Says (Unit {0})} {room : Room} {m : List ℕ} (l : DropOut) (old : RoomCells) {n : ℕ} {cells : RoomCells}
    → drop_leaves a room m ≡ l → dropped_cells_from n cells ≡ dropped_cells a room old → dropped_as n m cells ≡ flat_dropped l old
unfolding flat_dropped
dropped_handed {m = m} l old q h = rw (← q) (ap (λ z. dropped_as z.number m z.room) h)

-- ---- a room record handed out and handed back

-- the settings of a set from their numbers, factor apart
settings_back : (s : Settings) → settings_from_of s.across s.down s.bins s.min s.max (clip_number_of s.clip) (clip_factor_of s.clip) (edition_number_of s.edition) ≡ s
settings_back s =
    let r : MapRecord = record { film = 0; width = 0; height = 0; settings = s; columns = no_axis_of; rows = no_axis_of } in
    ap (λ (q : MapRecord). q.settings) (record_back r)

module _ (room : Room) where
  abbrev own : ℕ → List ℕ
  own i = set_numbers_of (get_or room.sets i no_set_of)

  -- number k of the set in place i
  number_at : (i k : ℕ) → i < 8 → k < 10 → get_or (room_numbers_of room) (i * 10 + k) 0 ≡ get_or (own i) k 0
  unfolding room_numbers_of
  number_at i k l h = get_or_joined 10 8 own (λ j q. refl) i k 0 l h

  factor_at_lem : (i : ℕ) → i < 8 → get_or (room_factors_of room) i nan ≡ factor_at room i
  unfolding room_factors_of
  factor_at_lem i l = get_or_tab 8 (factor_at room) i nan l

  set_back : (i : ℕ) → i < 8 → set_from_of (room_numbers_of room) (room_factors_of room) i ≡ get_or room.sets i no_set_of
  set_back i l =
      rw (
        ap (λ k. get_or (room_numbers_of room) k 0) (sym (add-zero (i * 10))) ∙ number_at i 0 l (omega arith),
        number_at i 1 l (omega arith),
        number_at i 2 l (omega arith),
        number_at i 3 l (omega arith),
        number_at i 4 l (omega arith),
        number_at i 5 l (omega arith),
        number_at i 6 l (omega arith),
        number_at i 7 l (omega arith),
        number_at i 8 l (omega arith),
        number_at i 9 l (omega arith),
        factor_at_lem i l,
      )
      (ap (λ s. record { film = r.film; width = r.width; height = r.height; settings = s }) (settings_back r.settings))
    where
      r : Set
      r = get_or room.sets i no_set_of

  -- the cells that a call hands out are read by the next as the same room, whose record has eight places
  pub room_back : length room.sets ≡ 8 → room_from_of (cells_of room) ≡ room
  unfolding room_from_of
  room_back eight =
      ap (λ rs. record { count = room.count; sets = rs })
      (tab_cong 8 (λ i l. set_back i l) ∙ ap (λ n. tab n (λ i. get_or room.sets i no_set_of)) (sym eight) ∙ tab_all room.sets no_set_of)
