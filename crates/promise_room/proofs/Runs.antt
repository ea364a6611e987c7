-- The room's calls by the names of their arguments: store, draw and drop. A name with ' is lent memory, or the room record, at the end.
-- The only file that counts their parameters, in their order in the source. That each name is the contract's own is checked by the laws `..-ends`.
-- Assumes nothing.
use Prim.Native.Nat.{ℕ}
use mathlib.Core.List.{List}
use mathlib.Core.Path.{◌≡◌}
use Rattle.base_rows.specs.Given.{said}
use Rattle.base_rows.specs.Refuse.{Says}
use Rattle.base_rows.specs.Run.{Run, Ran}
use Rattle.film_settings.specs.declared.Settings.{Settings}
use Rattle.film_settings.specs.declared.Footer.{Footer}
use Rattle.film_settings.specs.declared.Window.{Window}
use Rattle.film_draw.specs.Draw.{draw_leaves}
use Rattle.film_sets.specs.declared.Room.{Room}
use Rattle.film_room.specs.Room.{store_leaves, store_of, show_of, drop_leaves, drop_of}
use Rattle.film_room.proofs.store.Kinds as store
use Rattle.film_room.proofs.store.Reads as store-reads
use Rattle.film_room.proofs.draw.Kinds as draw
use Rattle.film_room.proofs.draw.Reads as draw-reads
use Rattle.film_room.proofs.drop_film.Kinds as drop
use Rattle.film_room.proofs.drop_film.Reads as drop-reads

-- ---- store

pub record StoreCall : Type 0 where
  pub room : Room
  pub film : ℕ
  pub width : ℕ
  pub height : ℕ
  pub pixels : List ℕ
  pub settings : Settings
  pub map : List ℕ
  pub scratch : List ℕ
  pub list : List ℕ
  pub answer : Says Footer
  pub room' : Room
  pub map' : List ℕ
  pub scratch' : List ℕ
  pub list' : List ℕ

abbrev pub store_values : Run store.ps store.r store-reads.Post → StoreCall
store_values run =
    let (room, (film, (width, (height, (pixels, (settings, (map, (scratch, (list, end))))))))) = run.handed in
    let (room', (_, (_, (_, (_, (_, (map', (scratch', (list', end'))))))))) = run.left in
    record { room = room.now; film = film; width = width; height = height; pixels = pixels.now; settings = settings; map = map.now; scratch = scratch.now; list = list.now; answer = said run.answer; room' = room'.now; map' = map'.now; scratch' = scratch'.now; list' = list'.now }

-- what it is handed
abbrev pub store_arguments : StoreCall → Room × ℕ × ℕ × ℕ × List ℕ × Settings × List ℕ × List ℕ × List ℕ
store_arguments c = (c.room, c.film, c.width, c.height, c.pixels, c.settings, c.map, c.scratch, c.list)

-- store ran with these values
abbrev pub Stores : StoreCall → Type 0
Stores = Ran store_values

pub store_ends : {c : StoreCall} → Stores c
    → store_leaves c.answer c.room' c.map' c.scratch' c.list' ≡ store_of c.room c.film c.width c.height c.pixels c.settings c.map c.scratch c.list
store_ends ran = rw ran.named ran.run.allowed

-- ---- draw: the buffer is lent to be read, and no room is handed back

pub record ShowCall : Type 0 where
  pub room : Room
  pub film : ℕ
  pub width : ℕ
  pub height : ℕ
  pub pixels : List ℕ
  pub settings : Settings
  pub window : Window
  pub map : List ℕ
  pub out : List ℕ
  pub answer : Says (Unit {0})
  pub out' : List ℕ

abbrev pub show_values : Run draw.ps draw.r draw-reads.Post → ShowCall
show_values run =
    let (room, (film, (width, (height, (pixels, (settings, (window, (map, (out, end))))))))) = run.handed in
    let (_, (_, (_, (_, (_, (_, (_, (_, (out', end'))))))))) = run.left in
    record { room = room.now; film = film; width = width; height = height; pixels = pixels.now; settings = settings; window = window; map = map.now; out = out.now; answer = said run.answer; out' = out'.now }

-- what it is handed
abbrev pub show_arguments : ShowCall → Room × ℕ × ℕ × ℕ × List ℕ × Settings × Window × List ℕ × List ℕ
show_arguments c = (c.room, c.film, c.width, c.height, c.pixels, c.settings, c.window, c.map, c.out)

-- all of that but the buffer
abbrev pub show_rest : ShowCall → Room × ℕ × ℕ × ℕ × List ℕ × Settings × Window × List ℕ
show_rest c = (c.room, c.film, c.width, c.height, c.pixels, c.settings, c.window, c.out)

-- the room's draw ran with these values
abbrev pub RoomDraws : ShowCall → Type 0
RoomDraws = Ran show_values

pub show_ends : {c : ShowCall} → RoomDraws c
    → draw_leaves c.answer c.out' ≡ show_of c.room c.film c.width c.height c.pixels c.settings c.window c.map c.out
show_ends ran = rw ran.named ran.run.allowed

-- ---- drop

pub record DropCall : Type 0 where
  pub room : Room
  pub film : ℕ
  pub map : List ℕ
  pub answer : Says (Unit {0})
  pub room' : Room
  pub map' : List ℕ

abbrev pub drop_values : Run drop.ps drop.r drop-reads.Post → DropCall
drop_values run =
    let (room, (film, (map, end))) = run.handed in
    let (room', (_, (map', end'))) = run.left in
    record { room = room.now; film = film; map = map.now; answer = said run.answer; room' = room'.now; map' = map'.now }

-- what it is handed
abbrev pub drop_arguments : DropCall → Room × ℕ × List ℕ
drop_arguments c = (c.room, c.film, c.map)

-- drop ran with these values
abbrev pub Drops : DropCall → Type 0
Drops = Ran drop_values

pub drop_ends : {c : DropCall} → Drops c → drop_leaves c.answer c.room' c.map' ≡ drop_of c.room c.film c.map
drop_ends ran = rw ran.named ran.run.allowed
