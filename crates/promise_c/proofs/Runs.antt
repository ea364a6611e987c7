-- The calls for C on films of bytes, on counts and on a room, by the names of their arguments. A name with ' is lent memory, or a room record's cells, at the end; `number` is what is returned.
-- The only file that counts these calls' parameters, in their order in the source. That each name is the contract's own is checked by the laws `..-ends`.
-- Assumes nothing.
use Prim.Native.Nat.{ℕ}
use mathlib.Core.List.{List}
use mathlib.Core.Path.{◌≡◌}
use Rattle.base_rows.specs.Run.{Run, Ran}
use Rattle.film_settings.specs.declared.Settings.{Settings}
use Rattle.film_settings.specs.declared.Window.{Window}
use Rattle.film_count.specs.Counting.{count_of}
use Rattle.film_map.specs.Counts.{map_of}
use Rattle.film_room.specs.Room.{store_of, show_of, drop_of}
use Rattle.byte_prepare.specs.Bytes.{byte_prepare_of, byte_enhance_of}
use Rattle.byte_draw.specs.Bytes.{byte_draw_of}
use Rattle.c_flat.specs.Flat.{settings_from_of, axes_from, record_from_of, window_from}
use Rattle.c_flat.specs.Films.{Foot, foot_from, Cells, cells_from, prepared_as, flat_prepared, enhanced_as, flat_enhanced, drawn_as, flat_drawn}
use Rattle.c_room.specs.Flat.{RoomCells, room_cells_from, room_from_of, stored_as, flat_stored, dropped_as, flat_dropped}
use Rattle.c_films.proofs.Runs.{TzPrepareCall, TzEnhanceCall, TzDrawCall}
use Rattle.c_counts.specs.Flat.{unclipped, counted_as, flat_counted}
use Rattle.c_bytes.proofs.tz_prepare_bytes.Kinds as prepare
use Rattle.c_bytes.proofs.tz_prepare_bytes.Reads as prepare-reads
use Rattle.c_bytes.proofs.tz_enhance_bytes.Kinds as enhance
use Rattle.c_bytes.proofs.tz_enhance_bytes.Reads as enhance-reads
use Rattle.c_bytes.proofs.tz_draw_bytes.Kinds as draw
use Rattle.c_bytes.proofs.tz_draw_bytes.Reads as draw-reads
use Rattle.c_counts.proofs.tz_count.Kinds as count
use Rattle.c_counts.proofs.tz_count.Reads as count-reads
use Rattle.c_counts.proofs.tz_map.Kinds as map
use Rattle.c_counts.proofs.tz_map.Reads as map-reads
use Rattle.c_films.proofs.room.tz_room_store.Kinds as room_store
use Rattle.c_films.proofs.room.tz_room_store.Reads as room-store-reads
use Rattle.c_films.proofs.room.tz_room_draw.Kinds as room-draw
use Rattle.c_films.proofs.room.tz_room_draw.Reads as room-draw-reads
use Rattle.c_films.proofs.room.tz_room_drop.Kinds as Room-drop
use Rattle.c_films.proofs.room.tz_room_drop.Reads as room-drop-reads

-- ---- tz_prepare_bytes, tz_enhance_bytes and tz_draw_bytes: the same names as of the wide calls

abbrev pub tz_prepare_bytes_values : Run prepare.ps prepare.r prepare-reads.Post → TzPrepareCall
tz_prepare_bytes_values run =
    let (film, (width, (height, (pixels, (across, (down, (bins, (min, (max, (clip, (asked-factor, (map, (scratch, (numbers, (factor, (limit, (asked, (used, (column-edges, (column-centres, (row-edges, (row-centres, (list, (edition, end)))))))))))))))))))))))) = run.handed in
    let (_, (_, (_, (_, (_, (_, (_, (_, (_, (_, (_, (map', (scratch', (numbers', (factor', (limit', (asked', (used', (column-edges', (column-centres', (row-edges', (row-centres', (list', (_, end')))))))))))))))))))))))) = run.left in
    record { film = film; width = width; height = height; pixels = pixels.now; settings = settings_from_of across down bins min max clip asked-factor edition; map = (map).now; scratch = scratch.now; list = list.now; cells = cells_from numbers.now factor.now (axes_from column-edges.now column-centres.now row-edges.now row-centres.now) (foot_from limit.now asked.now used.now); number = run.answer; map' = map'.now; scratch' = scratch'.now; list' = list'.now; cells' = cells_from numbers'.now factor'.now (axes_from column-edges'.now column-centres'.now row-edges'.now row-centres'.now) (foot_from limit'.now asked'.now used'.now) }

-- tz_prepare_bytes ran with these values
abbrev pub TzPreparesBytes : TzPrepareCall → Type 0
TzPreparesBytes = Ran tz_prepare_bytes_values

pub tz_prepare_bytes_ends : {c : TzPrepareCall} → TzPreparesBytes c
    → prepared_as c.number c.map' c.scratch' c.list' c.cells'
    ≡ flat_prepared (byte_prepare_of c.film c.width c.height c.pixels c.settings c.map c.scratch c.list) c.cells
tz_prepare_bytes_ends ran = rw ran.named ran.run.allowed.0

abbrev pub tz_enhance_bytes_values : Run enhance.ps enhance.r enhance-reads.Post → TzEnhanceCall
tz_enhance_bytes_values run =
    let (width, (height, (pixels, (across, (down, (bins, (min, (max, (clip, (factor, (map, (scratch, (limit, (asked, (used, (edition, end)))))))))))))))) = run.handed in
    let (_, (_, (pixels', (_, (_, (_, (_, (_, (_, (_, (map', (scratch', (limit', (asked', (used', (_, end')))))))))))))))) = run.left in
    record { width = width; height = height; pixels = pixels.now; settings = settings_from_of across down bins min max clip factor edition; map = (map).now; scratch = scratch.now; foot = foot_from limit.now asked.now used.now; number = run.answer; pixels' = pixels'.now; map' = map'.now; scratch' = scratch'.now; foot' = foot_from limit'.now asked'.now used'.now }

-- tz_enhance_bytes ran with these values
abbrev pub TzEnhancesBytes : TzEnhanceCall → Type 0
TzEnhancesBytes = Ran tz_enhance_bytes_values

pub tz_enhance_bytes_ends : {c : TzEnhanceCall} → TzEnhancesBytes c
    → enhanced_as c.number c.pixels' c.map' c.scratch' c.foot'
    ≡ flat_enhanced (byte_enhance_of c.width c.height c.pixels c.settings c.map c.scratch) c.foot
tz_enhance_bytes_ends ran = rw ran.named ran.run.allowed.0

abbrev pub tz_draw_bytes_values : Run draw.ps draw.r draw-reads.Post → TzDrawCall
tz_draw_bytes_values run =
    let (film, (width, (height, (pixels, (across, (down, (bins, (min, (max, (clip, (asked-factor, (numbers, (factor, (left, (top, (window-width, (window-height, (map, (out, (column-edges, (column-centres, (row-edges, (row-centres, (edition, end)))))))))))))))))))))))) = run.handed in
    let (_, (_, (_, (_, (_, (_, (_, (_, (_, (_, (_, (_, (_, (_, (_, (_, (_, (_, (out', end'))))))))))))))))))) = run.left in
    record { film = film; width = width; height = height; pixels = pixels.now; settings = settings_from_of across down bins min max clip asked-factor edition; numbers = numbers.now; factor = factor; axes = axes_from column-edges.now column-centres.now row-edges.now row-centres.now; window = window_from left top window-width window-height; map = (map).now; out = out.now; number = run.answer; out' = out'.now }

-- tz_draw_bytes ran with these values
abbrev pub TzDrawsBytes : TzDrawCall → Type 0
TzDrawsBytes = Ran tz_draw_bytes_values

pub tz_draw_bytes_ends : {c : TzDrawCall} → TzDrawsBytes c
    → drawn_as c.number c.out'
    ≡ flat_drawn (byte_draw_of c.film c.width c.height c.pixels c.settings (record_from_of c.numbers c.factor c.axes) c.window c.map c.out)
tz_draw_bytes_ends ran = rw ran.named ran.run.allowed.0

-- ---- tz_count

pub record TzCountCall : Type 0 where
  pub width : ℕ
  pub height : ℕ
  pub pixels : List ℕ
  pub settings : Settings
  pub counts : List ℕ
  pub number : ℕ
  pub counts' : List ℕ

abbrev pub tz_count_values : Run count.ps count.r count-reads.Post → TzCountCall
tz_count_values run =
    let (width, (height, (pixels, (across, (down, (bins, (min, (max, (counts, end))))))))) = run.handed in
    let (_, (_, (_, (_, (_, (_, (_, (_, (counts', end'))))))))) = run.left in
    record { width = width; height = height; pixels = pixels.now; settings = unclipped across down bins min max; counts = counts.now; number = run.answer; counts' = counts'.now }

-- what it is handed
abbrev pub tz_count_arguments : TzCountCall → ℕ × ℕ × List ℕ × Settings × List ℕ
tz_count_arguments c = (c.width, c.height, c.pixels, c.settings, c.counts)

-- tz_count ran with these values
abbrev pub TzCounts : TzCountCall → Type 0
TzCounts = Ran tz_count_values

pub tz_count_ends : {c : TzCountCall} → TzCounts c → counted_as c.number c.counts' ≡ flat_counted (count_of c.width c.height c.pixels c.settings c.counts)
tz_count_ends ran = rw ran.named ran.run.allowed

-- ---- tz_map: the counts are lent to be read, so that there are none at the end

-- `cells` are those of the map record and of the footer
pub record TzMapCall : Type 0 where
  pub film : ℕ
  pub width : ℕ
  pub height : ℕ
  pub settings : Settings
  pub counts : List ℕ
  pub map : List ℕ
  pub scratch : List ℕ
  pub list : List ℕ
  pub cells : Cells
  pub number : ℕ
  pub map' : List ℕ
  pub scratch' : List ℕ
  pub list' : List ℕ
  pub cells' : Cells

abbrev pub tz_map_values : Run map.ps map.r map-reads.Post → TzMapCall
tz_map_values run =
    let (film, (width, (height, (across, (down, (bins, (min, (max, (clip, (asked-factor, (counts, (map, (scratch, (numbers, (factor, (limit, (asked, (used, (column-edges, (column-centres, (row-edges, (row-centres, (list, (edition, end)))))))))))))))))))))))) = run.handed in
    let (_, (_, (_, (_, (_, (_, (_, (_, (_, (_, (_, (map', (scratch', (numbers', (factor', (limit', (asked', (used', (column-edges', (column-centres', (row-edges', (row-centres', (list', (_, end')))))))))))))))))))))))) = run.left in
    record { film = film; width = width; height = height; settings = settings_from_of across down bins min max clip asked-factor edition; counts = counts.now; map = (map).now; scratch = scratch.now; list = list.now; cells = cells_from numbers.now factor.now (axes_from column-edges.now column-centres.now row-edges.now row-centres.now) (foot_from limit.now asked.now used.now); number = run.answer; map' = map'.now; scratch' = scratch'.now; list' = list'.now; cells' = cells_from numbers'.now factor'.now (axes_from column-edges'.now column-centres'.now row-edges'.now row-centres'.now) (foot_from limit'.now asked'.now used'.now) }

-- what it is handed
abbrev pub tz_map_arguments : TzMapCall → ℕ × ℕ × ℕ × Settings × List ℕ × List ℕ × List ℕ × List ℕ × Cells
tz_map_arguments c = (c.film, c.width, c.height, c.settings, c.counts, c.map, c.scratch, c.list, c.cells)

-- tz_map ran with these values
abbrev pub TzMaps : TzMapCall → Type 0
TzMaps = Ran tz_map_values

pub tz_map_ends : {c : TzMapCall} → TzMaps c
    → prepared_as c.number c.map' c.scratch' c.list' c.cells'
    ≡ flat_prepared (map_of c.film c.width c.height c.settings c.counts c.map c.scratch c.list) c.cells
tz_map_ends ran = rw ran.named ran.run.allowed

-- ---- tz_room_store

-- `foot` are the cells of the footer, `room` those of the room record
pub record TzStoreCall : Type 0 where
  pub film : ℕ
  pub width : ℕ
  pub height : ℕ
  pub pixels : List ℕ
  pub settings : Settings
  pub map : List ℕ
  pub scratch : List ℕ
  pub list : List ℕ
  pub foot : Foot
  pub room : RoomCells
  pub number : ℕ
  pub map' : List ℕ
  pub scratch' : List ℕ
  pub list' : List ℕ
  pub foot' : Foot
  pub room' : RoomCells

abbrev pub tz_store_values : Run room_store.ps room_store.r room-store-reads.Post → TzStoreCall
tz_store_values run =
    let (film, (width, (height, (pixels, (across, (down, (bins, (min, (max, (clip, (factor, (map, (scratch, (limit, (asked, (used, (list, (edition, (count, (numbers, (factors, end))))))))))))))))))))) = run.handed in
    let (_, (_, (_, (_, (_, (_, (_, (_, (_, (_, (_, (map', (scratch', (limit', (asked', (used', (list', (_, (count', (numbers', (factors', end'))))))))))))))))))))) = run.left in
    record { film = film; width = width; height = height; pixels = pixels.now; settings = settings_from_of across down bins min max clip factor edition; map = (map).now; scratch = scratch.now; list = list.now; foot = foot_from limit.now asked.now used.now; room = room_cells_from count.now numbers.now factors.now; number = run.answer; map' = map'.now; scratch' = scratch'.now; list' = list'.now; foot' = foot_from limit'.now asked'.now used'.now; room' = room_cells_from count'.now numbers'.now factors'.now }

-- what it is handed
abbrev pub tz_store_arguments : TzStoreCall → RoomCells × ℕ × ℕ × ℕ × List ℕ × Settings × List ℕ × List ℕ × List ℕ × Foot
tz_store_arguments c = (c.room, c.film, c.width, c.height, c.pixels, c.settings, c.map, c.scratch, c.list, c.foot)

-- tz_room_store ran with these values
abbrev pub TzStores : TzStoreCall → Type 0
TzStores = Ran tz_store_values

pub tz_store_ends : {c : TzStoreCall} → TzStores c
    → stored_as c.number c.map' c.scratch' c.list' c.foot' c.room'
    ≡ flat_stored (store_of (room_from_of c.room) c.film c.width c.height c.pixels c.settings c.map c.scratch c.list) c.foot c.room
tz_store_ends ran = rw ran.named ran.run.allowed

-- ---- tz_room_draw

pub record TzShowCall : Type 0 where
  pub film : ℕ
  pub width : ℕ
  pub height : ℕ
  pub pixels : List ℕ
  pub settings : Settings
  pub window : Window
  pub map : List ℕ
  pub out : List ℕ
  pub room : RoomCells
  pub number : ℕ
  pub out' : List ℕ

abbrev pub tz_show_values : Run room-draw.ps room-draw.r room-draw-reads.Post → TzShowCall
tz_show_values run =
    let (film, (width, (height, (pixels, (across, (down, (bins, (min, (max, (clip, (factor, (left, (top, (window-width, (window-height, (map, (out, (edition, (count, (numbers, (factors, end))))))))))))))))))))) = run.handed in
    let (_, (_, (_, (_, (_, (_, (_, (_, (_, (_, (_, (_, (_, (_, (_, (_, (out', (_, (_, (_, (_, end'))))))))))))))))))))) = run.left in
    record { film = film; width = width; height = height; pixels = pixels.now; settings = settings_from_of across down bins min max clip factor edition; window = window_from left top window-width window-height; map = (map).now; out = out.now; room = room_cells_from count numbers.now factors.now; number = run.answer; out' = out'.now }

-- what it is handed
abbrev pub tz_show_arguments : TzShowCall → RoomCells × ℕ × ℕ × ℕ × List ℕ × Settings × Window × List ℕ × List ℕ
tz_show_arguments c = (c.room, c.film, c.width, c.height, c.pixels, c.settings, c.window, c.map, c.out)

-- tz_room_draw ran with these values
abbrev pub TzShows : TzShowCall → Type 0
TzShows = Ran tz_show_values

pub tz_show_ends : {c : TzShowCall} → TzShows c
    → drawn_as c.number c.out' ≡ flat_drawn (show_of (room_from_of c.room) c.film c.width c.height c.pixels c.settings c.window c.map c.out)
tz_show_ends ran = rw ran.named ran.run.allowed

-- ---- tz_room_drop

pub record TzDropCall : Type 0 where
  pub film : ℕ
  pub map : List ℕ
  pub room : RoomCells
  pub number : ℕ
  pub map' : List ℕ
  pub room' : RoomCells

abbrev pub tz_drop_values : Run Room-drop.ps Room-drop.r room-drop-reads.Post → TzDropCall
tz_drop_values run =
    let (film, (map, (count, (numbers, (factors, end))))) = run.handed in
    let (_, (map', (count', (numbers', (factors', end'))))) = run.left in
    record { film = film; map = (map).now; room = room_cells_from count.now numbers.now factors.now; number = run.answer; map' = map'.now; room' = room_cells_from count'.now numbers'.now factors'.now }

-- what it is handed
abbrev pub tz_drop_arguments : TzDropCall → RoomCells × ℕ × List ℕ
tz_drop_arguments c = (c.room, c.film, c.map)

-- tz_room_drop ran with these values
abbrev pub TzDrops : TzDropCall → Type 0
TzDrops = Ran tz_drop_values

pub tz_drop_ends : {c : TzDropCall} → TzDrops c
    → dropped_as c.number c.map' c.room' ≡ flat_dropped (drop_of (room_from_of c.room) c.film c.map) c.room
tz_drop_ends ran = rw ran.named ran.run.allowed
