-- Demand 1 of the calls for C on films of bytes, on counts and on a room: any two outcomes that a contract allows are equal, and "after a refusal all lent memory holds what it held before", a room record's cells too,
-- where a refusal is a returned number that is not 0. A float's cell is told up to the float in it, as of the wide calls.
-- Promises alone: of every run of the calls by their contracts (Runs), each listed in docs/PROMISES.md. A name with ' is lent memory, or a room record's cells, at the end.
-- Assumes nothing.
use Prim.Native.Nat.{◌<◌}
use mathlib.Core.Path.{◌≡◌, refl, sym, ap, ◌∙◌}
use Rattle.film_prepare.specs.Prepare.{prepared_of, enhanced_of}
use Rattle.film_count.specs.Counting.{count_of}
use Rattle.film_map.specs.Counts.{map_done_of, map_of}
use Rattle.film_room.specs.Room.{stored_of, store_of, show_of, dropped_of, drop_of}
use Rattle.byte_prepare.specs.Bytes.{byte_prepare_of, byte_enhance_of}
use Rattle.byte_draw.specs.Bytes.{byte_draw_of}
use Rattle.promise_films.proofs.Accepted.{returned_kept}
use Rattle.promise_bytes.proofs.Inside.{prepare_bytes_table, enhance_bytes_table, draw_bytes_table}
use Rattle.promise_counts.proofs.Tables.{count_table, map_table}
use Rattle.promise_room.proofs.Outcomes.{store_table, show_table, drop_table}
use Rattle.c_flat.specs.Flat.{record_from_of}
use Rattle.c_flat.specs.Films.{FlatPrepared, flat_prepared, FlatEnhanced, flat_enhanced, FlatDrawn, flat_drawn}
use Rattle.c_room.specs.Flat.{room_from_of, FlatStored, flat_stored, FlatDropped, flat_dropped}
use Rattle.c_films.proofs.Runs.{TzPrepareCall, tz_prepare_arguments, TzEnhanceCall, tz_enhance_arguments, TzDrawCall, tz_draw_arguments}
use Rattle.c_counts.specs.Flat.{FlatCounted, flat_counted}
use Rattle.promise_c.proofs.Runs.{TzPreparesBytes, tz_prepare_bytes_ends, TzEnhancesBytes, tz_enhance_bytes_ends, TzDrawsBytes, tz_draw_bytes_ends, TzCountCall, TzCounts, tz_count_arguments, tz_count_ends, TzMapCall, TzMaps, tz_map_arguments, tz_map_ends, TzStoreCall, TzStores, tz_store_arguments, tz_store_ends, TzShowCall, TzShows, tz_show_arguments, tz_show_ends, TzDropCall, TzDrops, tz_drop_arguments, tz_drop_ends}

-- ---- tz_prepare_bytes

-- any two outcomes are equal: its number, map buffer, scratch and list, and the cells: the record's ten numbers, factor and four arrays, and the footer's three
pub tz_prepare_bytes_determined : {c k : TzPrepareCall} → TzPreparesBytes c → TzPreparesBytes k → tz_prepare_arguments c ≡ tz_prepare_arguments k
    → (c.number ≡ k.number) × (c.map' ≡ k.map') × (c.scratch' ≡ k.scratch') × (c.list' ≡ k.list') × (c.cells' ≡ k.cells')
tz_prepare_bytes_determined x y same =
    let e = tz_prepare_bytes_ends x ∙ ap (λ g. flat_prepared (byte_prepare_of g.0 g.1 g.2 g.3 g.4 g.5 g.6 g.7) g.8) same ∙ sym (tz_prepare_bytes_ends y) in
    (ap (λ (z : FlatPrepared). z.number) e, ap (λ (z : FlatPrepared). z.map) e, ap (λ (z : FlatPrepared). z.scratch) e, ap (λ (z : FlatPrepared). z.list) e, ap (λ (z : FlatPrepared). z.cells) e)

-- a refusal keeps lent memory
pub tz_prepare_bytes_refusal_keeps : {c : TzPrepareCall} → TzPreparesBytes c → 0 < c.number → (c.map' ≡ c.map) × (c.scratch' ≡ c.scratch) × (c.list' ≡ c.list) × (c.cells' ≡ c.cells)
unfolding flat_prepared prepared_of
tz_prepare_bytes_refusal_keeps {c} ran l =
    let e = returned_kept (prepare_bytes_table _ _ _ _ _ _ _ _) (λ e. flat_prepared e c.cells) (λ (z : FlatPrepared). z.number) refl (λ k. refl) (tz_prepare_bytes_ends ran) l in
    (ap (λ (z : FlatPrepared). z.map) e, ap (λ (z : FlatPrepared). z.scratch) e, ap (λ (z : FlatPrepared). z.list) e, ap (λ (z : FlatPrepared). z.cells) e)

-- ---- tz_enhance_bytes

-- its number, picture, map buffer and scratch, and the footer's three cells
pub tz_enhance_bytes_determined : {c k : TzEnhanceCall} → TzEnhancesBytes c → TzEnhancesBytes k → tz_enhance_arguments c ≡ tz_enhance_arguments k
    → (c.number ≡ k.number) × (c.pixels' ≡ k.pixels') × (c.map' ≡ k.map') × (c.scratch' ≡ k.scratch') × (c.foot' ≡ k.foot')
tz_enhance_bytes_determined x y same =
    let e = tz_enhance_bytes_ends x ∙ ap (λ g. flat_enhanced (byte_enhance_of g.0 g.1 g.2 g.3 g.4 g.5) g.6) same ∙ sym (tz_enhance_bytes_ends y) in
    (ap (λ (z : FlatEnhanced). z.number) e, ap (λ (z : FlatEnhanced). z.picture) e, ap (λ (z : FlatEnhanced). z.map) e, ap (λ (z : FlatEnhanced). z.scratch) e, ap (λ (z : FlatEnhanced). z.foot) e)

-- a refusal keeps picture, map buffer, scratch and cells
pub tz_enhance_bytes_refusal_keeps : {c : TzEnhanceCall} → TzEnhancesBytes c → 0 < c.number → (c.pixels' ≡ c.pixels) × (c.map' ≡ c.map) × (c.scratch' ≡ c.scratch) × (c.foot' ≡ c.foot)
unfolding flat_enhanced enhanced_of
tz_enhance_bytes_refusal_keeps {c} ran l =
    let e = returned_kept (enhance_bytes_table _ _ _ _ _ _) (λ o. flat_enhanced o c.foot) (λ (z : FlatEnhanced). z.number) refl (λ k. refl) (tz_enhance_bytes_ends ran) l in
    (ap (λ (z : FlatEnhanced). z.picture) e, ap (λ (z : FlatEnhanced). z.map) e, ap (λ (z : FlatEnhanced). z.scratch) e, ap (λ (z : FlatEnhanced). z.foot) e)

-- ---- tz_draw_bytes

-- its number and output
pub tz_draw_bytes_determined : {c k : TzDrawCall} → TzDrawsBytes c → TzDrawsBytes k → tz_draw_arguments c ≡ tz_draw_arguments k → (c.number ≡ k.number) × (c.out' ≡ k.out')
tz_draw_bytes_determined x y same =
    let e = tz_draw_bytes_ends x ∙ ap (λ g. flat_drawn (byte_draw_of g.0 g.1 g.2 g.3 g.4 (record_from_of g.5 g.6 g.7) g.8 g.9 g.10)) same ∙ sym (tz_draw_bytes_ends y) in
    (ap (λ (z : FlatDrawn). z.number) e, ap (λ (z : FlatDrawn). z.out) e)

-- a refusal keeps the output
pub tz_draw_bytes_refusal_keeps : {c : TzDrawCall} → TzDrawsBytes c → 0 < c.number → c.out' ≡ c.out
unfolding flat_drawn
tz_draw_bytes_refusal_keeps ran l =
    ap (λ (z : FlatDrawn). z.out) (returned_kept (draw_bytes_table _ _ _ _ _ _ _ _ _) flat_drawn (λ (z : FlatDrawn). z.number) refl (λ k. refl) (tz_draw_bytes_ends ran) l)

-- ---- tz_count

-- its number and counts
pub tz_count_determined : {c k : TzCountCall} → TzCounts c → TzCounts k → tz_count_arguments c ≡ tz_count_arguments k → (c.number ≡ k.number) × (c.counts' ≡ k.counts')
tz_count_determined x y same =
    let e = tz_count_ends x ∙ ap (λ g. flat_counted (count_of g.0 g.1 g.2 g.3 g.4)) same ∙ sym (tz_count_ends y) in
    (ap (λ (z : FlatCounted). z.number) e, ap (λ (z : FlatCounted). z.counts) e)

-- a refusal keeps the counts
pub tz_count_refusal_keeps : {c : TzCountCall} → TzCounts c → 0 < c.number → c.counts' ≡ c.counts
unfolding flat_counted
tz_count_refusal_keeps ran l =
    ap (λ (z : FlatCounted). z.counts) (returned_kept (count_table _ _ _ _ _) flat_counted (λ (z : FlatCounted). z.number) refl (λ k. refl) (tz_count_ends ran) l)

-- ---- tz_map

-- its number, map buffer, scratch and list, and the cells
pub tz_map_determined : {c k : TzMapCall} → TzMaps c → TzMaps k → tz_map_arguments c ≡ tz_map_arguments k
    → (c.number ≡ k.number) × (c.map' ≡ k.map') × (c.scratch' ≡ k.scratch') × (c.list' ≡ k.list') × (c.cells' ≡ k.cells')
tz_map_determined x y same =
    let e = tz_map_ends x ∙ ap (λ g. flat_prepared (map_of g.0 g.1 g.2 g.3 g.4 g.5 g.6 g.7) g.8) same ∙ sym (tz_map_ends y) in
    (ap (λ (z : FlatPrepared). z.number) e, ap (λ (z : FlatPrepared). z.map) e, ap (λ (z : FlatPrepared). z.scratch) e, ap (λ (z : FlatPrepared). z.list) e, ap (λ (z : FlatPrepared). z.cells) e)

-- a refusal keeps map buffer, scratch, list and cells
pub tz_map_refusal_keeps : {c : TzMapCall} → TzMaps c → 0 < c.number → (c.map' ≡ c.map) × (c.scratch' ≡ c.scratch) × (c.list' ≡ c.list) × (c.cells' ≡ c.cells)
unfolding flat_prepared map_done_of
tz_map_refusal_keeps {c} ran l =
    let e = returned_kept (map_table _ _ _ _ _ _ _ _) (λ e. flat_prepared e c.cells) (λ (z : FlatPrepared). z.number) refl (λ k. refl) (tz_map_ends ran) l in
    (ap (λ (z : FlatPrepared). z.map) e, ap (λ (z : FlatPrepared). z.scratch) e, ap (λ (z : FlatPrepared). z.list) e, ap (λ (z : FlatPrepared). z.cells) e)

-- ---- tz_room_store

-- any two outcomes are equal: its number, buffer, scratch and list, and the cells of footer and room record
pub tz_room_store_determined : {c k : TzStoreCall} → TzStores c → TzStores k → tz_store_arguments c ≡ tz_store_arguments k
    → (c.number ≡ k.number) × (c.map' ≡ k.map') × (c.scratch' ≡ k.scratch') × (c.list' ≡ k.list') × (c.foot' ≡ k.foot') × (c.room' ≡ k.room')
tz_room_store_determined x y same =
    let e = tz_store_ends x ∙ ap (λ g. flat_stored (store_of (room_from_of g.0) g.1 g.2 g.3 g.4 g.5 g.6 g.7 g.8) g.9 g.0) same ∙ sym (tz_store_ends y) in (
      ap (λ (z : FlatStored). z.number) e,
      ap (λ (z : FlatStored). z.map) e,
      ap (λ (z : FlatStored). z.scratch) e,
      ap (λ (z : FlatStored). z.list) e,
      ap (λ (z : FlatStored). z.foot) e,
      ap (λ (z : FlatStored). z.room) e,
    )

-- a refusal keeps lent memory and all cells
pub tz_room_store_refusal_keeps : {c : TzStoreCall} → TzStores c → 0 < c.number
    → (c.map' ≡ c.map) × (c.scratch' ≡ c.scratch) × (c.list' ≡ c.list) × (c.foot' ≡ c.foot) × (c.room' ≡ c.room)
unfolding flat_stored stored_of
tz_room_store_refusal_keeps {c} ran l =
    let e = returned_kept (store_table _ _ _ _ _ _ _ _ _) (λ k. flat_stored k c.foot c.room) (λ (z : FlatStored). z.number) refl (λ k. refl) (tz_store_ends ran) l in (
      ap (λ (z : FlatStored). z.map) e,
      ap (λ (z : FlatStored). z.scratch) e,
      ap (λ (z : FlatStored). z.list) e,
      ap (λ (z : FlatStored). z.foot) e,
      ap (λ (z : FlatStored). z.room) e,
    )

-- ---- tz_room_draw: buffer and record are lent to be read

pub tz_room_draw_determined : {c k : TzShowCall} → TzShows c → TzShows k → tz_show_arguments c ≡ tz_show_arguments k → (c.number ≡ k.number) × (c.out' ≡ k.out')
tz_room_draw_determined x y same =
    let e = tz_show_ends x ∙ ap (λ g. flat_drawn (show_of (room_from_of g.0) g.1 g.2 g.3 g.4 g.5 g.6 g.7 g.8)) same ∙ sym (tz_show_ends y) in
    (ap (λ (z : FlatDrawn). z.number) e, ap (λ (z : FlatDrawn). z.out) e)

pub tz_room_draw_refusal_keeps : {c : TzShowCall} → TzShows c → 0 < c.number → c.out' ≡ c.out
unfolding flat_drawn
tz_room_draw_refusal_keeps {c} ran l =
    ap (λ (z : FlatDrawn). z.out) (returned_kept (show_table _ _ _ _ _ _ _ _ _) flat_drawn (λ (z : FlatDrawn). z.number) refl (λ k. refl) (tz_show_ends ran) l)

-- ---- tz_room_drop

pub tz_room_drop_determined : {c k : TzDropCall} → TzDrops c → TzDrops k → tz_drop_arguments c ≡ tz_drop_arguments k
    → (c.number ≡ k.number) × (c.map' ≡ k.map') × (c.room' ≡ k.room')
tz_room_drop_determined x y same =
    let e = tz_drop_ends x ∙ ap (λ g. flat_dropped (drop_of (room_from_of g.0) g.1 g.2) g.0) same ∙ sym (tz_drop_ends y) in
    (ap (λ (z : FlatDropped). z.number) e, ap (λ (z : FlatDropped). z.map) e, ap (λ (z : FlatDropped). z.room) e)

pub tz_room_drop_refusal_keeps : {c : TzDropCall} → TzDrops c → 0 < c.number → (c.map' ≡ c.map) × (c.room' ≡ c.room)
unfolding flat_dropped dropped_of
tz_room_drop_refusal_keeps {c} ran l =
    let e = returned_kept (drop_table _ _ _) (λ k. flat_dropped k c.room) (λ (z : FlatDropped). z.number) refl (λ k. refl) (tz_drop_ends ran) l in
    (ap (λ (z : FlatDropped). z.map) e, ap (λ (z : FlatDropped). z.room) e)
