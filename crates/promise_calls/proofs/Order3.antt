-- Order 3, bins that are reached, of all calls that render: "31, bins (after 0 is read as 128) above R + 1, after 9", and the complaint that "in a strongly clipped tile the whites stop well short of Max".
-- Promises alone: of every run of the calls by their contracts (Runs), each listed in docs/PROMISES.md. A name with ' is lent memory at the end.
-- Assumes nothing.
use Prim.Native.Nat.{ℕ}
use mathlib.Core.List.{List}
use mathlib.Core.Path.{◌≡◌, refl, sym, ◌∙◌}
use native.Mathlib.Omega.{arith}
use lib.ListN.{length}
use mathlib.Core.Bool.{false}
use Rattle.base_rows.specs.Refuse.{first, accepted}
use Rattle.film_settings.specs.Settings.{shared_rows, clip_one_of}
use Rattle.film_prepare.specs.Prepare.{listed_rows, work_rows, prepare_rows, enhance_rows}
use Rattle.film_prepare.proofs.Table.{table_parts, table_31, over_parts, over_31}
use Rattle.film_count.specs.Counting.{count_rows}
use Rattle.film_count.proofs.Tables.{count_early, count_31}
use Rattle.film_map.specs.Counts.{map_rows_of}
use Rattle.film_map.proofs.Tables.{map_early, map_31}
use Rattle.film_draw.specs.Draw.{draw_rows}
use Rattle.film_draw.proofs.Tables.{draw_shared, draw_31}
use Rattle.byte_prepare.specs.Bytes.{byte_prepare_rows, byte_enhance_rows}
use Rattle.byte_prepare.proofs.Tables.{rows_enough}
use Rattle.promise_films.proofs.Demand1.{prepare_says, enhance_says, draw_says}
use Rattle.promise_films.proofs.Runs.{PrepareCall, Prepares, EnhanceCall, Enhances, DrawCall, Draws, enhance_ends}
use Rattle.promise_bytes.proofs.Runs.{PreparesBytes, EnhancesBytes, DrawsBytes}
use Rattle.promise_bytes.proofs.Demand1.{prepare_bytes_says, enhance_bytes_says, draw_bytes_says}
use Rattle.promise_counts.proofs.Runs.{CountCall, Counts, MapCall, Maps}
use Rattle.promise_counts.proofs.Order5.{count_says, map_says}
use Rattle.promise_calls.specs.Calls.{Exactly31, WhitesReach}
use Rattle.film_settings.specs.declared.MapRecord.{MapRecord}
use Rattle.film_settings.specs.declared.Footer.{Footer}
use Rattle.promise_bytes.proofs.Ended.{enhance_bytes_as_wide, prepare_bytes_made}
use Rattle.promise_counts.proofs.Ways.{CountedAs}
use Rattle.promise_calls.proofs.Reached.{by_table, early_front, shared_early, bytes_31, bytes_early, rows, rows_31, rows_early}
use Rattle.promise_calls.proofs.Whites.{made_whites, whole_whites}
use Rattle.promise_counts.proofs.Ended.{counted_made}
use Rattle.promise_films.proofs.Made.{prepare_made}

-- ---- 31

-- of prepare: 31 is given exactly where some bin has no grey of the range and none of 1 to 9 applies
pub prepare_31_exactly : {p : PrepareCall} → Prepares p → Exactly31 (p.answer) p.settings
prepare_31_exactly {p} ran =
    by_table (first (prepare_rows p.width p.height p.pixels p.settings (length p.map) (length p.scratch) (length p.list))) _ (prepare_says ran)
    (table_31 p.width p.height p.pixels p.settings (length p.map) (length p.scratch) (length p.list))
    (λ some. rw (table_parts p.width p.height p.pixels p.settings (length p.map) (length p.scratch) (length p.list))
    (early_front (shared_rows p.width p.height (length p.pixels) p.settings (length p.map)) (listed_rows p.pixels p.settings (length p.scratch) (length p.list)) (shared_early p.width p.height (length p.pixels) p.settings (length p.map) some)))

-- so of enhance
pub enhance_31_exactly : {e : EnhanceCall} → Enhances e → Exactly31 (e.answer) e.settings
enhance_31_exactly {e} ran =
    by_table (first (enhance_rows e.width e.height e.pixels e.settings (length e.map) (length e.scratch))) _ (enhance_says ran)
    (over_31 e.width e.height e.pixels e.settings (length e.map) (length e.scratch))
    (λ some. rw (over_parts e.width e.height e.pixels e.settings (length e.map) (length e.scratch))
    (early_front (shared_rows e.width e.height (length e.pixels) e.settings (length e.map)) (work_rows e.pixels e.settings (length e.scratch)) (shared_early e.width e.height (length e.pixels) e.settings (length e.map) some)))

-- of draw
pub draw_31_exactly : {d : DrawCall} → Draws d → Exactly31 (d.answer) d.settings
draw_31_exactly {d} ran =
    by_table (first (draw_rows d.film d.width d.height d.pixels d.settings d.kept d.window d.map (length d.out))) _ (draw_says ran)
    (draw_31 d.film d.width d.height d.pixels d.settings d.kept d.window d.map (length d.out))
    (λ some. let e = shared_early d.width d.height (length d.pixels) d.settings (length d.map) some in
    rw (sym (draw_shared d.film d.width d.height d.pixels d.settings d.kept d.window d.map (length d.out) refl (λ z. omega (arith, e.0, z)))) e)

-- of prepare on bytes
pub prepare_bytes_31_exactly : {p : PrepareCall} → PreparesBytes p → Exactly31 (p.answer) p.settings
prepare_bytes_31_exactly {p} ran =
    by_table (first (byte_prepare_rows p.width p.height p.pixels p.settings (length p.map) (length p.scratch) (length p.list))) _ (prepare_bytes_says ran)
    (bytes_31 p.width p.height p.pixels p.settings (length p.map) (length p.scratch) (length p.list))
    (bytes_early p.width p.height p.pixels p.settings (length p.map) (length p.scratch) (length p.list))

-- of enhance on bytes
pub enhance_bytes_31_exactly : {e : EnhanceCall} → EnhancesBytes e → Exactly31 (e.answer) e.settings
enhance_bytes_31_exactly {e} ran =
    let enough = rows_enough e.width e.height e.pixels e.settings (length e.map) (length e.scratch) in
    by_table (first (byte_enhance_rows e.width e.height e.pixels e.settings (length e.map) (length e.scratch))) _ (enhance_bytes_says ran)
    (λ q. bytes_31 e.width e.height e.pixels e.settings (length e.map) (length e.scratch) 128 (enough ∙ q))
    (λ some. rw (sym enough) (bytes_early e.width e.height e.pixels e.settings (length e.map) (length e.scratch) 128 some))

module _ {d : DrawCall} (ran : DrawsBytes d) where
  -- of draw on bytes
  pub draw_bytes_31_exactly : Exactly31 (d.answer) d.settings
  draw_bytes_31_exactly = by_table (first (rows d)) tt (draw_bytes_says ran) (rows_31 d) (rows_early d)

-- of counting
pub count_31_exactly : {c : CountCall} → Counts c → Exactly31 (c.answer) c.settings
count_31_exactly {c} ran =
    by_table (first (count_rows c.width c.height c.pixels c.settings (length c.counts))) _ (count_says ran)
    (count_31 c.width c.height c.pixels c.settings (length c.counts)) (count_early c.width c.height c.pixels c.settings (length c.counts))

-- and of mapping
pub map_31_exactly : {d : MapCall} → Maps d → Exactly31 (d.answer) d.settings
map_31_exactly {d} ran =
    by_table (first (map_rows_of d.width d.height d.settings d.counts (length d.map) (length d.scratch) (length d.list))) _ (map_says ran)
    (map_31 d.width d.height d.settings d.counts (length d.map) (length d.scratch) (length d.list))
    (map_early d.width d.height d.settings d.counts (length d.map) (length d.scratch) (length d.list))

-- ---- the whites

-- the whites reach Max in every tile of a film that prepare accepts
pub prepared_whites : {p : PrepareCall} {r : MapRecord} {foot : Footer} → Prepares p → p.answer ≡ accepted (r, foot) → clip_one_of p.settings.clip ≡ false
    → WhitesReach p.settings p.map'
prepared_whites ran done = made_whites (prepare_made ran done)

-- that enhance accepts
pub enhanced_whites : {e : EnhanceCall} {foot : Footer} → Enhances e → e.answer ≡ accepted foot → clip_one_of e.settings.clip ≡ false → WhitesReach e.settings e.map'
enhanced_whites {e} ran done = whole_whites e (enhance_ends ran) done

-- that prepare on bytes accepts
pub prepared_bytes_whites : {p : PrepareCall} {r : MapRecord} {foot : Footer} → PreparesBytes p → p.answer ≡ accepted (r, foot) → clip_one_of p.settings.clip ≡ false
    → WhitesReach p.settings p.map'
prepared_bytes_whites ran done = made_whites (prepare_bytes_made ran done)

-- that enhance on bytes accepts
pub enhanced_bytes_whites : {e : EnhanceCall} {foot : Footer} → EnhancesBytes e → e.answer ≡ accepted foot → clip_one_of e.settings.clip ≡ false
    → WhitesReach e.settings e.map'
enhanced_bytes_whites {e} ran done = whole_whites e (enhance_bytes_as_wide ran done) done

-- and of one that mapping accepts, from the counts that counting left
pub mapped_whites : {pic : List ℕ} {d : MapCall} {r : MapRecord} {foot : Footer} → CountedAs d.width d.height pic d.settings d.counts → Maps d
    → d.answer ≡ accepted (r, foot) → clip_one_of d.settings.clip ≡ false → WhitesReach d.settings d.map'
mapped_whites by ran mapped = made_whites (counted_made by ran mapped)
