-- Order 6, films of any size: "Films that fitted before must come out the same": what each call says is what it said by the old table, a film that the old table let pass is still accepted, a window drawn from any
-- map buffer is the old rendering of its entries, and counting, mapping and the listing come out the same. What prepare and enhance leave of such a film is in `promise_films` Order6.
-- Promises alone: of every run of the calls by their contracts (Runs), each listed in docs/PROMISES.md. A name with ' is lent memory at the end.
-- Assumes nothing.
use Prim.Native.Nat.{ℕ, ◌+◌, ◌*◌, ◌<◌, ◌%◌}
use mathlib.Core.Bool.{false, cond}
use mathlib.Core.List.{[]}
use mathlib.Core.Path.{◌≡◌, sym, ap, ◌∙◌}
use lib.Dec.{ltb}
use lib.ListN.{length, get_or, drop}
use Rattle.base_lists.specs.Lists.{onto}
use Rattle.base_rows.specs.Refuse.{first, accepted, says}
use Rattle.tile_count.specs.Tally.{greys_of, counts_of}
use Rattle.film_settings.specs.declared.MapRecord.{MapRecord}
use Rattle.film_settings.specs.declared.Footer.{Footer}
use Rattle.film_settings.specs.Settings.{bins_of, record_of, clip_one_of}
use Rattle.film_tiles.specs.Tiles.{foot_of}
use Rattle.film_prepare.specs.Prepare.{PrepareOut}
use Rattle.film_count.specs.Counting.{counts_in}
use Rattle.film_map.specs.Counts.{map_done_of}
use Rattle.film_draw.specs.Draw.{DrawOut}
use Rattle.film_draw.proofs.Tables.{draw_ready}
use Rattle.promise_films.specs.Fitted.{Fitted, fit_rect, fit_foot}
use Rattle.promise_films.proofs.Accepted.{draw_table, ended_done, ended_none}
use Rattle.promise_films.proofs.Demand1.{prepare_says, enhance_says, draw_says}
use Rattle.promise_films.proofs.Runs.{PrepareCall, Prepares, EnhanceCall, Enhances, DrawCall, Draws, draw_ends}
use Rattle.promise_films.proofs.Ways.{drawn_grey}
use Rattle.promise_films.proofs.Fitted.{fitted_film}
use Rattle.promise_counts.proofs.Runs.{CountCall, Counts, MapCall, Maps, map_ends}
use Rattle.promise_counts.proofs.Order5.{count_says, map_says, counts_own}
use Rattle.promise_counts.proofs.Tables.{map_table, counted_tiled, map_told, mapped_asks}
use Rattle.promise_fitted.specs.Before.{fit_prepare_rows, fit_enhance_rows, fit_draw_rows, fit_count_rows, fit_map_rows, fit_shown, fit_mappings_from, fit_read_text, fit_listing_of}
use Rattle.promise_fitted.proofs.Tables.{prepare_same, enhance_same, draw_same, count_same, map_same, old_fitted}
use Rattle.pgm_header.specs.Header.{Found}
use Rattle.pgm_header.specs.Header.{header_of}
use Rattle.pgm_samples.specs.Samples.{is_wide, unpacked}
use Rattle.pgm_read.specs.Pgm.{read_of}
use Rattle.pgm_write.specs.Write.{wrote, write_leaves}
use Rattle.listing_line.specs.Lines.{refused_text}
use Rattle.listing_file.specs.Listing.{is_larger_of, read_text, listing_of, text_rows, list_of}
use Rattle.listing_file.proofs.Outcomes.{ListCall, Lists, list_ends}
use Rattle.promise_fitted.proofs.Calls.{fitted_sums, ready_shown, mappings_same}
use Rattle.promise_fitted.proofs.Listing.{picture_same}

-- ---- the refusals

-- of a film whose sides are multiples of its grid: prepare says what the old table gives
pub fitted_prepare_says : {p : PrepareCall} → Prepares p → Fitted p.width p.height p.settings
    → p.answer
    ≡ says (first (fit_prepare_rows p.width p.height p.pixels p.settings (length p.map) (length p.scratch) (length p.list)))
    (record_of p.film p.width p.height p.settings, foot_of p.width p.height p.settings)
fitted_prepare_says {p} ran fitted =
    prepare_says ran
    ∙ ap (λ n. says n (record_of p.film p.width p.height p.settings, foot_of p.width p.height p.settings))
    (prepare_same p.width p.height p.settings fitted p.pixels (length p.map) (length p.scratch) (length p.list))

-- so does enhance
pub fitted_enhance_says : {e : EnhanceCall} → Enhances e → Fitted e.width e.height e.settings
    → e.answer
    ≡ says (first (fit_enhance_rows e.width e.height e.pixels e.settings (length e.map) (length e.scratch))) (foot_of e.width e.height e.settings)
fitted_enhance_says {e} ran fitted =
    enhance_says ran
    ∙ ap (λ n. says n (foot_of e.width e.height e.settings)) (enhance_same e.width e.height e.settings fitted e.pixels (length e.map) (length e.scratch))

-- draw
pub fitted_draw_says : {d : DrawCall} → Draws d → Fitted d.width d.height d.settings
    → d.answer ≡ says (first (fit_draw_rows d.film d.width d.height d.pixels d.settings d.kept d.window d.map (length d.out))) tt
fitted_draw_says {d} ran fitted =
    draw_says ran ∙ ap (λ n. says n tt) (draw_same d.width d.height d.settings fitted d.film d.pixels d.kept d.window d.map (length d.out))

-- and counting
pub fitted_count_says : {c : CountCall} → Counts c → Fitted c.width c.height c.settings
    → c.answer ≡ says (first (fit_count_rows c.width c.height c.pixels c.settings (length c.counts))) tt
fitted_count_says {c} ran fitted =
    count_says ran ∙ ap (λ n. says n tt) (count_same c.width c.height c.settings fitted c.pixels (length c.counts))

-- and mapping, where a tile's counts add up to N as it was
pub fitted_map_says : {d : MapCall} → Maps d → Fitted d.width d.height d.settings
    → d.answer
    ≡ says (first (fit_map_rows d.width d.height d.settings d.counts (length d.map) (length d.scratch) (length d.list)))
    (record_of d.film d.width d.height d.settings, foot_of d.width d.height d.settings)
fitted_map_says {d} ran fitted =
    map_says ran
    ∙ ap (λ n. says n (record_of d.film d.width d.height d.settings, foot_of d.width d.height d.settings))
    (map_same d.width d.height d.settings fitted d.counts (length d.map) (length d.scratch) (length d.list) (fitted_sums d fitted))

-- films that the old table let pass are still accepted: prepare
pub fitted_accepted : {p : PrepareCall} → Prepares p
    → first (fit_prepare_rows p.width p.height p.pixels p.settings (length p.map) (length p.scratch) (length p.list)) ≡ 0
    → p.answer ≡ accepted (record_of p.film p.width p.height p.settings, foot_of p.width p.height p.settings)
fitted_accepted {p} ran none =
    fitted_prepare_says ran (old_fitted p.width p.height p.settings (length p.pixels) (length p.map) _ none)
    ∙ ap (λ n. says n (record_of p.film p.width p.height p.settings, foot_of p.width p.height p.settings)) none

-- and draw
pub fitted_draw_accepted : {d : DrawCall} → Draws d
    → first (fit_draw_rows d.film d.width d.height d.pixels d.settings d.kept d.window d.map (length d.out)) ≡ 0 → d.answer ≡ accepted tt
fitted_draw_accepted {d} ran none =
    fitted_draw_says ran (old_fitted d.width d.height d.settings (length d.pixels) (length d.map) _ none) ∙ ap (λ n. says n tt) none

-- ---- a window from any map buffer

-- "from the map entries as lent, whoever wrote them": each drawn pixel is the old rule's of these entries
pub fitted_drawn_any : {d : DrawCall} → Draws d → d.answer ≡ accepted tt → Fitted d.width d.height d.settings → clip_one_of d.settings.clip ≡ false
    → (j i : ℕ) → j < d.window.height → i < d.window.width
    → drawn_grey d i j
    ≡ fit_shown d.width d.height d.settings d.map (d.window.left + i) (d.window.top + j) (get_or d.pixels ((d.window.top + j) * d.width + (d.window.left + i)) 0)
fitted_drawn_any {d} ran done fitted one j i l k =
    ap (λ (z : DrawOut). get_or z.out (j * d.window.width + i) 0) (ended_done (draw_table _ _ _ _ _ _ _ _ _) (draw_ends ran) done)
    ∙ ready_shown d (draw_ready _ _ _ _ _ _ _ _ _ (ended_none (draw_table _ _ _ _ _ _ _ _ _) (draw_ends ran) done)) fitted one j i l k

-- ---- counting and mapping

-- each tile's counts are those of the tile as it was
pub fitted_counted : {c : CountCall} → Counts c → c.answer ≡ accepted tt → Fitted c.width c.height c.settings → (k : ℕ) → k < c.settings.across * c.settings.down
    → counts_in c.settings c.counts' k
    ≡ counts_of c.settings.min c.settings.max (bins_of c.settings) (greys_of c.pixels c.width (fit_rect c.width c.height c.settings k))
fitted_counted {c} ran done fitted k l =
    counts_own ran done k l
    ∙ ap (λ r. counts_of c.settings.min c.settings.max (bins_of c.settings) (greys_of c.pixels c.width r)) ((fitted_film (counted_tiled ran done) fitted c.pixels).tiles k)

-- of any counts, the mappings (at the factor 1.0 the map buffer stays) and the footer are those of before
pub fitted_mapped : {d : MapCall} {r : MapRecord} {foot : Footer} → Maps d → d.answer ≡ accepted (r, foot) → Fitted d.width d.height d.settings
    → (d.map' ≡ cond (clip_one_of d.settings.clip) d.map (onto d.map (fit_mappings_from d.width d.height d.settings d.counts)))
    × (foot ≡ fit_foot d.width d.height d.settings)
unfolding map_done_of
fitted_mapped {d} ran done fitted =
    let same = fitted_film (mapped_asks ran done).tiled fitted [] in (
      ap (λ (y : PrepareOut). y.map) (ended_done (map_table _ _ _ _ _ _ _ _) (map_ends ran) done)
          ∙ ap (λ ys. cond (clip_one_of d.settings.clip) d.map (onto d.map ys)) (mappings_same d same),
      sym (map_told ran done).2 ∙ same.foot,
    )

-- ---- the listing

-- the listing of a file whose film has even sides, its grid being 2 by 2, is the old one
pub fitted_listed : {c : ListCall} → Lists c → {w h m at : ℕ} → read_of c.bytes ≡ Found w h m at → w % 2 ≡ 0 → h % 2 ≡ 0
    → write_leaves c.answer c.out' ≡ wrote (text_rows (length c.out)) c.out (fit_listing_of c.bytes)
unfolding list_of listing_of fit_listing_of
fitted_listed {c} ran {w} {h} {m} {at} found wide high =
    list_ends ran
    ∙ ap (λ text. wrote (text_rows (length c.out)) c.out (cond (ltb 32768 (length c.bytes)) (refused_text 22) (cond (is_larger_of (header_of c.bytes)) (refused_text 22) text)))
    (ap (λ head. read_text head c.bytes) found
    ∙ picture_same w h m (unpacked (is_wide m) (drop at c.bytes) (w * h)) (record { columns = wide; rows = high })
    ∙ sym (ap (λ head. fit_read_text head c.bytes) found))
