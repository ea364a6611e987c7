-- Demand 2 of the outcomes that the contracts of prepare, enhance and draw cite: each tile's own mapping, each pixel the one of the integer rule, whole and through a window.
-- Assumes nothing.
use Prim.Native.Nat.{ℕ, ◌+◌, ◌*◌, ◌≤◌, ◌<◌}
use mathlib.Core.Bool.{Bool, true, false, cond}
use mathlib.Core.List.{List}
use mathlib.Core.Path.{◌≡◌, refl, sym, ap, ap₂, ◌∙◌}
use native.Mathlib.Nat.{mul_comm, zero-add}
use native.Mathlib.Omega.{arith}
use lib.ListN.{length, get_or, get_or-append}
use lib.Arith.{digits_lt}
use Rattle.base_lists.specs.Lists.{onto}
use Rattle.base_lists.proofs.Blocks.{block_fits}
use Rattle.base_lists.proofs.Alls.{all_at}
use Rattle.base_rows.specs.Refuse.{first, accepted, says}
use Rattle.base_range.specs.Scan.{within}
use Rattle.tile_count.specs.Tally.{greys_of}
use Rattle.tile_limit.specs.declared.Clip.TheVariants.{Off}
use Rattle.tile_limit.specs.declared.Edition.TheVariants.{Ours}
use Rattle.tile_map.specs.Tile.{mapped_of, tile_counts, tile_divides}
use Rattle.tile_map.proofs.Tiles.{divides_ours, divides_off, tile_counts_off}
use Rattle.film_settings.specs.declared.Settings.{Settings}
use Rattle.film_settings.specs.declared.MapRecord.{MapRecord}
use Rattle.film_settings.specs.declared.Footer.{Footer}
use Rattle.film_settings.specs.declared.Window.{Window}
use Rattle.film_settings.specs.Settings.{bins_of, entries_of, clip_one_of}
use Rattle.pixel_render.specs.Render.{rect_of, rendered_of, render_of, whole}
use Rattle.tile_count.proofs.Greys.{get_or_greys}
use Rattle.pixel_render.proofs.Laws.{render_at, window_law}
use Rattle.film_tiles.specs.Tiles.{tile_of, pixels_in, mappings, Work, TilesReady}
use Rattle.film_tiles.proofs.Tiles.{length_tile_greys}
use Rattle.film_count.specs.Counting.{raw_counts}
use Rattle.film_prepare.specs.Prepare.{PrepareOut, prepare_of, prepared_of, EnhanceOut, enhance_of, enhanced_of}
use Rattle.film_prepare.proofs.Table.{rows_any}
use Rattle.film_tiles.proofs.Films.{length_mappings, mappings_own}
use Rattle.film_prepare.proofs.Renders.{laid_mapped, laid_render}
use Rattle.film_draw.specs.Draw.{draw_rows, DrawOut, draw_of}
use Rattle.pixel_rule.specs.Rule.{rule_grey}
use Rattle.pixel_rule.proofs.Rule.{rendered_rule}
use Rattle.promise_films.specs.Films.{clipped_counts, divides_in, HandedOn}
use Rattle.promise_films.proofs.Accepted.{table_says, prepare_accepts, prepare_work, prepare_done, prepare_foot, enhance_table, enhance_work, enhance_done, draw_table}
use Rattle.film_draw.proofs.Like.{drawn_pixels_lem, draw_kept, draw_room}
use Rattle.promise_films.proofs.Reuse.{left_room, left_laid, left_asks, draw_free}

-- ---- each tile's own mapping

module _ (w h : ℕ) (pic : List ℕ) (s : Settings) (k : ℕ) where
  -- in our edition it divides by the tile's pixels
  pub divides_pixels : s.edition ≡ Ours → divides_in w h pic s k ≡ pixels_in w h s k
  divides_pixels ours =
      ap (λ e. tile_divides s.min s.max (bins_of s) e s.clip (greys_of pic w (tile_of w h s k))) ours
      ∙ divides_ours s.min s.max (bins_of s) s.clip (greys_of pic w (tile_of w h s k))
      ∙ length_tile_greys w h pic s k

  -- order 8, "Clip off .. stay as in 01": so it does with clip off in both
  pub divides_pixels_off : s.clip ≡ Off → divides_in w h pic s k ≡ pixels_in w h s k
  divides_pixels_off off =
      ap (λ c. tile_divides s.min s.max (bins_of s) s.edition c (greys_of pic w (tile_of w h s k))) off
      ∙ divides_off s.min s.max (bins_of s) s.edition (greys_of pic w (tile_of w h s k))
      ∙ length_tile_greys w h pic s k

  -- and "the raw counts are mapped"
  pub counts_raw_off : s.clip ≡ Off → clipped_counts w h pic s k ≡ raw_counts w h pic s k
  counts_raw_off off =
      ap (λ c. tile_counts s.min s.max (bins_of s) s.edition c (greys_of pic w (tile_of w h s k))) off
      ∙ tile_counts_off s.min s.max (bins_of s) s.edition (greys_of pic w (tile_of w h s k))

-- the entry of tile k and bin b of a buffer that the mappings were laid down in
laid_own : (w h : ℕ) (pic : List ℕ) (s : Settings) (m : List ℕ) (k b : ℕ) → k < s.across * s.down → b < bins_of s
    → get_or (onto m (mappings w h pic s)) (k * bins_of s + b) 0 ≡ mapped_of s.min s.max (divides_in w h pic s k) (clipped_counts w h pic s k) b
unfolding onto
laid_own w h pic s m k b l q =
    get_or-append (mappings w h pic s) _ 0 (k * bins_of s + b)
    (omega (arith, length_mappings w h pic s, block_fits (bins_of s) (s.across * s.down) {len = entries_of s} l (omega arith)))
    ∙ mappings_own w h pic s k b l q

-- "the one that the integer rule of document 01 gives for that film's own pixels and settings": the map entry of tile k and bin b that prepare leaves
-- is the mapped value of that tile's own clipped counts, over N or, in the edition of 1986, T, for every tile and bin
pub own_mapping : (film w h : ℕ) (pic : List ℕ) (s : Settings) (m t n : List ℕ) {r : MapRecord} {foot : Footer}
    → (prepare_of film w h pic s m t n).answer ≡ accepted (r, foot) → clip_one_of s.clip ≡ false → (k b : ℕ) → k < s.across * s.down → b < bins_of s
    → get_or (prepare_of film w h pic s m t n).map (k * bins_of s + b) 0 ≡ mapped_of s.min s.max (divides_in w h pic s k) (clipped_counts w h pic s k) b
unfolding prepared_of
own_mapping film w h pic s m t n e one k b l q =
    ap (λ (x : PrepareOut). get_or x.map (k * bins_of s + b) 0) (prepare_done film w h pic s m t n e)
    ∙ ap (λ o. get_or (cond o m (onto m (mappings w h pic s))) (k * bins_of s + b) 0) one
    ∙ laid_own w h pic s m k b l q

-- the same of the map entries that enhance leaves
pub own_mapping_enhance : (w h : ℕ) (pic : List ℕ) (s : Settings) (m t : List ℕ) {foot : Footer}
    → (enhance_of w h pic s m t).answer ≡ accepted foot → clip_one_of s.clip ≡ false → (k b : ℕ) → k < s.across * s.down → b < bins_of s
    → get_or (enhance_of w h pic s m t).map (k * bins_of s + b) 0 ≡ mapped_of s.min s.max (divides_in w h pic s k) (clipped_counts w h pic s k) b
unfolding enhanced_of
own_mapping_enhance w h pic s m t e one k b l q =
    ap (λ (x : EnhanceOut). get_or x.map (k * bins_of s + b) 0) (enhance_done w h pic s m t e)
    ∙ ap (λ o. get_or (cond o m (onto m (mappings w h pic s))) (k * bins_of s + b) 0) one
    ∙ laid_own w h pic s m k b l q

-- ---- the whole film

-- a pixel that is rendered from the mappings as they were laid down
laid_grey : (m : List ℕ) {w h : ℕ} {pic : List ℕ} {s : Settings} {scratch : ℕ} → TilesReady w h pic s (length m) scratch → (x y : ℕ) → x < w → y < h
    → within s.min s.max (get_or pic (y * w + x) 0) ≡ true
    → rendered_of w h s (onto m (mappings w h pic s)) x y (get_or pic (y * w + x) 0) ≡ rule_grey w h pic s x y
laid_grey m {w} {h} {pic} {s} asks x y l k g =
    rendered_rule (record { mapped = laid_mapped m asks refl; own = laid_own w h pic s m }) x y l k g

-- "The rendering of every accepted film is the one that the integer rule of document 01 gives for that film's own pixels and settings: whole":
-- each pixel of enhance's picture
pub own_rendering : (w h : ℕ) (pic : List ℕ) (s : Settings) (m t : List ℕ) {foot : Footer}
    → (enhance_of w h pic s m t).answer ≡ accepted foot → clip_one_of s.clip ≡ false → (x y : ℕ) → x < w → y < h
    → get_or (enhance_of w h pic s m t).picture (y * w + x) 0 ≡ rule_grey w h pic s x y
unfolding enhanced_of
own_rendering w h pic s m t e one x y l k =
    ap (λ (a : EnhanceOut). get_or a.picture (y * w + x) 0) (enhance_done w h pic s m t e)
    ∙ ap (λ o. get_or (cond o pic (render_of w h s (mappings w h pic s) (whole w h) pic)) (y * w + x) 0) one
    ∙ ap (λ ys. get_or ys (y * w + x) 0) (sym (laid_render m asks refl refl))
    ∙ render_at w h s (onto m (mappings w h pic s)) (whole w h) pic k l
    ∙ ap₂ (λ a b. rendered_of w h s (onto m (mappings w h pic s)) a b (get_or pic (y * w + x) 0)) (zero-add x) (zero-add y)
    ∙ laid_grey m asks x y l k
    (all_at (within s.min s.max) pic known.greys (y * w + x) 0 (omega (arith, known.ready.whole, mul_comm w h, digits_lt {q = y} {m = h} {r = x} {c = w} k l)))
  where
    known : Work w h pic s (length m) (length t)
    known = enhance_work w h pic s m t e

    asks : TilesReady w h pic s (length m) (length t)
    asks = record { work = known; changes = one }

-- at the factor 1.0 enhance changes nothing
pub own_pixels : (w h : ℕ) (pic : List ℕ) (s : Settings) (m t : List ℕ) {foot : Footer}
    → (enhance_of w h pic s m t).answer ≡ accepted foot → clip_one_of s.clip ≡ true → (enhance_of w h pic s m t).picture ≡ pic
unfolding enhanced_of
own_pixels w h pic s m t e one =
    ap (λ (a : EnhanceOut). a.picture) (enhance_done w h pic s m t e) ∙ ap (λ o. cond o pic (render_of w h s (mappings w h pic s) (whole w h) pic)) one

-- ---- a window from what prepare left

module _ (film w h : ℕ) (pic : List ℕ) (s : Settings) (m t n : List ℕ) {r : MapRecord} {foot : Footer} (done : (prepare_of film w h pic s m t n).answer ≡ accepted (r, foot)) where
  -- what prepare accepts enhance accepts, with the same footer, where its buffers are long enough
  pub enhance_agrees : (m₂ t₂ : List ℕ) → entries_of s ≤ length m₂ → bins_of s ≤ length t₂ → (enhance_of w h pic s m₂ t₂).answer ≡ accepted foot
  enhance_agrees m₂ t₂ room scratch =
      table_says (enhance_table w h pic s m₂ t₂)
      ∙ ap₂ says (rows_any w h pic s (length m) (length t) (length m₂) (length t₂) (length n) (prepare_accepts film w h pic s m t n done) room scratch) (prepare_foot film w h pic s m t n done)

  -- settings s' that are kept as s are, and a map buffer m' whose first entries are those that prepare left
  module _ (s' : Settings) (m' : List ℕ) (win : Window) (out : List ℕ) (handed : HandedOn w h s (prepare_of film w h pic s m t n).map s' m' win (length out)) where
    -- draw looks at it as at the film's own
    draw_same : draw_of film w h pic s' r win m' out ≡ draw_of film w h pic s r win (prepare_of film w h pic s m t n).map out
    draw_same =
        sym (draw_kept film w h pic s' r win m' out)
        ∙ ap (λ x. draw_of film w h pic x r win m' out) handed.like
        ∙ draw_kept film w h pic s r win m' out
        ∙ draw_room film w h pic s r win m' (prepare_of film w h pic s m t n).map out handed.long (left_room film w h pic s m t n done) handed.front

    draw_none : first (draw_rows film w h pic s r win (prepare_of film w h pic s m t n).map (length out)) ≡ 0
    draw_none = draw_free film w h pic s m t n done win (length out) handed.wide handed.high handed.across handed.down handed.area

    -- it accepts a window inside the film, and an output of its area, with the record and the mappings that prepare left
    pub draw_agrees : (draw_of film w h pic s' r win m' out).answer ≡ accepted tt
    draw_agrees =
        ap (λ (x : DrawOut). x.answer) draw_same
        ∙ table_says (draw_table film w h pic s r win (prepare_of film w h pic s m t n).map out)
        ∙ ap (λ n. says n tt) draw_none

    -- and draws it from those mappings
    drawn_from : (draw_of film w h pic s' r win m' out).out
        ≡ cond (clip_one_of s.clip) (greys_of pic w (rect_of win)) (render_of w h s (prepare_of film w h pic s m t n).map win (greys_of pic w (rect_of win)))
    drawn_from =
        ap (λ (x : DrawOut). x.out) (draw_same ∙ (draw_table film w h pic s r win (prepare_of film w h pic s m t n).map out).when_none draw_none)
        ∙ drawn_pixels_lem w h pic s win (prepare_of film w h pic s m t n).map

    -- "With the record and buffer that prepare left for the film, and the film's pixels as they were then, each drawn pixel is the one in enhance's picture."
    pub drawn_is_enhanced : (m₂ t₂ : List ℕ) → entries_of s ≤ length m₂ → bins_of s ≤ length t₂ → (j i : ℕ) → j < win.height → i < win.width
        → get_or (draw_of film w h pic s' r win m' out).out (j * win.width + i) 0
        ≡ get_or (enhance_of w h pic s m₂ t₂).picture ((win.top + j) * w + (win.left + i)) 0
    unfolding enhanced_of
    drawn_is_enhanced m₂ t₂ room scratch j i l k =
        ap (λ ys. get_or ys (j * win.width + i) 0) drawn_from
        ∙ same (clip_one_of s.clip) refl
        ∙ sym (ap (λ (x : EnhanceOut). get_or x.picture ((win.top + j) * w + (win.left + i)) 0) (enhance_done w h pic s m₂ t₂ (enhance_agrees m₂ t₂ room scratch)))
      where
        same : (b : Bool) → clip_one_of s.clip ≡ b
            → get_or (cond b (greys_of pic w (rect_of win)) (render_of w h s (prepare_of film w h pic s m t n).map win (greys_of pic w (rect_of win)))) (j * win.width + i) 0
            ≡ get_or (cond b pic (render_of w h s (mappings w h pic s) (whole w h) pic)) ((win.top + j) * w + (win.left + i)) 0
        same true e = get_or_greys pic w (rect_of win) l k
        same false e =
            window_law w h s (prepare_of film w h pic s m t n).map win pic handed.across handed.down l k
            ∙ ap (λ ys. get_or ys ((win.top + j) * w + (win.left + i)) 0) (laid_render m (left_asks film w h pic s m t n done e) (left_laid film w h pic s m t n done e) refl)

    -- "or through a window from the record and mappings prepared for those pixels and unchanged since": each drawn pixel is the one of the integer rule
    pub own_window : clip_one_of s.clip ≡ false → (j i : ℕ) → j < win.height → i < win.width
        → get_or (draw_of film w h pic s' r win m' out).out (j * win.width + i) 0 ≡ rule_grey w h pic s (win.left + i) (win.top + j)
    own_window one j i l k =
        drawn_is_enhanced m t known.ready.fitting known.bins j i l k
        ∙ own_rendering w h pic s m t (enhance_agrees m t known.ready.fitting known.bins) one (win.left + i) (win.top + j) (omega (arith, handed.across)) (omega (arith, handed.down))
      where
        known : Work w h pic s (length m) (length t)
        known = prepare_work film w h pic s m t n done

    -- at the factor 1.0 they are the film's own pixels
    pub drawn_is_film : clip_one_of s.clip ≡ true → (j i : ℕ) → j < win.height → i < win.width
        → get_or (draw_of film w h pic s' r win m' out).out (j * win.width + i) 0 ≡ get_or pic ((win.top + j) * w + (win.left + i)) 0
    drawn_is_film one j i l k =
        ap (λ ys. get_or ys (j * win.width + i) 0) drawn_from
        ∙ ap (λ b. get_or (cond b (greys_of pic w (rect_of win)) (render_of w h s (prepare_of film w h pic s m t n).map win (greys_of pic w (rect_of win)))) (j * win.width + i) 0) one
        ∙ get_or_greys pic w (rect_of win) l k
