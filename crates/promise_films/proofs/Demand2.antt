-- Document 00, demand 2: "The rendering of every accepted film is the one that the integer rule of document 01 gives for that film's own pixels and settings", whole, and "through a window from the record and
-- mappings prepared for those pixels and unchanged since"; "A window drawn with the record of a film of another number is refused."; and "a film written and read back is the same film".
-- Promises alone: of every run of the calls by their contracts (Runs), each listed in docs/PROMISES.md. A name with ' is lent memory at the end.
-- Assumes nothing.
use Prim.Native.Nat.{ℕ, ◌+◌, ◌*◌, ◌≤◌, ◌<◌, ◌-◌}
use mathlib.Core.Bool.{true, false}
use mathlib.Core.Logic.{◌≢◌}
use mathlib.Core.Path.{◌≡◌, refl, sym, ap, ◌∙◌}
use native.Mathlib.Omega.{arith}
use lib.ListN.{length, get_or, take, drop}
use Rattle.base_rows.specs.Refuse.{first, accepted, refused}
use Rattle.base_rows.proofs.Told.{told_same}
use Rattle.tile_map.specs.Tile.{mapped_of}
use Rattle.film_settings.specs.declared.MapRecord.{MapRecord}
use Rattle.film_settings.specs.declared.Footer.{Footer}
use Rattle.film_settings.specs.Settings.{bins_of, kept_of, clip_one_of, same_clip_of, shared_rows}
use Rattle.film_tiles.specs.Tiles.{pixels_in}
use Rattle.film_prepare.specs.Prepare.{prepare_of, enhance_of}
use Rattle.film_record.specs.Held.{Held}
use Rattle.film_draw.specs.Draw.{draw_rows, draw_of}
use Rattle.film_draw.proofs.Laws.{other_field}
use Rattle.film_draw.proofs.Tables.{draw_ready}
use Rattle.pixel_rule.specs.Rule.{rule_grey}
use Rattle.promise_films.specs.Films.{clipped_counts, divides_in, ClipCase, FooterShows}
use Rattle.promise_films.proofs.Accepted.{refused_says, some_says}
use Rattle.film_prepare.proofs.Like.{enhance_kept, prepare_kept}
use Rattle.promise_films.proofs.Demand1.{draw_refusal_keeps, draw_says}
use Rattle.promise_films.proofs.Ended.{draw_shown}
use Rattle.promise_films.proofs.Runs.{PrepareCall, Prepares, prepare_ends, EnhanceCall, Enhances, enhance_ends, DrawCall, Draws, draw_ends, prepare_read, enhance_read, draw_read, SizesCall, ReadsSizes, sizes_ends, RasterCall, ReadsRaster, raster_ends, GreysCall, greys_ends, WriteCall, Writes, write_ends}
use Rattle.promise_films.proofs.Ways.{Refuses, HandedToDraw, DrawnFrom, EnhancesFilm, drawn_grey, ReadTwice, ReadBack}
use Rattle.promise_films.proofs.Told.{prepared_told}
use Rattle.pgm_read.specs.Pgm.{read_of, raster_of, raster_start}
use Rattle.pgm_greys.specs.Greys.{GreysOut}
use Rattle.pgm_write.specs.Write.{write_of, write_leaves, write_rows, file_of, WriteOut}
use Rattle.base_lists.specs.Lists.{onto}
use Rattle.base_lists.proofs.Fills.{take_onto}
use Rattle.pgm_header.specs.Grammar.{Header}
use Rattle.pgm_raster.specs.Raster.{raster_size_of}
use Rattle.promise_films.proofs.Files.{raster_behind, written_count, file_greys, file_again, file_pixels}
use Rattle.promise_films.proofs.Alike.{prepares_alike, enhances_alike, draws_alike, draw_reads}
use Rattle.promise_films.proofs.Back.{twice_found, raster_stands, write_sizes, back_same, back_bytes, write_none, write_laid, write_file}
use Rattle.promise_films.proofs.Made.{prepare_made, made_film, made_settings, made_by_rule, made_footer, made_clip, handed_done, handed_film, shown_by_rule, shown_as_film, shown_as_enhanced, enhances_same}
use Rattle.promise_films.proofs.Whole.{whole_by_rule, whole_as_film, whole_mapped_by_rule, whole_footer, whole_clip}
pub use Rattle.promise_films.proofs.Rendering.{draw_agrees, own_window, drawn_is_film}

-- ---- the whole film

-- a film that enhance accepted
module _ {e : EnhanceCall} {foot : Footer} (ran : Enhances e) (enhanced : e.answer ≡ accepted foot) where
  -- "The rendering of every accepted film is the one that the integer rule of document 01 gives for that film's own pixels and settings: whole"
  pub enhanced_by_rule : clip_one_of e.settings.clip ≡ false → (i j : ℕ) → i < e.width → j < e.height
      → get_or e.pixels' (j * e.width + i) 0 ≡ rule_grey e.width e.height e.pixels e.settings i j
  enhanced_by_rule = whole_by_rule e (enhance_ends ran) enhanced

  -- at the factor 1.0 the film is unchanged
  pub enhanced_as_film : clip_one_of e.settings.clip ≡ true → e.pixels' ≡ e.pixels
  enhanced_as_film = whole_as_film e (enhance_ends ran) enhanced

  -- "the same buffers": each tile's own mapping lies in the map buffer
  pub enhanced_mapped_by_rule : clip_one_of e.settings.clip ≡ false → (k b : ℕ) → k < e.settings.across * e.settings.down → b < bins_of e.settings
      → get_or e.map' (k * bins_of e.settings + b) 0
      ≡ mapped_of e.settings.min e.settings.max (divides_in e.width e.height e.pixels e.settings k) (clipped_counts e.width e.height e.pixels e.settings k) b
  enhanced_mapped_by_rule = whole_mapped_by_rule e (enhance_ends ran) enhanced

-- ---- what prepare left

-- a film that prepare accepted, answering the record r
module _ {p : PrepareCall} {r : MapRecord} {foot : Footer} (ran : Prepares p) (prepared : p.answer ≡ accepted (r, foot)) where
  -- each tile's own mapping lies in the map buffer
  pub prepared_by_rule : clip_one_of p.settings.clip ≡ false → (k b : ℕ) → k < p.settings.across * p.settings.down → b < bins_of p.settings
      → get_or p.map' (k * bins_of p.settings + b) 0
      ≡ mapped_of p.settings.min p.settings.max (divides_in p.width p.height p.pixels p.settings k) (clipped_counts p.width p.height p.pixels p.settings k) b
  prepared_by_rule = made_by_rule (prepare_made ran prepared)

  -- the record's own settings can be handed on for those that were asked
  pub record_settings : kept_of r.settings ≡ kept_of p.settings
  record_settings = made_settings (prepare_made ran prepared)

-- ---- a window from what prepare left

-- what prepare left, handed to draw, is drawn
pub drawn_done : {p : PrepareCall} {foot : Footer} {d : DrawCall} → HandedToDraw p foot d → d.answer ≡ accepted tt
drawn_done handed = handed_done (prepare_made handed.prepares handed.prepared) (draw_shown handed.draws) (handed_film handed)

-- so all that follows is said of it
pub handed_drawn : {p : PrepareCall} {foot : Footer} {d : DrawCall} → HandedToDraw p foot d → DrawnFrom p foot d
handed_drawn handed =
    record {
      prepares = handed.prepares;
      prepared = handed.prepared;
      draws = handed.draws;
      drawn = drawn_done handed;
      pixels = handed.pixels;
      mappings = handed.rest.front;
    }

module _ {p : PrepareCall} {foot : Footer} {d : DrawCall} (from : DrawnFrom p foot d) where
  -- "or through a window from the record and mappings prepared for those pixels and unchanged since"
  pub drawn_by_rule : clip_one_of p.settings.clip ≡ false → (j i : ℕ) → j < d.window.height → i < d.window.width
      → drawn_grey d i j ≡ rule_grey p.width p.height p.pixels p.settings (d.window.left + i) (d.window.top + j)
  drawn_by_rule = shown_by_rule (prepare_made from.prepares from.prepared) (draw_shown from.draws) from.drawn from.pixels from.mappings

  -- at the factor 1.0 the film's own pixels
  pub drawn_as_film : clip_one_of p.settings.clip ≡ true → (j i : ℕ) → j < d.window.height → i < d.window.width
      → drawn_grey d i j ≡ get_or p.pixels ((d.window.top + j) * p.width + (d.window.left + i)) 0
  drawn_as_film = shown_as_film (prepare_made from.prepares from.prepared) (draw_shown from.draws) from.drawn from.pixels from.mappings

  -- "With the record and buffer that prepare left for the film, and the film's pixels as they were then, each drawn pixel is the one in enhance's picture.",
  -- which enhance renders with the same footer
  pub drawn_as_enhanced : {e : EnhanceCall} → EnhancesFilm p e
      → (e.answer ≡ accepted foot)
      × ((j i : ℕ) → j < d.window.height → i < d.window.width → drawn_grey d i j ≡ get_or e.pixels' ((d.window.top + j) * p.width + (d.window.left + i)) 0)
  drawn_as_enhanced too = shown_as_enhanced (prepare_made from.prepares from.prepared) (draw_shown from.draws) from.drawn from.pixels from.mappings (enhance_ends too.enhances) (enhances_same too)

-- ---- the footer

-- a film that prepare accepted, answering this footer
module _ {p : PrepareCall} {r : MapRecord} {foot : Footer} (ran : Prepares p) (done : p.answer ≡ accepted (r, foot)) where
  -- "a footer record with L, the factor asked as f32 and the factor used as f64": what it shows, by the clip setting
  pub prepared_footer : FooterShows p.settings.clip (pixels_in p.width p.height p.settings 0) (bins_of p.settings) foot
  prepared_footer = made_footer (prepare_made ran done)

  -- which is off, exactly 1.0, or a factor above one
  pub prepared_clip : ClipCase p.settings.clip
  prepared_clip = made_clip (prepare_made ran done)

-- a film that enhance accepted, answering this footer
module _ {e : EnhanceCall} {foot : Footer} (ran : Enhances e) (done : e.answer ≡ accepted foot) where
  -- "the same .. footer"
  pub enhanced_footer : FooterShows e.settings.clip (pixels_in e.width e.height e.settings 0) (bins_of e.settings) foot
  enhanced_footer = whole_footer e (enhance_ends ran) done

  -- by a clip setting that is off, exactly 1.0, or a factor above one
  pub enhanced_clip : ClipCase e.settings.clip
  enhanced_clip = whole_clip e (enhance_ends ran) done

-- ---- what is read

-- "Bins B: 2 to 4096. 0 means 128.": prepare answers and leaves the same for 0 as for 128
pub prepare_alike : {p q : PrepareCall} (x : Prepares p) (y : Prepares q) → prepare_read p ≡ prepare_read q
    → (x.run.answer ≡ y.run.answer) × (p.answer ≡ q.answer) × (p.map' ≡ q.map') × (p.scratch' ≡ q.scratch') × (p.list' ≡ q.list')
prepare_alike {p} {q} x y same =
    let e = prepares_alike prepare_of prepare_kept p q (prepare_ends x) (prepare_ends y) same in
    (prepared_told (ap (λ (z : PrepareCall). z.answer) x.named) (ap (λ (z : PrepareCall). z.answer) y.named) e.0, e.0, e.1, e.2, e.3)

-- and so does enhance
pub enhance_alike : {e f : EnhanceCall} (x : Enhances e) (y : Enhances f) → enhance_read e ≡ enhance_read f
    → (x.run.answer ≡ y.run.answer) × (e.answer ≡ f.answer) × (e.pixels' ≡ f.pixels') × (e.map' ≡ f.map') × (e.scratch' ≡ f.scratch')
enhance_alike {e} {f} x y same =
    let k = enhances_alike enhance_of enhance_kept e f (enhance_ends x) (enhance_ends y) same in
    (told_same (ap (λ (z : EnhanceCall). z.answer) x.named) (ap (λ (z : EnhanceCall). z.answer) y.named) k.0, k.0, k.1, k.2, k.3)

-- and draw, where the same is so of the record, and of the map buffer nothing is read but the mappings' entries
pub draw_alike : {d f : DrawCall} (x : Draws d) (y : Draws f) → draw_read d ≡ draw_read f
    → (x.run.answer ≡ y.run.answer) × (d.answer ≡ f.answer) × (d.out' ≡ f.out')
draw_alike {d} {f} x y same =
    let e = draws_alike draw_of draw_reads d f (draw_ends x) (draw_ends y) same in
    (told_same (ap (λ (z : DrawCall). z.answer) x.named) (ap (λ (z : DrawCall). z.answer) y.named) e.0, e.0, e.1)

-- ---- a record of another film

-- a record that differs in whatever field, for every picture, settings, window, map and output
pub draw_differing_refused : {d : DrawCall} → Draws d → (Held d.film d.width d.height d.settings d.kept → ⊥) → Refuses d
draw_differing_refused {d} ran other =
    let some = some_says (first (draw_rows d.film d.width d.height d.pixels d.settings d.kept d.window d.map (length d.out))) tt (λ e. other (draw_ready _ _ _ _ _ _ _ _ _ e).held) in
    let q = draw_says ran ∙ some.1 in
    (_, some.0, q, draw_refusal_keeps _ ran q)

-- "A window drawn with the record of a film of another number is refused."
pub draw_other_film_refused : {d : DrawCall} → Draws d → d.film ≢ d.kept.film → Refuses d
draw_other_film_refused ran other = draw_differing_refused ran (λ held. other held.number)

-- a film that prepare accepted, answering the record r
module _ {p : PrepareCall} {r : MapRecord} {foot : Footer} (ran : Prepares p) (prepared : p.answer ≡ accepted (r, foot)) where
  -- "A window drawn with the record of a film of another number is refused.": handed that record and another film's number, whatever else
  pub prepared_other_film : {d : DrawCall} → Draws d → d.kept ≡ r → d.film ≢ p.film → Refuses d
  prepared_other_film drew same other =
      draw_other_film_refused drew (λ e. other (e ∙ ap (λ (z : MapRecord). z.film) same ∙ made_film (prepare_made ran prepared)))

-- 15, "record differs in film number, size or any setting (bins 0 read as 128 on both sides)": given where none of 1 to 11 and 31 applies, whatever the window, the output,
-- the pixels and the map entries
module _ {d : DrawCall} (ran : Draws d) (shared : first (shared_rows d.width d.height (length d.pixels) d.settings (length d.map)) ≡ 0) where
  -- 15, "record differs in film number, size or any setting (bins 0 read as 128 on both sides)"
  pub draw_differing_15 : (Held d.film d.width d.height d.settings d.kept → ⊥) → d.answer ≡ refused 15
  draw_differing_15 other =
      draw_says ran ∙ refused_says _ tt (other_field d.film d.width d.height d.pixels d.settings d.kept d.window d.map (length d.out) shared other)

  -- in the film's number
  pub other_film_15 : d.film ≢ d.kept.film → d.answer ≡ refused 15
  other_film_15 other = draw_differing_15 (λ held. other held.number)

  -- in the width
  pub other_width_15 : d.width ≢ d.kept.width → d.answer ≡ refused 15
  other_width_15 other = draw_differing_15 (λ held. other held.wide)

  -- in the height
  pub other_height_15 : d.height ≢ d.kept.height → d.answer ≡ refused 15
  other_height_15 other = draw_differing_15 (λ held. other held.high)

  -- in the grid across
  pub other_across_15 : d.settings.across ≢ d.kept.settings.across → d.answer ≡ refused 15
  other_across_15 other = draw_differing_15 (λ held. other held.across)

  -- in the grid down
  pub other_down_15 : d.settings.down ≢ d.kept.settings.down → d.answer ≡ refused 15
  other_down_15 other = draw_differing_15 (λ held. other held.down)

  -- in the bins, "0 read as 128 on both sides"
  pub other_bins_15 : bins_of d.settings ≢ bins_of d.kept.settings → d.answer ≡ refused 15
  other_bins_15 other = draw_differing_15 (λ held. other held.bins)

  -- in Min
  pub other_min_15 : d.settings.min ≢ d.kept.settings.min → d.answer ≡ refused 15
  other_min_15 other = draw_differing_15 (λ held. other held.least)

  -- in Max
  pub other_max_15 : d.settings.max ≢ d.kept.settings.max → d.answer ≡ refused 15
  other_max_15 other = draw_differing_15 (λ held. other held.most)

  -- in the clip setting
  pub other_clip_15 : same_clip_of d.settings.clip d.kept.settings.clip ≢ true → d.answer ≡ refused 15
  other_clip_15 other = draw_differing_15 (λ held. other held.clip)

-- ---- files

-- "as that part of the caller's bytes": it lies where the raster starts in them
pub raster_place : {c : RasterCall} → ReadsRaster c → c.at ≡ (c.from.0, raster_start (read_of c.bytes) + c.from.1)
raster_place ran = rw ran.named ran.run.allowed.1

module _ {z : SizesCall} {k : RasterCall} (twice : ReadTwice z k) where
  -- "the raster handed back as that part of the caller's bytes": all that stands behind the header, as many bytes as the sizes and maxval ask
  pub raster_exactly : {w h m : ℕ} → z.answer ≡ accepted (w, h, m) → Header k.bytes w h m k.part × (length k.part ≡ raster_size_of w h m)
  raster_exactly q = rw (raster_ends twice.raster) (raster_behind k.bytes (sym ((twice_found twice)) ∙ q))

-- the raster stands so in the part that read handed back, from 0 on
pub part_handed : (k : RasterCall) (g : GreysCall) → g.bytes ≡ k.part → g.start ≡ 0 → drop g.start g.bytes ≡ k.part
part_handed k g part first_one = rw (part, first_one) refl

-- and in the whole file, from where that part starts
pub whole_handed : {k : RasterCall} (g : GreysCall) → ReadsRaster k → g.bytes ≡ k.bytes → g.start ≡ length k.bytes - length k.part → drop g.start g.bytes ≡ k.part
whole_handed {k} g ran whole start = rw (whole, start, raster_ends ran) (raster_stands k.bytes)

-- a film that write accepted, laying down n bytes
module _ {c : WriteCall} {n : ℕ} (ran : Writes c) (written : c.answer ≡ accepted n) where
  -- demand 2, "a film written and read back is the same film": read over those bytes says the film's width, height and maxval
  pub sizes_read_back : {z : SizesCall} → ReadsSizes z → z.bytes ≡ take n c.out' → z.answer ≡ accepted (c.width, c.height, c.maxval)
  sizes_read_back read same = (sizes_ends read) ∙ write_sizes ran written same

module _ {c : WriteCall} {n : ℕ} {z : SizesCall} {k : RasterCall} {g : GreysCall} (way : ReadBack c n z k g) where
  -- and greys of what read handed back, the part alone or the whole file with the raster's start, leave the film's greys in a target with room
  pub greys_read_back : (g.answer ≡ accepted tt) × (g.target' ≡ onto g.target c.pixels)
  greys_read_back =
      let x = greys_ends way.turns in
      let s = back_same way way.sizes in
      let y =
      file_greys c.pixels c.width c.height c.maxval (length c.out) (write_none way.writes way.written) g.bytes g.start g.target
      (way.raster ∙ raster_ends way.reads.raster ∙ ap (λ s. raster_of (read_of s) s) (back_bytes way)) (rw (← s.0, ← s.1) way.room) in
      (ap (λ (a : GreysOut). a.answer) x ∙ rw (s.0, s.1, s.2) y.0, ap (λ (a : GreysOut). a.target) x ∙ rw (s.0, s.1, s.2) y.1)

  -- the same from the file's side: those greys, written with the sizes and maxval that read gave into any output with room, are the same bytes
  pub same_bytes : {x : WriteCall} → Writes x → z.answer ≡ accepted (x.width, x.height, x.maxval) → x.pixels ≡ take (x.width * x.height) g.target' → n ≤ length x.out
      → (x.answer ≡ accepted n) × (x.out' ≡ onto x.out (take n c.out'))
  same_bytes {x} again sizes pixels room =
      let v = back_same way sizes in
      let written : first (write_rows c.pixels c.width c.height c.maxval (length c.out)) ≡ 0 = write_none way.writes way.written in
      let p : x.pixels ≡ c.pixels =
      pixels
      ∙ ap (take (x.width * x.height)) greys_read_back.1
      ∙ take_onto g.target c.pixels (x.width * x.height) (rw (v.0, v.1) (file_pixels c.pixels c.width c.height c.maxval (length c.out) written)) in
      let e : write_leaves x.answer x.out' ≡ write_of c.pixels c.width c.height c.maxval x.out = write_ends again ∙ rw (p, v.0, v.1, v.2) refl in
      let count : length (file_of c.pixels c.width c.height c.maxval) ≡ n = written_count _ _ _ _ _ c.out (write_laid way.writes way.written) in
      let y = file_again c.pixels c.width c.height c.maxval (length c.out) written x.out (omega arith) in (
        ap (λ (a : WriteOut). a.answer) e ∙ y.0 ∙ ap accepted count,
        ap (λ (a : WriteOut). a.out) e ∙ y.1 ∙ ap (onto x.out) (sym (write_file way.writes way.written)),
      )
