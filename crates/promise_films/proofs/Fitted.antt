-- Order 6, a film whose sides are multiples of its grid: of one axis, of the film, and of what a call leaves of it that ended as prepare, enhance or draw does.
-- A name with ' is lent memory at the end.
-- Assumes nothing.
use Prim.Native.Nat.{ℕ, zero, suc, ◌+◌, ◌-◌, ◌*◌, ◌/◌, ◌%◌, ◌≤◌, ◌<◌}
use mathlib.Core.Bool.{Bool, true, false, cond}
use mathlib.Core.List.{List}
use mathlib.Core.Logic.{◌≢◌}
use mathlib.Core.Path.{◌≡◌, refl, sym, ap, subst, ◌∙◌}
use native.Mathlib.Nat.{zero-mul, one-mul, add-mul, mul_comm, mod-lt, mod-eq_of_lt, div-add-mod', div-lt_iff_lt-mul}
use native.Mathlib.Omega.{arith}
use lib.Dec.{ltb, eqb}
use lib.ListN.{get_or, take}
use borrow.Author.Tests.{eqb-true, eqb-false, ltb-true, ltb-false}
use Rattle.base_lists.specs.Lists.{onto}
use Rattle.base_rows.specs.Refuse.{accepted}
use Rattle.pixel_grid.specs.Grid.{edge_of, size_of, centre_of, Fits}
use Rattle.pixel_grid.proofs.Edges.{edge_fitted, size_fitted, centre_fitted}
use Rattle.tile_count.specs.declared.Rect.{Rect}
use Rattle.pixel_place.specs.Blend.{alone, place_of}
use Rattle.pixel_place.proofs.Places.{place_first, place_between, place_last}
use Rattle.film_settings.specs.declared.Settings.{Settings}
use Rattle.film_settings.specs.declared.MapRecord.{MapRecord}
use Rattle.film_settings.specs.declared.Footer.{Footer}
use Rattle.film_settings.specs.Settings.{bins_of, clip_one_of, Tiled, entries_of}
use Rattle.film_settings.proofs.Records.{tiled_columns, tiled_rows}
use Rattle.film_tiles.specs.Tiles.{tile_of, pixels_in, footer_of}
use Rattle.film_tiles.proofs.Tiles.{tile_area, tile_is}
use Rattle.film_tiles.proofs.Films.{mappings_by}
use Rattle.film_tiles.proofs.Footers.{foot_is}
use Rattle.film_prepare.specs.Prepare.{PrepareOut, EnhanceOut, enhanced_of}
use Rattle.pixel_rule.proofs.Rule.{rule_from, grey_from_lem}
use Rattle.promise_films.specs.Fitted.{Fitted, fit_rect, fit_pixels, fit_alone, fit_between, half, fit_place, fit_grey, fit_mappings, fit_foot, AxisAsBefore, FilmAsBefore}
use Rattle.promise_films.proofs.Accepted.{prepare_foot, enhance_done, enhance_foot}
use Rattle.promise_films.proofs.Reuse.{left_map}
use Rattle.promise_films.proofs.Runs.{PrepareCall, EnhanceCall, DrawCall}
use Rattle.promise_films.proofs.Ways.{drawn_grey}
use Rattle.promise_films.proofs.Ended.{Ended, ended_accepted, Rendered, rendered_accepted, Shown}
use Rattle.promise_films.proofs.Made.{Made, made_tiled, ended_made, shown_inside, shown_by_rule}
use Rattle.promise_films.proofs.Whole.{whole_work, whole_by_rule}

-- ---- one axis: a side of tw times the grid

-- a column of such a film has the place that it had
pub place_fitted : (tw grid x : ℕ) → Fits (tw * grid) grid → x < tw * grid → place_of (tw * grid) grid x ≡ fit_place tw grid x
unfolding fit_place
place_fitted tw grid x fits l = near (ltb x (half tw)) refl
  where
    p : 0 < grid
    p = omega (arith, fits.some)

    centre : (i : ℕ) → centre_of (tw * grid) grid i ≡ i * tw + half tw
    centre i = centre_fitted tw grid i p

    single : (i : ℕ) → alone (tw * grid) grid i ≡ fit_alone tw i
    single i = rw (size_fitted tw grid i p) refl

    some : 0 < tw
    some = go tw fits.least
      where
        go : (t : ℕ) → grid ≤ t * grid → 0 < t
        go zero h = absurd (omega (arith, zero-mul grid))
        go (suc t) h = omega arith

    k : ℕ
    k = (x - half tw) / tw

    parts : k * tw + (x - half tw) % tw ≡ x - half tw
    parts = div-add-mod' (x - half tw) tw

    small : (x - half tw) % tw < tw
    small = mod-lt (x - half tw) some

    below : k < grid
    below = (div-lt_iff_lt-mul {x = x - half tw} {y = grid} some).1 (omega (arith, mul_comm tw grid))

    next : (k + 1) * tw ≡ k * tw + tw
    next = add-mul k 1 tw ∙ ap (λ t. k * tw + t) (one-mul tw)

    far : half tw ≤ x → (b : Bool) → eqb (k + 1) grid ≡ b → place_of (tw * grid) grid x ≡ cond b (fit_alone tw k) (fit_between tw k ((x - half tw) % tw))
    far h true e = place_last fits x k (eqb-true (k + 1) grid e) (rw (centre k) (omega (arith, parts))) ∙ single k
    far h false e =
        let n : k + 1 ≢ grid = eqb-false (k + 1) grid e in
        let lw : (k + 1) * tw + half tw - x ≡ tw - (x - half tw) % tw = omega (arith, parts, next, small) in
        let uw : x - (k * tw + half tw) ≡ (x - half tw) % tw = omega (arith, parts) in
        let sp : (k + 1) * tw + half tw - (k * tw + half tw) ≡ tw = omega (arith, next) in
        place_between fits x k (omega (arith, below)) (rw (centre k) (omega (arith, parts))) (rw (centre (k + 1)) (omega (arith, parts, next, small)))
        ∙ rw (centre k, centre (k + 1), lw, uw, sp) refl

    near : (b : Bool) → ltb x (half tw) ≡ b
        → place_of (tw * grid) grid x ≡ cond b (fit_alone tw 0) (cond (eqb (k + 1) grid) (fit_alone tw k) (fit_between tw k ((x - half tw) % tw)))
    near true e = place_first fits x (rw (centre 0) (omega (arith, ltb-true x (half tw) e))) ∙ single 0
    near false e = far (ltb-false x (half tw) e) (eqb (k + 1) grid) refl

-- "show it once for rows and columns together"
pub fitted_axis : {side grid : ℕ} → Fits side grid → side % grid ≡ 0 → AxisAsBefore side grid
fitted_axis {side} {grid} fits even =
    record {
      starts = λ i. along (λ n. edge_of n grid i ≡ i * (side / grid)) (edge_fitted (side / grid) grid i some);
      sizes = λ i. along (λ n. size_of n grid i ≡ side / grid) (size_fitted (side / grid) grid i some);
      places = λ x. along (λ n. Fits n grid → x < n → place_of n grid x ≡ fit_place (side / grid) grid x) (place_fitted (side / grid) grid x) fits;
    }
  where
    some : 0 < grid
    some = omega (arith, fits.some)

    -- what holds of so many tiles of one size holds of the side
    along : (P : ℕ → Type 0) → P (side / grid * grid) → P side
    along P = let e : side / grid * grid ≡ side = omega (arith, div-add-mod' side grid) in subst P e

-- neither 5 nor 6 applies to such a side: it is no shorter than its grid
pub fitted_not_short : (side grid : ℕ) → 0 < side → side % grid ≡ 0 → ltb side grid ≡ false
fitted_not_short side grid some even = go (ltb side grid) refl
  where
    go : (b : Bool) → ltb side grid ≡ b → b ≡ false
    go true e = absurd (let l : side < grid = ltb-true side grid e in omega (arith, mod-eq_of_lt l))
    go false e = refl

-- ---- the film

module _ {w h : ℕ} (s : Settings) (columns : AxisAsBefore w s.across) (rows : AxisAsBefore h s.down) where
  -- tile k is where it was, and as large
  rect_fitted : (k : ℕ) → tile_of w h s k ≡ fit_rect w h s k
  unfolding fit_rect
  rect_fitted k =
      tile_is w h s.across s.down k (columns.starts (k % s.across)) (rows.starts (k / s.across)) (columns.sizes (k % s.across)) (rows.sizes (k / s.across))

  -- so are its pixels
  pixels_fitted : (k : ℕ) → pixels_in w h s k ≡ fit_pixels w h s
  unfolding fit_rect fit_pixels
  pixels_fitted k = sym (tile_area w h s.across s.down k) ∙ ap (λ (r : Rect). r.width * r.height) (rect_fitted k)

-- a film whose sides are multiples of its grid: its tiles, their pixels, its greys, its mappings and its footer are those of the rule before
pub fitted_film : {w h : ℕ} {s : Settings} → Tiled w h s → Fitted w h s → (pic : List ℕ) → FilmAsBefore w h pic s
unfolding fit_grey fit_mappings fit_foot
fitted_film {w} {h} {s} tiled fitted pic =
    let columns = fitted_axis (tiled_columns tiled) fitted.columns in
    let rows = fitted_axis (tiled_rows tiled) fitted.rows in
    record {
      tiles = rect_fitted s columns rows;
      pixels = pixels_fitted s columns rows;
      greys = λ x y l k. rule_from w h pic s x y ∙ grey_from_lem w pic s (get_or pic (y * w + x) 0) (rect_fitted s columns rows) (columns.places x l) (rows.places y k);
      maps = mappings_by w h pic s (rect_fitted s columns rows);
      foot = sym (foot_is w h s) ∙ ap (λ n. footer_of s.clip n (bins_of s)) (pixels_fitted s columns rows 0);
    }

-- ---- a call that ended as prepare, enhance or draw does

-- such a film, whichever call accepted it
pub made_as_before : {film w h : ℕ} {pic : List ℕ} {s : Settings} {r : MapRecord} {foot : Footer} {left : List ℕ} → Made film w h pic s r foot left → Fitted w h s
    → FilmAsBefore w h pic s
made_as_before {pic = pic} made fitted = fitted_film (made_tiled made) fitted pic

-- the mappings that are left (at the factor 1.0 the map buffer) and the footer are those of the rule before
pub ended_fitted : (p : PrepareCall) {r : MapRecord} {foot : Footer} → Ended p → p.answer ≡ accepted (r, foot) → Fitted p.width p.height p.settings
    → (p.map' ≡ cond (clip_one_of p.settings.clip) p.map (onto p.map (fit_mappings p.width p.height p.pixels p.settings)))
    × (foot ≡ fit_foot p.width p.height p.settings)
ended_fitted p ends prepared fitted =
    let before = made_as_before (ended_made p ends prepared) fitted in (
      ap (λ (z : PrepareOut). z.map) ends
          ∙ left_map p.film p.width p.height p.pixels p.settings p.map p.scratch p.list (ended_accepted p ends prepared)
          ∙ ap (λ ys. cond (clip_one_of p.settings.clip) p.map (onto p.map ys)) before.maps,
      sym (prepare_foot p.film p.width p.height p.pixels p.settings p.map p.scratch p.list (ended_accepted p ends prepared)) ∙ before.foot,
    )

-- such a film that was rendered whole
module _ (e : EnhanceCall) {foot : Footer} (rendered : Rendered e) (enhanced : e.answer ≡ accepted foot) (fitted : Fitted e.width e.height e.settings) where
  before : FilmAsBefore e.width e.height e.pixels e.settings
  before = fitted_film (whole_work e rendered enhanced).ready.tiled fitted e.pixels

  -- each pixel is the one of the rule before
  pub whole_fitted : clip_one_of e.settings.clip ≡ false → (i j : ℕ) → i < e.width → j < e.height
      → get_or e.pixels' (j * e.width + i) 0 ≡ fit_grey e.width e.height e.pixels e.settings i j
  whole_fitted one i j l k = whole_by_rule e rendered enhanced one i j l k ∙ before.greys i j l k

  -- and so are the mappings and the footer
  pub whole_fitted_left : (e.map' ≡ cond (clip_one_of e.settings.clip) e.map (onto e.map (fit_mappings e.width e.height e.pixels e.settings)))
      × (foot ≡ fit_foot e.width e.height e.settings)
  unfolding enhanced_of
  whole_fitted_left = (
    ap (λ (z : EnhanceOut). z.map) (rendered ∙ enhance_done e.width e.height e.pixels e.settings e.map e.scratch (rendered_accepted e rendered enhanced))
        ∙ ap (λ ys. cond (clip_one_of e.settings.clip) e.map (onto e.map ys)) before.maps,
    sym (enhance_foot e.width e.height e.pixels e.settings e.map e.scratch (rendered_accepted e rendered enhanced)) ∙ before.foot,
  )

-- each pixel drawn from what was made of such a film is the one of the rule before
pub shown_fitted : {film w h : ℕ} {pic : List ℕ} {s : Settings} {foot : Footer} {left : List ℕ} {d : DrawCall} (made : Made film w h pic s d.kept foot left) → Shown d
    → d.answer ≡ accepted tt → d.pixels ≡ pic → (clip_one_of s.clip ≡ false → take (entries_of s) d.map ≡ take (entries_of s) left) → Fitted w h s → clip_one_of s.clip ≡ false
    → (j i : ℕ) → j < d.window.height → i < d.window.width → drawn_grey d i j ≡ fit_grey w h pic s (d.window.left + i) (d.window.top + j)
shown_fitted {d = d} made shown drawn pixels mappings fitted one j i l k =
    let inside = shown_inside made shown drawn pixels mappings in
    shown_by_rule made shown drawn pixels mappings one j i l k
    ∙ (made_as_before made fitted).greys (d.window.left + i) (d.window.top + j) (omega (arith, inside.0)) (omega (arith, inside.1))
