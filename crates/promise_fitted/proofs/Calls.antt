-- Films that fitted before: each tile has the pixels that it had, so mapping's rows and mappings are those of before, and a pixel that draw accepts to draw is the old rule's of the map entries.
-- Assumes nothing.
use Prim.Native.Nat.{ℕ, ◌+◌, ◌*◌, ◌<◌}
use mathlib.Core.Bool.{true, false, cond}
use mathlib.Core.List.{List, []}
use mathlib.Core.Path.{◌≡◌, refl, sym, ap, ◌∙◌}
use native.Mathlib.Nat.{mul_comm}
use native.Mathlib.Omega.{arith}
use lib.Arith.{digits_lt}
use lib.Dec.{eqb}
use lib.ListN.{length, get_or}
use Rattle.base_lists.specs.Lists.{total, every}
use Rattle.base_lists.proofs.Tabs.{every_cong}
use Rattle.base_lists.proofs.Fills.{joined_cong}
use Rattle.base_lists.proofs.Alls.{all_at}
use Rattle.base_rows.specs.Refuse.{first}
use Rattle.base_range.specs.Scan.{within}
use Rattle.tile_bin.specs.Binning.{bin_of}
use Rattle.tile_count.specs.Tally.{greys_of}
use Rattle.tile_count.proofs.Greys.{length_greys, get_or_greys}
use Rattle.tile_map.specs.Tile.{counts_mapping}
use Rattle.pixel_place.specs.declared.Place.{Place}
use Rattle.pixel_place.specs.Blend.{grey_of}
use Rattle.film_settings.specs.declared.Settings.{Settings}
use Rattle.film_settings.specs.Settings.{bins_of, clip_one_of, Tiled}
use Rattle.film_settings.proofs.Records.{tiled_columns, tiled_rows}
use Rattle.pixel_render.specs.Render.{render_of, rect_of, rendered_of}
use Rattle.pixel_render.proofs.Laws.{render_at, rendered_by}
use Rattle.film_tiles.specs.Tiles.{pixels_in}
use Rattle.film_count.specs.Counting.{counts_in}
use Rattle.film_map.specs.Counts.{adds_up_of, mappings_from, tiling_rows}
use Rattle.film_map.proofs.Tables.{tiling_tiled}
use Rattle.film_draw.specs.Draw.{DrawReady, drawn_pixels}
use Rattle.film_draw.proofs.Works.{render_asks}
use Rattle.film_draw.proofs.Like.{drawn_pixels_lem}
use Rattle.promise_films.specs.Fitted.{Fitted, fit_pixels, AxisAsBefore, FilmAsBefore}
use Rattle.promise_films.proofs.Runs.{DrawCall}
use Rattle.promise_films.proofs.Fitted.{fitted_axis, fitted_film}
use Rattle.promise_counts.proofs.Runs.{MapCall}
use Rattle.promise_fitted.specs.Before.{fit_shown, fit_mappings_from}

-- ---- the refusals

-- each tile has the pixels that it had
pub pixels_same : {w h : ℕ} {s : Settings} → Tiled w h s → Fitted w h s → (k : ℕ) → pixels_in w h s k ≡ fit_pixels w h s
pixels_same tiled fitted = (fitted_film tiled fitted []).pixels

-- ---- a window from any map buffer

-- the grey of a pixel by its places
grey_places : (s : Settings) (m : List ℕ) (v : ℕ) {column column' row row' : Place} → column ≡ column' → row ≡ row'
    → (let value : ℕ → ℕ → ℕ = λ j i. get_or m ((j * s.across + i) * bins_of s + bin_of s.min s.max (bins_of s) v) 0 in
    grey_of column row (value row.lower column.lower) (value row.lower column.upper) (value row.upper column.lower) (value row.upper column.upper))
    ≡ (let value : ℕ → ℕ → ℕ = λ j i. get_or m ((j * s.across + i) * bins_of s + bin_of s.min s.max (bins_of s) v) 0 in
    grey_of column' row' (value row'.lower column'.lower) (value row'.lower column'.upper) (value row'.upper column'.lower) (value row'.upper column'.upper))
grey_places s m v c r = rw (c, r) refl

-- ---- laws

-- each tile's counts add up to N as it was
pub fitted_sums : (d : MapCall) → Fitted d.width d.height d.settings → first (tiling_rows d.width d.height d.settings) ≡ 0
    → adds_up_of d.width d.height d.settings d.counts
    ≡ every (d.settings.across * d.settings.down) (λ k. eqb (total (counts_in d.settings d.counts k)) (fit_pixels d.width d.height d.settings))
unfolding adds_up_of
fitted_sums d fitted z =
    every_cong (d.settings.across * d.settings.down)
    (λ k l. ap (eqb (total (counts_in d.settings d.counts k))) (pixels_same (tiling_tiled d.width d.height d.settings z).0 fitted k))

-- a pixel that draw accepts to draw of such a film, with whatever map entries
pub ready_shown : (d : DrawCall) (known : DrawReady d.film d.width d.height d.pixels d.settings d.kept d.window d.map (length d.out))
    → Fitted d.width d.height d.settings → clip_one_of d.settings.clip ≡ false → (j i : ℕ) → j < d.window.height → i < d.window.width
    → get_or (drawn_pixels d.width d.height d.pixels d.settings d.window d.map) (j * d.window.width + i) 0
    ≡ fit_shown d.width d.height d.settings d.map (d.window.left + i) (d.window.top + j) (get_or d.pixels ((d.window.top + j) * d.width + (d.window.left + i)) 0)
unfolding fit_shown
ready_shown d known fitted one j i l k =
    ap (λ ys. get_or ys (j * d.window.width + i) 0) (drawn_pixels_lem d.width d.height d.pixels d.settings d.window d.map ∙ ap (λ b. cond b greys (render_of d.width d.height d.settings d.map d.window greys)) one)
    ∙ render_at d.width d.height d.settings d.map d.window greys l k
    ∙ ap (rendered_of d.width d.height d.settings d.map (d.window.left + i) (d.window.top + j)) (get_or_greys d.pixels d.width (rect_of d.window) l k)
    ∙ rendered_by (render_asks known.shown refl one).0 value v inside_x inside_y grey (λ y x p q bin. refl)
    ∙ grey_places d.settings d.map v (columns.places (d.window.left + i) inside_x) (rows.places (d.window.top + j) inside_y)
  where
    greys : List ℕ
    greys = greys_of d.pixels d.width (rect_of d.window)

    v : ℕ
    v = get_or d.pixels ((d.window.top + j) * d.width + (d.window.left + i)) 0

    value : ℕ → ℕ → ℕ
    value y x = get_or d.map ((y * d.settings.across + x) * bins_of d.settings + bin_of d.settings.min d.settings.max (bins_of d.settings) v) 0

    inside_x : d.window.left + i < d.width
    inside_x = omega (arith, known.shown.across)

    inside_y : d.window.top + j < d.height
    inside_y = omega (arith, known.shown.down)

    grey : within d.settings.min d.settings.max v ≡ true
    grey =
        ap (within d.settings.min d.settings.max) (sym (get_or_greys d.pixels d.width (rect_of d.window) l k))
        ∙ all_at (within d.settings.min d.settings.max) greys known.shown.greys (j * d.window.width + i) 0
        (omega (arith, length_greys d.pixels d.width (rect_of d.window), mul_comm d.window.width d.window.height, digits_lt {q = j} {m = d.window.height} {r = i} {c = d.window.width} l k))

    columns : AxisAsBefore d.width d.settings.across
    columns = fitted_axis (tiled_columns known.shown.ready.tiled) fitted.columns

    rows : AxisAsBefore d.height d.settings.down
    rows = fitted_axis (tiled_rows known.shown.ready.tiled) fitted.rows

-- mapping's mappings of any counts are those of before
pub mappings_same : (d : MapCall) → FilmAsBefore d.width d.height [] d.settings → mappings_from d.width d.height d.settings d.counts ≡ fit_mappings_from d.width d.height d.settings d.counts
unfolding mappings_from fit_mappings_from
mappings_same d same =
    joined_cong (d.settings.across * d.settings.down)
    (λ k l. ap (λ n. counts_mapping d.settings.min d.settings.max d.settings.edition d.settings.clip n (counts_in d.settings d.counts k)) (same.pixels k))
