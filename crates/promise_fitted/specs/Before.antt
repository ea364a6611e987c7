-- Document 01 as it stood before order 6, beside `promise_films` Fitted: its refusals 5 and 6 in each call's table, a pixel from any map buffer, mappings from counts, and the listing's text.
-- w and h are the film's width and height, pic its pixels, m a map buffer, cs counts.
-- Assumes nothing.
use Rattle.std.specs.Prelude.{ℕ, ◌+◌, ◌*◌, ◌/◌, ◌%◌, not, cond, List, [], ◌∷◌, ◌++◌, ltb, eqb, length, get_or, drop}
use Rattle.base_lists.specs.Lists.{joined, every, total}
use Rattle.base_rows.specs.Refuse.{Row, row, first, unless}
use Rattle.tile_limit.specs.Limit.{limit_of}
use Rattle.tile_clip.specs.declared.Spent.{Spent}
use Rattle.tile_bin.specs.Binning.{bin_of}
use Rattle.tile_count.specs.Tally.{greys_of, counts_of}
use Rattle.tile_map.specs.Tile.{counts_mapping, spent_by, tile_mapping}
use Rattle.pixel_place.specs.Blend.{grey_of}
use Rattle.film_settings.specs.declared.Settings.{Settings}
use Rattle.film_settings.specs.declared.MapRecord.{MapRecord}
use Rattle.film_settings.specs.declared.Window.{Window}
use Rattle.film_settings.specs.Settings.{bins_of, side_rows, size_rows, range_rows, grey_rows, room_rows}
use Rattle.film_prepare.specs.Prepare.{work_rows, listed_rows}
use Rattle.film_count.specs.Counting.{counts_in, counts_rows, outside_rows}
use Rattle.film_map.specs.Counts.{lent_rows}
use Rattle.film_record.specs.Held.{record_rows, window_rows}
use Rattle.film_draw.specs.Draw.{pixel_rows}
use Rattle.pgm_header.specs.Header.{Head}
use Rattle.pgm_header.specs.Header.{Found, Refused}
use Rattle.pgm_header.specs.Header.{header_of}
use Rattle.pgm_samples.specs.Samples.{is_wide, unpacked, none_above_of}
use Rattle.pgm_read.specs.Pgm.{read_of}
use Rattle.listing_line.specs.Lines.{line, refused_text}
use Rattle.listing_film.specs.FilmText.{two, listing_settings}
use Rattle.listing_file.specs.Listing.{is_larger_of}
use Rattle.promise_films.specs.Fitted.{tile_width, tile_height, fit_rect, fit_pixels, fit_place}

-- ---- refusals

-- 3 / 4 "grid across / down is not 2 to 16", 5 / 6 "width / height is no multiple of the grid"
unfoldable pub fit_grid_rows : ℕ → ℕ → Settings → List Row
fit_grid_rows w h s =
    row 3 (ltb s.across 2)
    ∷ row 3 (ltb 16 s.across)
    ∷ row 4 (ltb s.down 2)
    ∷ row 4 (ltb 16 s.down)
    ∷ row 5 (not (eqb (w % s.across) 0))
    ∷ row 6 (not (eqb (h % s.down) 0))
    ∷ []

-- the rows that all calls with a picture share, 5 and 6 as they were
unfoldable pub fit_shared_rows : (w h size : ℕ) (s : Settings) (room : ℕ) → List Row
fit_shared_rows w h size s room = (size_rows w h size ++ (fit_grid_rows w h s ++ grey_rows s)) ++ room_rows s room

-- prepare's table
abbrev pub fit_prepare_rows : (w h : ℕ) (pic : List ℕ) (s : Settings) (room scratch list : ℕ) → List Row
fit_prepare_rows w h pic s room scratch list = fit_shared_rows w h (length pic) s room ++ listed_rows pic s scratch list

-- enhance's
abbrev pub fit_enhance_rows : (w h : ℕ) (pic : List ℕ) (s : Settings) (room scratch : ℕ) → List Row
fit_enhance_rows w h pic s room scratch = fit_shared_rows w h (length pic) s room ++ work_rows pic s scratch

-- draw's
abbrev pub fit_draw_rows : (film w h : ℕ) (pic : List ℕ) (s : Settings) (r : MapRecord) (win : Window) (m : List ℕ) (room : ℕ) → List Row
fit_draw_rows film w h pic s r win m room =
    fit_shared_rows w h (length pic) s (length m) ++ (record_rows film w h s r ++ (window_rows w h win room ++ pixel_rows w pic s win m))

-- counting's
abbrev pub fit_count_rows : (w h : ℕ) (pic : List ℕ) (s : Settings) (size : ℕ) → List Row
fit_count_rows w h pic s size = (size_rows w h (length pic) ++ (fit_grid_rows w h s ++ range_rows s)) ++ (counts_rows s size ++ outside_rows pic s)

-- mapping's: a tile's counts add up to N = tw x th
abbrev pub fit_map_rows : (w h : ℕ) (s : Settings) (cs : List ℕ) (room scratch list : ℕ) → List Row
fit_map_rows w h s cs room scratch list =
    (side_rows w h ++ (fit_grid_rows w h s ++ grey_rows s))
    ++ (lent_rows s room scratch list (length cs) ++ (row 34 (not (every (s.across * s.down) (λ k. eqb (total (counts_in s cs k)) (fit_pixels w h s)))) ∷ []))

-- ---- "From mappings to grey", "from the map entries as lent, whoever wrote them"

-- the grey of a pixel of grey v in column x and row y
unfoldable pub fit_shown : (w h : ℕ) (s : Settings) (m : List ℕ) (x y v : ℕ) → ℕ
fit_shown w h s m x y v =
    let column = fit_place (tile_width w s) s.across x in
    let row = fit_place (tile_height h s) s.down y in
    let value : ℕ → ℕ → ℕ = λ j i. get_or m ((j * s.across + i) * bins_of s + bin_of s.min s.max (bins_of s) v) 0 in
    grey_of column row (value row.lower column.lower) (value row.lower column.upper) (value row.upper column.lower) (value row.upper column.upper)

-- ---- counts

-- each tile's mapping from its counts, N being that of every tile
unfoldable pub fit_mappings_from : ℕ → ℕ → Settings → List ℕ → List ℕ
fit_mappings_from w h s cs = joined (s.across * s.down) (λ k. counts_mapping s.min s.max s.edition s.clip (fit_pixels w h s) (counts_in s cs k))

-- ---- the listing

-- E and the looks of tile k
unfoldable pub fit_spent : (w h : ℕ) (pic : List ℕ) (s : Settings) (k : ℕ) → Spent
fit_spent w h pic s k = spent_by s.edition s.clip (fit_pixels w h s) (counts_of s.min s.max (bins_of s) (greys_of pic w (fit_rect w h s k)))

-- "Then a line per tile: row, column, E, the mapping.", the looks behind E
unfoldable pub fit_line : (w h maxval : ℕ) (pic : List ℕ) (k : ℕ) → List ℕ
fit_line w h maxval pic k =
    let s = listing_settings maxval in
    let p = fit_spent w h pic s k in
    line (k / 2 ∷ k % 2 ∷ p.excess ∷ p.looks ∷ tile_mapping s.min s.max (bins_of s) s.edition s.clip (greys_of pic w (fit_rect w h s k)))

-- "First line: width, height, grid across, grid down, bins, Min, Max, L.", then the lines of the four tiles
unfoldable pub fit_text : (w h maxval : ℕ) (pic : List ℕ) → List ℕ
fit_text w h maxval pic =
    line (w ∷ h ∷ 2 ∷ 2 ∷ 4 ∷ 0 ∷ maxval ∷ limit_of two (fit_pixels w h (listing_settings maxval)) 4 ∷ [])
    ++ (fit_line w h maxval pic 0 ++ (fit_line w h maxval pic 1 ++ (fit_line w h maxval pic 2 ++ fit_line w h maxval pic 3)))

-- of a film that was read: 26, then prepare's refusals, then the listing
abbrev pub fit_picture_text : (w h maxval : ℕ) (pic : List ℕ) → List ℕ
fit_picture_text w h maxval pic =
    cond (none_above_of maxval pic)
    (unless (first (fit_prepare_rows w h pic (listing_settings maxval) 16 4 8)) refused_text (fit_text w h maxval pic))
    (refused_text 26)

-- of a file that read accepts its film's text, else read's own refusal
abbrev pub fit_read_text : Head → List ℕ → List ℕ
fit_read_text (Found w h m at) s = fit_picture_text w h m (unpacked (is_wide m) (drop at s) (w * h))
fit_read_text (Refused n) s = refused_text n

-- "a longer input is 22 before all else", "a larger film is 22 where read's own 22 stands"
unfoldable pub fit_listing_of : List ℕ → List ℕ
fit_listing_of s =
    cond (ltb 32768 (length s)) (refused_text 22)
    (cond (is_larger_of (header_of s)) (refused_text 22)
    (fit_read_text (read_of s) s))
