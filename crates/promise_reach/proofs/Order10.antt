-- Document 02, order 10: "take two films of one size with the same settings, both accepted, and a pixel that has one grey in both. If the films agree on all
-- pixels of the tiles that this pixel's rule uses, at most four, then the rendered grey is the same in both. This holds for enhance, for prepare then draw, and in both editions."
-- Promises alone: of every run of the calls by their contracts (Runs), each listed in docs/PROMISES.md. A name with ' is lent memory at the end.
-- Assumes nothing.
use Prim.Native.Nat.{ℕ, ◌+◌, ◌<◌}
use mathlib.Core.Path.{◌≡◌}
use mathlib.Core.List.{List}
use Rattle.promise_bytes.proofs.Ended.{DrawnFromBytes, draw_bytes_shown, enhance_bytes_as_wide, prepare_bytes_made}
use Rattle.promise_reach.proofs.Rendered.{Film, Rendered, by_enhance, by_draw, by_enhance_bytes, by_draw_bytes, by_counts, enhanced_grey, enhances_film, prepares_film, maps_film}
use Rattle.base_rows.specs.Refuse.{accepted}
use Rattle.film_settings.specs.declared.Footer.{Footer}
use Rattle.promise_films.proofs.Runs.{DrawCall, EnhanceCall, PrepareCall, Enhances, enhance_ends}
use Rattle.promise_films.proofs.Ways.{drawn_grey, DrawnFrom}
use Rattle.tile_count.specs.declared.Rect.{Rect}
use Rattle.pixel_rule.specs.Reach.{DifferIn, Beyond, BeyondTile}
use Rattle.pixel_rule.proofs.Stays.{beyond_tile}
use Rattle.promise_bytes.proofs.Runs.{EnhancesBytes}
use Rattle.promise_counts.proofs.Runs.{MapCall}
use Rattle.promise_counts.proofs.Ways.{DrawnFromMapping}
use Rattle.promise_reach.proofs.Shown.{Seen, whole_seen, shown_seen}
use Rattle.promise_reach.proofs.Reach.{Twins, Two, seen_local, seen_stays, tile_in_lem}
use Rattle.promise_counts.proofs.Ended.{counted_made}
use Rattle.promise_films.proofs.Ended.{draw_shown}
use Rattle.promise_films.proofs.Made.{prepare_made}

-- ---- any two ways

-- what is rendered, by whichever way, is what is shown
pub rendered_seen : {f : Film} {x y g : ℕ} → Rendered f x y g → Seen f x y g
rendered_seen (by_enhance {e} ran done l k) = whole_seen e (enhance_ends ran) done l k
rendered_seen (by_draw from l k) = shown_seen (prepare_made from.prepares from.prepared) (draw_shown from.draws) from.drawn from.pixels from.mappings l k
rendered_seen (by_enhance_bytes {e} ran done l k) = whole_seen e (enhance_bytes_as_wide ran done) done l k
rendered_seen (by_draw_bytes from l k) = shown_seen (prepare_bytes_made from.prepares from.prepared) (draw_bytes_shown from.draws from.drawn) from.drawn from.pixels from.mappings l k
rendered_seen (by_counts x l k) = shown_seen (counted_made x.from.counted x.from.maps x.from.mapped) (draw_shown x.draws) x.drawn x.pixels x.mappings l k

-- "then the rendered grey is the same in both", by whichever of the ways each was rendered
pub rendered_local : {f f' : Film} {x y g g' : ℕ} → Rendered f x y g → Rendered f' x y g' → Two f f' x y → g ≡ g'
rendered_local a b two = seen_local (rendered_seen a) (rendered_seen b) two

-- the films differ in a rectangle alone: the grey of every pixel beyond it is the same in both
pub marked_stays : {f f' : Film} {x y g g' : ℕ} → Rendered f x y g → Rendered f' x y g' → Twins f f' → (r : Rect) → DifferIn f.width f.height f.pixels f'.pixels r
    → Beyond f.width f.height f.settings r x y → g ≡ g'
marked_stays a b twins r differ beyond = seen_stays (rendered_seen a) (rendered_seen b) twins r differ beyond

-- "whether a scratch at one end of a film can alter the weld at the other": they differ in the tile in column i and row j alone, and the grey of every pixel beyond
-- the neighbouring tiles' centres is the same in both
pub scratch_stays : {f f' : Film} {x y g g' : ℕ} → Rendered f x y g → Rendered f' x y g' → Twins f f' → (i j : ℕ) → i < f.settings.across
    → DifferIn f.width f.height f.pixels f'.pixels (tile_in_lem f i j) → BeyondTile f.width f.height f.settings i j x y → g ≡ g'
scratch_stays {f} a b twins i j l differ beyond = marked_stays a b twins (tile_in_lem f i j) differ (beyond_tile (rendered_seen a).tiled l beyond)

-- ---- call by call

-- "This holds for enhance"
pub enhanced_local : {e e' : EnhanceCall} {foot foot' : Footer} → Enhances e → e.answer ≡ accepted foot → Enhances e' → e'.answer ≡ accepted foot'
    → (x y : ℕ) → x < e.width → y < e.height → Two (enhances_film e) (enhances_film e') x y → enhanced_grey e x y ≡ enhanced_grey e' x y
enhanced_local ran done ran' done' x y l k two =
    rendered_local (by_enhance ran done l k) (by_enhance ran' done' (rw two.twins.width l) (rw two.twins.height k)) two

-- "for prepare then draw": the pixel in column i and row j of the first window is the one in column i' and row j' of the second
pub drawn_local : {p p' : PrepareCall} {foot foot' : Footer} {d d' : DrawCall} → DrawnFrom p foot d → DrawnFrom p' foot' d' → (i j i' j' : ℕ)
    → i < d.window.width → j < d.window.height → i' < d'.window.width → j' < d'.window.height
    → d'.window.left + i' ≡ d.window.left + i → d'.window.top + j' ≡ d.window.top + j
    → Two (prepares_film p) (prepares_film p') (d.window.left + i) (d.window.top + j) → drawn_grey d i j ≡ drawn_grey d' i' j'
drawn_local from from' i j i' j' l k l' k' across down two = rendered_local (by_draw from l k) (rw (← across, ← down) (by_draw from' l' k')) two

-- for one film rendered whole and the other drawn
pub enhanced_drawn_local : {e : EnhanceCall} {p : PrepareCall} {foot foot' : Footer} {d : DrawCall} → Enhances e → e.answer ≡ accepted foot → DrawnFrom p foot' d
    → (i j : ℕ) → d.window.left + i < e.width → d.window.top + j < e.height → i < d.window.width → j < d.window.height
    → Two (enhances_film e) (prepares_film p) (d.window.left + i) (d.window.top + j) → enhanced_grey e (d.window.left + i) (d.window.top + j) ≡ drawn_grey d i j
enhanced_drawn_local ran done from i j l k l' k' two = rendered_local (by_enhance ran done l k) (by_draw from l' k') two

-- for films of bytes
pub enhanced_bytes_local : {e e' : EnhanceCall} {foot foot' : Footer} → EnhancesBytes e → e.answer ≡ accepted foot → EnhancesBytes e' → e'.answer ≡ accepted foot'
    → (x y : ℕ) → x < e.width → y < e.height → Two (enhances_film e) (enhances_film e') x y → enhanced_grey e x y ≡ enhanced_grey e' x y
enhanced_bytes_local ran done ran' done' x y l k two =
    rendered_local (by_enhance_bytes ran done l k) (by_enhance_bytes ran' done' (rw two.twins.width l) (rw two.twins.height k)) two

-- and prepare then draw, on bytes
pub drawn_bytes_local : {p p' : PrepareCall} {foot foot' : Footer} {d d' : DrawCall} → DrawnFromBytes p foot d → DrawnFromBytes p' foot' d' → (i j i' j' : ℕ)
    → i < d.window.width → j < d.window.height → i' < d'.window.width → j' < d'.window.height
    → d'.window.left + i' ≡ d.window.left + i → d'.window.top + j' ≡ d.window.top + j
    → Two (prepares_film p) (prepares_film p') (d.window.left + i) (d.window.top + j) → drawn_grey d i j ≡ drawn_grey d' i' j'
drawn_bytes_local from from' i j i' j' l k l' k' across down two = rendered_local (by_draw_bytes from l k) (rw (← across, ← down) (by_draw_bytes from' l' k')) two

-- and for mapping from counts, then draw
pub mapped_local : {pic pic' : List ℕ} {m m' : MapCall} {foot foot' : Footer} {d d' : DrawCall} → DrawnFromMapping pic m foot d → DrawnFromMapping pic' m' foot' d' → (i j i' j' : ℕ)
    → i < d.window.width → j < d.window.height → i' < d'.window.width → j' < d'.window.height
    → d'.window.left + i' ≡ d.window.left + i → d'.window.top + j' ≡ d.window.top + j
    → Two (maps_film pic m) (maps_film pic' m') (d.window.left + i) (d.window.top + j) → drawn_grey d i j ≡ drawn_grey d' i' j'
mapped_local from from' i j i' j' l k l' k' across down two = rendered_local (by_counts from l k) (rw (← across, ← down) (by_counts from' l' k')) two

-- ---- a scratch, call by call

-- enhance
pub enhanced_stays : {e e' : EnhanceCall} {foot foot' : Footer} → Enhances e → e.answer ≡ accepted foot → Enhances e' → e'.answer ≡ accepted foot'
    → Twins (enhances_film e) (enhances_film e') → (i j : ℕ) → i < e.settings.across → DifferIn e.width e.height e.pixels e'.pixels (tile_in_lem (enhances_film e) i j)
    → (x y : ℕ) → x < e.width → y < e.height → BeyondTile e.width e.height e.settings i j x y → enhanced_grey e x y ≡ enhanced_grey e' x y
enhanced_stays ran done ran' done' twins i j in-grid differ x y l k beyond =
    scratch_stays (by_enhance ran done l k) (by_enhance ran' done' (rw twins.width l) (rw twins.height k)) twins i j in-grid differ beyond

-- prepare, then draw: the pixel in column x and row y lies in column a and row b of the first window, and in column a' and row b' of the second
pub drawn_stays : {p p' : PrepareCall} {foot foot' : Footer} {d d' : DrawCall} → DrawnFrom p foot d → DrawnFrom p' foot' d'
    → Twins (prepares_film p) (prepares_film p') → (i j : ℕ) → i < p.settings.across → DifferIn p.width p.height p.pixels p'.pixels (tile_in_lem (prepares_film p) i j)
    → {x y : ℕ} (a b a' b' : ℕ) → a < d.window.width → b < d.window.height → a' < d'.window.width → b' < d'.window.height
    → d.window.left + a ≡ x → d.window.top + b ≡ y → d'.window.left + a' ≡ x → d'.window.top + b' ≡ y
    → BeyondTile p.width p.height p.settings i j x y → drawn_grey d a b ≡ drawn_grey d' a' b'
drawn_stays from from' twins i j in-grid differ a b a' b' l k l' k' across down across' down' beyond =
    scratch_stays (rw (← across, ← down) (by_draw from l k)) (rw (← across', ← down') (by_draw from' l' k')) twins i j in-grid differ beyond
