-- Document 02, order 12: "Prove its picture equal to enhance's on every accepted film, its refusals and footer equal too, but for 11, which it never gives, and its own 17."; and order 10 of the plain engine.
-- Promises alone: of every run of the calls by their contracts (Runs), each listed in docs/PROMISES.md. A name with ' is lent memory at the end.
-- Assumes nothing.
use Prim.Native.Nat.{ℕ, ◌+◌, ◌*◌, ◌≤◌, ◌<◌}
use mathlib.Core.List.{List}
use mathlib.Core.Logic.{◌≢◌}
use mathlib.Core.Path.{◌≡◌, refl, sym, ap, ◌∙◌}
use native.Mathlib.Nat.{le_refl}
use native.Mathlib.Omega.{arith}
use lib.ListN.{length, get_or}
use Rattle.base_rows.specs.Refuse.{first, accepted, refused, says}
use Rattle.base_rows.proofs.Told.{told_same}
use Rattle.film_settings.specs.declared.Footer.{Footer}
use Rattle.film_settings.specs.Settings.{entries_of}
use Rattle.film_tiles.specs.Tiles.{foot_of}
use Rattle.film_prepare.specs.Prepare.{enhance_rows, PaintOut}
use Rattle.pixel_rule.specs.Rule.{shown_grey}
use Rattle.film_direct.specs.Direct.{direct_rows, directed_of, direct_of}
use Rattle.film_direct.proofs.Table.{direct_table_never_11, direct_table_never_32, known}
use Rattle.promise_films.proofs.Runs.{EnhanceCall, Enhances, enhance_ends}
use Rattle.promise_films.proofs.Accepted.{says_refused, refused_says, enhance_table, ended_says, ended_done, ended_kept, ended_none, some_says}
use Rattle.promise_bytes.proofs.Runs.{EnhancesBytes}
use Rattle.promise_bytes.proofs.Ended.{enhance_bytes_as_wide}
use Rattle.promise_reach.proofs.Rendered.{Film, Rendered}
use Rattle.promise_reach.proofs.Order10.{rendered_seen}
use Rattle.promise_direct.proofs.Runs.{DirectCall, Directs, direct_ends, direct_arguments}
use Rattle.promise_direct.proofs.Rows.{fits_same, fits_not_11, other_rows, rows_other, direct_table}
use Rattle.promise_direct.proofs.Ways.{directed_grey, SameFilm, IsEnhance, directs_film}
use Rattle.pixel_rule.specs.Reach.{DifferIn, BeyondTile}
use Rattle.pixel_rule.proofs.Stays.{beyond_tile}
use Rattle.promise_reach.proofs.Shown.{Seen, whole_seen}
use Rattle.promise_reach.proofs.Reach.{Twins, Two, tile_in_lem, seen_local, seen_stays}
use Rattle.promise_direct.proofs.Plain.{film_shows, rows_of, ended_row, answers_by, scratch_by, picture_by}
use Rattle.promise_films.proofs.Alike.{paint_memory, paint_parts, same_ends}

-- ---- direct by itself

-- it says the number of the first row that applies, and where none does the footer
pub direct_says : {d : DirectCall} → Directs d
    → d.answer ≡ says (first (direct_rows d.width d.height d.pixels d.settings (length d.scratch) (length d.target))) (foot_of d.width d.height d.settings)
direct_says ran = ended_says (direct_table _ _ _ _ _ _) (direct_ends ran)

-- "11, which it never gives"
pub direct_never_11 : {d : DirectCall} → Directs d → d.answer ≢ refused 11
direct_never_11 {d} ran e =
    direct_table_never_11 d.width d.height d.pixels d.settings (length d.scratch) (length d.target) (says_refused _ _ (sym (direct_says ran) ∙ e))

-- nor order 7's 32, since it is lent no list
pub direct_never_32 : {d : DirectCall} → Directs d → d.answer ≢ refused 32
direct_never_32 {d} ran e =
    direct_table_never_32 d.width d.height d.pixels d.settings (length d.scratch) (length d.target) (says_refused _ _ (sym (direct_says ran) ∙ e))

-- "17 if the target's length is not width x height, after 12": the first of 1 to 9, 31, 10 and 12 that applies, and 17 else; all memory stays
pub direct_seventeen : {d : DirectCall} → Directs d → (length d.target ≡ d.width * d.height → ⊥)
    → d.answer ≡ refused (first (other_rows d.width d.height d.pixels d.settings (length d.scratch)))
direct_seventeen {d} ran other =
    let found = rows_other d.width d.height d.pixels d.settings (length d.scratch) (length d.target) other in
    direct_says ran ∙ ap (λ n. says n (foot_of d.width d.height d.settings)) found.0 ∙ (some_says _ _ found.1).1

-- a refusal leaves the target and the scratch as they were
pub direct_refusal_keeps : {d : DirectCall} (n : ℕ) → Directs d → d.answer ≡ refused n → (d.target' ≡ d.target) × (d.scratch' ≡ d.scratch)
direct_refusal_keeps n ran q = paint_memory (ended_kept (direct_table _ _ _ _ _ _) (direct_ends ran) q)

-- the same arguments, the same answer and memory. `run.answer` is what the call itself answers, and `answer` what that says
pub direct_determined : {d f : DirectCall} (x : Directs d) (y : Directs f) → direct_arguments d ≡ direct_arguments f
    → (x.run.answer ≡ y.run.answer) × (d.answer ≡ f.answer) × (d.target' ≡ f.target') × (d.scratch' ≡ f.scratch')
direct_determined x y same =
    let e = paint_parts (same_ends (λ (g : ℕ × ℕ × List ℕ × _ × List ℕ × List ℕ). direct_of g.0 g.1 g.2 g.3 g.4 g.5) (direct_ends x) (direct_ends y) same) in
    (told_same (ap (λ (z : DirectCall). z.answer) x.named) (ap (λ (z : DirectCall). z.answer) y.named) e.0, e.0, e.1, e.2)

-- what is shown of each pixel of an accepted film: by the rule, and the film's own at the factor 1.0
pub direct_shows : {d : DirectCall} {foot : Footer} → Directs d → d.answer ≡ accepted foot → (i j : ℕ) → i < d.width → j < d.height
    → directed_grey d i j ≡ shown_grey d.width d.height d.pixels d.settings i j
unfolding directed_of
direct_shows {d} ran done i j l k =
    ap (λ (y : PaintOut). get_or y.target (j * d.width + i) 0) (ended_done (direct_table _ _ _ _ _ _) (direct_ends ran) done) ∙ film_shows d.width d.height d.pixels d.settings i j l k

-- ---- beside enhance

-- order 12, where enhance does not say 11
pub direct_is_enhance : {d : DirectCall} {e : EnhanceCall} (ran : Directs d) (over : Enhances e) → SameFilm d e → e.answer ≢ refused 11
    → IsEnhance d e ran.run.answer over.run.answer
direct_is_enhance {d} {e} ran over same not =
    let ends = enhance_ends over in
    let no : rows_of e ≢ 11 = λ q. not (ended_row e ends ∙ refused_says (rows_of e) _ q) in
    let answers = answers_by ran ends same no in
    record { own = told_same (ap (λ (z : DirectCall). z.answer) ran.named) (ap (λ (z : EnhanceCall). z.answer) over.named) answers; answer = answers; scratch = scratch_by ran ends same no; picture = λ done. picture_by ran ends same done (λ i j l k. (whole_seen e ends done l k).shows) }

-- and what it says where enhance says 11: what enhance's rows come to with a map buffer of just the entries that it needs
pub direct_without_map : {d : DirectCall} → Directs d → length d.target ≡ d.width * d.height
    → d.answer
    ≡ says (first (enhance_rows d.width d.height d.pixels d.settings (entries_of d.settings) (length d.scratch))) (foot_of d.width d.height d.settings)
direct_without_map {d} ran e =
    direct_says ran
    ∙ ap (λ n. says n (foot_of d.width d.height d.settings))
    (sym (fits_same d.width d.height d.pixels d.settings (entries_of d.settings) (length d.scratch) (length d.target) e (le_refl _)))

-- so it is with every map buffer that is long enough: where enhance says 11, direct says what enhance would with such a one
pub direct_any_map : {d : DirectCall} {e : EnhanceCall} (ran : Directs d) (over : Enhances e) → SameFilm d e → entries_of e.settings ≤ length e.map
    → IsEnhance d e ran.run.answer over.run.answer
direct_any_map {d} {e} ran over same long =
    direct_is_enhance ran over same
    (λ q. fits_not_11 e.width e.height e.pixels e.settings (length e.map) (length e.scratch) (e.width * e.height) refl long (says_refused _ _ (sym (ended_row e (enhance_ends over)) ∙ q)))

-- and of every film that the byte call accepts, which direct is handed widened
pub direct_bytes : {d : DirectCall} {e : EnhanceCall} {foot : Footer} (ran : Directs d) (over : EnhancesBytes e) → SameFilm d e → e.answer ≡ accepted foot
    → IsEnhance d e ran.run.answer over.run.answer
direct_bytes {d} {e} ran over same done =
    let ends = enhance_bytes_as_wide over done in
    let no : rows_of e ≢ 11 = λ q. omega (arith, q, ended_none (enhance_table _ _ _ _ _ _) ends done) in
    let answers = answers_by ran ends same no in
    record { own = told_same (ap (λ (z : DirectCall). z.answer) ran.named) (ap (λ (z : EnhanceCall). z.answer) over.named) answers; answer = answers; scratch = scratch_by ran ends same no; picture = λ again. picture_by ran ends same again (λ i j l k. (whole_seen e ends again l k).shows) }

-- ---- how far a scratch reaches

-- a pixel of what direct left of an accepted film
pub direct_seen : {d : DirectCall} {foot : Footer} → Directs d → d.answer ≡ accepted foot → {i j : ℕ} → i < d.width → j < d.height
    → Seen (directs_film d) i j (directed_grey d i j)
direct_seen {d} ran done l k =
    let none = ended_none (direct_table _ _ _ _ _ _) (direct_ends ran) done in
    let fits = (known d.width d.height d.pixels d.settings (length d.scratch) (length d.target) none).0.ready.tiled in
    record { tiled = fits; column = l; row = k; shows = direct_shows ran done _ _ l k }

-- two films that are alike for a pixel show the same grey there
pub direct_local : {d d' : DirectCall} {foot foot' : Footer} → Directs d → d.answer ≡ accepted foot → Directs d' → d'.answer ≡ accepted foot'
    → (i j : ℕ) → i < d.width → j < d.height → Two (directs_film d) (directs_film d') i j → directed_grey d i j ≡ directed_grey d' i j
direct_local ran done ran' done' i j l k two =
    seen_local (direct_seen ran done l k) (direct_seen ran' done' (rw two.twins.width l) (rw two.twins.height k)) two

-- and so do the one by direct and the other by any of order 10's ways
pub direct_rendered_local : {d : DirectCall} {foot : Footer} {f : Film} {g : ℕ} → Directs d → d.answer ≡ accepted foot → (i j : ℕ) → i < d.width → j < d.height
    → Rendered f i j g → Two (directs_film d) f i j → directed_grey d i j ≡ g
direct_rendered_local ran done i j l k other two = seen_local (direct_seen ran done l k) (rendered_seen other) two

-- the films differ in the tile in column i and row j alone: the grey of every pixel beyond the neighbouring tiles' centres is the same in both
pub direct_stays : {d d' : DirectCall} {foot foot' : Footer} → Directs d → d.answer ≡ accepted foot → Directs d' → d'.answer ≡ accepted foot'
    → Twins (directs_film d) (directs_film d') → (i j : ℕ) → i < d.settings.across → DifferIn d.width d.height d.pixels d'.pixels (tile_in_lem (directs_film d) i j)
    → (x y : ℕ) → x < d.width → y < d.height → BeyondTile d.width d.height d.settings i j x y → directed_grey d x y ≡ directed_grey d' x y
direct_stays {d} ran done ran' done' twins i j in-grid differ x y l k beyond =
    let seen = direct_seen ran done l k in
    seen_stays seen (direct_seen ran' done' (rw twins.width l) (rw twins.height k)) twins (tile_in_lem (directs_film d) i j) differ (beyond_tile seen.tiled in-grid beyond)
