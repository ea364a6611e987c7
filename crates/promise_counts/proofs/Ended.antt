-- Mapping of what counting left ended as prepare does of the film that was counted: what was said once of that outcome is so of it.
-- A name with ' is lent memory at the end.
-- Assumes nothing.
use Prim.Native.Nat.{ℕ, ◌+◌, ◌≤◌}
use mathlib.Core.List.{List}
use mathlib.Core.Path.{◌≡◌, sym, ap, ◌∙◌, refl}
use lib.ListN.{length}
use Rattle.base_lists.specs.Lists.{onto}
use Rattle.base_rows.specs.Refuse.{first, accepted}
use Rattle.film_settings.specs.declared.Settings.{Settings}
use Rattle.film_prepare.specs.Prepare.{PrepareOut, prepare_leaves, prepare_of}
use Rattle.film_count.specs.Counting.{countings, count_rows}
use Rattle.film_map.specs.Counts.{map_of}
use Rattle.film_map.proofs.Mapped.{mapped_as_prepared, prepared_counts}
use Rattle.film_count.proofs.Like.{rows_alike, countings_alike, clipping_alike}
use Rattle.promise_films.proofs.Accepted.{prepare_accepts, ended_says}
use Rattle.promise_counts.proofs.Runs.{MapCall, Maps, map_ends, CountCall, count_ends}
use Rattle.promise_counts.proofs.Ways.{CountedAs, CountsFilm, Clipping, clipped_with, MapsWith, PreparesWith, DrawnFromMapping}
use Rattle.film_settings.specs.declared.MapRecord.{MapRecord}
use Rattle.film_settings.specs.declared.Footer.{Footer}
use Rattle.promise_films.proofs.Runs.{PrepareCall, Prepares, prepare_ends, DrawCall}
use Rattle.promise_films.proofs.Made.{Made, ended_made, shown_inside}
use Rattle.promise_counts.proofs.Tables.{count_table, counted_left, counted_none}
use Rattle.promise_films.proofs.Ended.{prepare_accepted, draw_shown}

-- ---- one mapping

-- mapping these counts is prepare, for every film number, clip setting, edition, map buffer, scratch and list, refusals too
pub counted_maps : {w h : ℕ} {pic : List ℕ} {s : Settings} {cs : List ℕ} → CountedAs w h pic s cs → (film : ℕ) (m t n : List ℕ)
    → map_of film w h s cs m t n ≡ prepare_of film w h pic s m t n
counted_maps {w} {h} {pic} {s} {cs} by film m t n =
    ap (λ x. map_of film w h s x m t n) held ∙ mapped_as_prepared w h pic s by.call.counts free film m t n
  where
    held : cs ≡ onto by.call.counts (countings w h pic s)
    held = by.left ∙ counted_left by.ran by.done ∙ ap (onto by.call.counts) (rw (by.width, by.height, by.pixels) (countings_alike w h pic by.like))

    free : first (count_rows w h pic s (length by.call.counts)) ≡ 0
    free =
        ap first (sym (rows_alike w h pic by.like (length by.call.counts)))
        ∙ rw (← by.width, ← by.height, ← by.pixels) (counted_none by.ran by.done)

-- so each run of mapping over them
module _ {pic : List ℕ} {d : MapCall} (by : CountedAs d.width d.height pic d.settings d.counts) (ran : Maps d) where
  -- ends as prepare does of the film that was counted
  pub mapped_ends : prepare_leaves d.answer d.map' d.scratch' d.list' ≡ prepare_of d.film d.width d.height pic d.settings d.map d.scratch d.list
  mapped_ends = map_ends ran ∙ counted_maps by d.film d.map d.scratch d.list

  -- and says what prepare says of it
  pub mapped_says : (prepare_of d.film d.width d.height pic d.settings d.map d.scratch d.list).answer ≡ d.answer
  mapped_says = sym (ap (λ (z : PrepareOut). z.answer) mapped_ends)

-- the call to prepare that it stands for, of the film that was counted
abbrev pub as_prepare : List ℕ → MapCall → PrepareCall
as_prepare pic d =
    record { film = d.film; width = d.width; height = d.height; pixels = pic; settings = d.settings; map = d.map; scratch = d.scratch; list = d.list; answer = d.answer; map' = d.map'; scratch' = d.scratch'; list' = d.list' }

-- so what mapping left is what prepare's outcome gives for the film
pub counted_made : {pic : List ℕ} {d : MapCall} {r : MapRecord} {foot : Footer} → CountedAs d.width d.height pic d.settings d.counts → Maps d
    → d.answer ≡ accepted (r, foot) → Made d.film d.width d.height pic d.settings r foot d.map'
counted_made {pic} {d} by ran mapped = ended_made (as_prepare pic d) (mapped_ends by ran) mapped

-- ---- wherever prepare accepts the film and 33 is not met

-- counting accepts it too
pub count_accepts : {p : PrepareCall} {r : MapRecord} {foot : Footer} → Prepares p → p.answer ≡ accepted (r, foot) → {c : CountCall} → CountsFilm p c
    → c.answer ≡ accepted tt
count_accepts {p} prepares prepared {c} of =
    let free : first (count_rows p.width p.height p.pixels p.settings (length c.counts)) ≡ 0 =
    prepared_counts p.width p.height p.pixels p.settings (length p.map) (length p.scratch) (length p.list) (length c.counts)
    (prepare_accepts p.film p.width p.height p.pixels p.settings p.map p.scratch p.list (prepare_accepted prepares prepared)) of.long in
    ended_says (count_table _ _ _ _ _) (count_ends of.counts)
    ∙ rw (of.width, of.height, of.pixels, rows_alike p.width p.height p.pixels of.like (length c.counts), free) refl

-- and left its counts
pub counted_as_lem : {p : PrepareCall} {r : MapRecord} {foot : Footer} → Prepares p → p.answer ≡ accepted (r, foot) → {c : CountCall} → CountsFilm p c
    → CountedAs p.width p.height p.pixels p.settings c.counts'
counted_as_lem prepares prepared {c} of =
    record { call = c; ran = of.counts; done = count_accepts prepares prepared of; width = of.width; height = of.height; pixels = of.pixels; like = of.like; left = refl }

-- ---- for each f in turn over the same counts

-- one turn of mapping ends as prepare's does
pub turn_same : {w h : ℕ} {pic : List ℕ} {s : Settings} {cs : List ℕ} → CountedAs w h pic s cs → (film : ℕ) (f : Clipping) (m t n : List ℕ) {e e' : PrepareOut}
    → MapsWith film w h s cs f m t n e → PreparesWith film w h pic s f m t n e' → e ≡ e'
turn_same {w} {h} {pic} {s} {cs} by film f m t n {e} {e'} x y = mapped ∙ counted_maps another film m t n ∙ sym prepared
  where
    mapped : e ≡ map_of film w h (clipped_with s f) cs m t n
    mapped = x.ended ∙ map_ends x.maps ∙ ap (λ g. map_of g.0 g.1 g.2 g.3 g.4 g.5 g.6 g.7) x.given

    prepared : e' ≡ prepare_of film w h pic (clipped_with s f) m t n
    prepared = y.ended ∙ prepare_ends y.prepares ∙ ap (λ g. prepare_of g.0 g.1 g.2 g.3 g.4 g.5 g.6 g.7) y.given

    another : CountedAs w h pic (clipped_with s f) cs
    another =
        record {
          call = by.call;
          ran = by.ran;
          done = by.done;
          width = by.width;
          height = by.height;
          pixels = by.pixels;
          like = record { across = by.like.across; down = by.like.down; bins = by.like.bins ∙ (clipping_alike s f.edition f.clip).bins; min = by.like.min; max = by.like.max };
          left = by.left;
        }

-- ---- a window drawn from what mapping left

-- lies inside the film
pub mapped_drawn_inside : {pic : List ℕ} {m : MapCall} {foot : Footer} {d : DrawCall} → DrawnFromMapping pic m foot d
    → (d.window.left + d.window.width ≤ m.width) × (d.window.top + d.window.height ≤ m.height)
mapped_drawn_inside x = shown_inside (counted_made x.from.counted x.from.maps x.from.mapped) (draw_shown x.draws) x.drawn x.pixels x.mappings
