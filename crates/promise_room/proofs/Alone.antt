-- A film that the room holds is drawn as from any buffer that begins with its mappings, and so as if it alone had been prepared.
-- A name with ' is lent memory at the end.
-- Assumes nothing.
use Prim.Native.Nat.{ℕ, zero, suc, ◌+◌, ◌*◌, ◌≤◌, ◌<◌}
use mathlib.Core.Bool.{false}
use mathlib.Core.List.{List, [], ◌∷◌}
use mathlib.Core.Path.{◌≡◌, sym, ap, ap₂, subst, ◌∙◌}
use native.Mathlib.Nat.{not-suc-le-zero, le_of_suc-le-suc}
use native.Mathlib.Omega.{arith}
use lib.ListN.{length, take, drop, get_or, length-map, length-drop}
use lib.Seq.{take-take, length-take-le}
use Rattle.base_lists.proofs.Fills.{take_onto}
use Rattle.base_lists.proofs.Parts.{take_map, get_d_map}
use Rattle.base_rows.specs.Refuse.{first, accepted}
use Rattle.film_settings.specs.declared.Settings.{Settings}
use Rattle.film_settings.specs.declared.Window.{Window}
use Rattle.film_settings.specs.declared.Footer.{Footer}
use Rattle.film_settings.specs.Settings.{bins_of, entries_of, kept_of, record_of, clip_one_of, setting_rows}
use Rattle.film_settings.proofs.Like.{bins_kept}
use Rattle.film_settings.proofs.Ready.{shared_both, setting_tiled}
use Rattle.film_tiles.specs.Tiles.{mappings, spent_entries}
use Rattle.film_tiles.proofs.Films.{length_mappings}
use Rattle.film_prepare.specs.Prepare.{PrepareOut, prepare_leaves, prepare_of}
use Rattle.film_prepare.proofs.Table.{table_both}
use Rattle.film_prepare.proofs.Like.{prepare_kept}
use Rattle.film_draw.specs.Draw.{draw_leaves, draw_of}
use Rattle.film_draw.proofs.Like.{draw_kept}
use Rattle.film_sets.specs.declared.Set.{Set}
use Rattle.film_sets.specs.declared.Room.{Room}
use Rattle.film_sets.specs.Sets.{no_set_of, held, span_of, among, before, set_of, start_of, part_of, fit_rows}
use Rattle.film_sets.proofs.Laid.{one, spans, laid_room, laid_at}
use Rattle.film_sets.proofs.Holds.{among_own, before_own}
use Rattle.film_sets.proofs.Tables.{fit_free}
use Rattle.film_room.specs.Room.{stored_rows, set_rows, show_of}
use Rattle.film_room.proofs.Drops.{stored_free}
use Rattle.film_room.proofs.Fifteen.{set_own_free}
use Rattle.film_room.proofs.Shows.{show_as_alone}
use Rattle.promise_films.proofs.Accepted.{prepare_record}
use Rattle.promise_films.proofs.Reuse.{left_laid, left_room}
use Rattle.promise_films.proofs.Runs.{PrepareCall, Prepares, prepare_ends, DrawCall, Draws, draw_ends}
use Rattle.promise_room.proofs.Kept.{FilmGood, film_spans, Kept, span_films}
use Rattle.promise_room.specs.Films.{StoredFilm, film_set, film_size}

-- the sets up to one, and that one, are no more than all
spans_at : (fs : List StoredFilm) (i : ℕ) (d : StoredFilm) → i < length fs → film_spans (take i fs) + film_size (get_or fs i d) ≤ film_spans fs
unfolding spans
spans_at [] i d l = absurd (not-suc-le-zero l)
spans_at (f ∷ fs) zero d l = omega arith
spans_at (f ∷ fs) (suc i) d l = let q = spans_at fs i d (le_of_suc-le-suc l) in omega (arith, q)

module _ {room : Room} {m : List ℕ} {fs : List StoredFilm} (kept : Kept room m fs) where
  -- a room handed on as it was returned is never refused as a record
  pub never_40 : first (fit_rows room (length m)) ≡ 0
  never_40 = fit_free room (length m) kept.few kept.numbers (rw (ap span_of kept.sets ∙ span_films fs) (laid_room film_size FilmGood kept.laid))

  module _ (i : ℕ) (d : StoredFilm) (l : i < length fs) where
    abbrev f : StoredFilm
    f = get_or fs i d

    inside : i < length (held room)
    inside = rw (ap length kept.sets ∙ length-map fs film_set) l

    set_is : get_or (held room) i no_set_of ≡ film_set f
    set_is = ap (λ rs. get_or rs i no_set_of) kept.sets ∙ get_d_map film_set fs i d no_set_of l

    place : before f.number (held room) ≡ i
    place = ap (λ (r : Set). before r.film (held room)) (sym set_is) ∙ before_own (held room) i no_set_of kept.numbers inside

    there : first (stored_rows f.number room) ≡ 0
    there = stored_free f.number room (ap (λ (r : Set). among r.film (held room)) (sym set_is) ∙ among_own (held room) i no_set_of inside)

    own_set : set_of f.number (held room) ≡ film_set f
    own_set = ap (λ k. get_or (held room) k no_set_of) place ∙ set_is

    start_is : start_of f.number (held room) ≡ film_spans (take i fs)
    start_is = ap (λ k. span_of (take k (held room))) place ∙ ap (λ rs. span_of (take i rs)) kept.sets ∙ ap span_of (take_map film_set i fs) ∙ span_films (take i fs)

    good : FilmGood f (take (film_size f) (drop (film_spans (take i fs)) m))
    good = laid_at film_size FilmGood kept.laid i d l

    size_is : entries_of (kept_of f.settings) ≡ entries_of f.settings
    size_is = ap (λ b. f.settings.across * f.settings.down * b) (bins_kept f.settings)

    part_is : part_of f.number (held room) m ≡ take (film_size f) (drop (film_spans (take i fs)) m)
    part_is = ap₂ (λ (r : Set) a. take (entries_of r.settings) (drop a m)) own_set start_is ∙ ap (λ n. take n (drop (film_spans (take i fs)) m)) size_is

    long : entries_of f.settings ≤ length (part_of f.number (held room) m)
    long =
        rw part_is
        (omega (arith, length-take-le (film_size f) (drop (film_spans (take i fs)) m) (omega (arith, length-drop (film_spans (take i fs)) m, spans_at fs i d l, laid_room film_size FilmGood kept.laid))))

    own : first (setting_rows f.width f.height (length f.pixels) f.settings) ≡ 0
    own = (shared_both f.width f.height (length f.pixels) f.settings (entries_of f.settings) (table_both f.width f.height f.pixels f.settings (entries_of f.settings) (bins_of f.settings) (spent_entries f.settings) good.accepts).0).0

    same : first (set_rows f.width f.height f.settings (set_of f.number (held room))) ≡ 0
    same =
        ap (λ r. first (set_rows f.width f.height f.settings r)) own_set
        ∙ set_own_free f.number f.width f.height f.settings (setting_tiled f.width f.height (length f.pixels) f.settings own).2

    -- a buffer that begins with the film's mappings, as prepare leaves one for it alone; at the factor 1.0 any that is long enough
    pub drawn_as_alone : (win : Window) (out m₂ : List ℕ) → entries_of f.settings ≤ length m₂
        → (clip_one_of f.settings.clip ≡ false → take (entries_of f.settings) m₂ ≡ mappings f.width f.height f.pixels f.settings)
        → show_of room f.number f.width f.height f.pixels f.settings win m out
        ≡ draw_of f.number f.width f.height f.pixels f.settings (record_of f.number f.width f.height f.settings) win m₂ out
    drawn_as_alone win out m₂ enough front =
        show_as_alone room f.number f.width f.height f.pixels f.settings win m out never_40 there own same long m₂ enough
        (λ one. ap (take (entries_of f.settings)) part_is
        ∙ take-take (entries_of f.settings) (entries_of f.settings) (drop (film_spans (take i fs)) m) (omega arith)
        ∙ good.mapped one
        ∙ sym (front one))

-- ---- one film of the room

-- f is one of the films stored and not dropped
pub record Among (f : StoredFilm) (fs : List StoredFilm) : Type 0 where
  pub place : ℕ
  pub inside : place < length fs
  pub is : get_or fs place f ≡ f

-- drawn from the room, and from any buffer that begins with its mappings
abbrev pub AsAlone : Room → List ℕ → StoredFilm → Type 0
AsAlone room m f =
    (win : Window) (out m₂ : List ℕ) → entries_of f.settings ≤ length m₂
    → (clip_one_of f.settings.clip ≡ false → take (entries_of f.settings) m₂ ≡ mappings f.width f.height f.pixels f.settings)
    → show_of room f.number f.width f.height f.pixels f.settings win m out
    ≡ draw_of f.number f.width f.height f.pixels f.settings (record_of f.number f.width f.height f.settings) win m₂ out

pub among_alone : {room : Room} {m : List ℕ} {fs : List StoredFilm} {f : StoredFilm} → Kept room m fs → Among f fs → AsAlone room m f
among_alone {room} {m} {fs} {f} kept a = subst (AsAlone room m) a.is (λ win out m₂ enough front. drawn_as_alone kept a.place f a.inside win out m₂ enough front)

-- a call is handed the film f: its number, sizes and pixels, and settings that are kept as its own
pub record OfFilm (f : StoredFilm) (n w h : ℕ) (pic : List ℕ) (s : Settings) : Type 0 where
  pub number : n ≡ f.number
  pub width : w ≡ f.width
  pub height : h ≡ f.height
  pub pixels : pic ≡ f.pixels
  pub like : kept_of s ≡ kept_of f.settings

-- so what it makes of them is what it makes of the film's own
pub of_film : {A : Type 0} {f : StoredFilm} {number w h : ℕ} {pic : List ℕ} {s : Settings} (call : ℕ → ℕ → ℕ → List ℕ → Settings → A)
    → ((n w h : ℕ) (pic : List ℕ) (s : Settings) → call n w h pic (kept_of s) ≡ call n w h pic s) → OfFilm f number w h pic s
    → call number w h pic s ≡ call f.number f.width f.height f.pixels f.settings
of_film {A} {f} {number} {w} {h} {pic} {s} call kept of =
    rw (of.number, of.width, of.height, of.pixels)
    (sym (kept f.number f.width f.height f.pixels s) ∙ ap (call f.number f.width f.height f.pixels) of.like ∙ kept f.number f.width f.height f.pixels f.settings)

-- the film f prepared alone, in any buffers, and accepted, and then drawn with the record that prepare answered and the map buffer that it left
pub record Alone (f : StoredFilm) (p : PrepareCall) (foot : Footer) (d : DrawCall) : Type 0 where
  pub prepares : Prepares p
  pub film : OfFilm f p.film p.width p.height p.pixels p.settings
  pub prepared : p.answer ≡ accepted (d.kept, foot)
  pub draws : Draws d
  pub drawn : OfFilm f d.film d.width d.height d.pixels d.settings
  pub map : d.map ≡ p.map'

module _ {f : StoredFilm} {p : PrepareCall} {foot : Footer} {d : DrawCall} (alone : Alone f p foot d) where
  abbrev left : PrepareOut
  left = prepare_of f.number f.width f.height f.pixels f.settings p.map p.scratch p.list

  ended : prepare_leaves p.answer p.map' p.scratch' p.list' ≡ left
  ended = prepare_ends alone.prepares ∙ of_film (λ n w h pic s. prepare_of n w h pic s p.map p.scratch p.list) (λ n w h pic s. prepare_kept n w h pic s p.map p.scratch p.list) alone.film

  done : left.answer ≡ accepted (d.kept, foot)
  done = ap (λ (z : PrepareOut). z.answer) (sym ended) ∙ alone.prepared

  left_is : d.map ≡ left.map
  left_is = alone.map ∙ ap (λ (z : PrepareOut). z.map) ended

  drawn_ends : draw_leaves d.answer d.out'
      ≡ draw_of f.number f.width f.height f.pixels f.settings (record_of f.number f.width f.height f.settings) d.window left.map d.out
  drawn_ends =
      draw_ends alone.draws
      ∙ of_film (λ n w h pic s. draw_of n w h pic s d.kept d.window d.map d.out) (λ n w h pic s. draw_kept n w h pic s d.kept d.window d.map d.out) alone.drawn
      ∙ ap₂ (λ k m. draw_of f.number f.width f.height f.pixels f.settings k d.window m d.out)
      (sym (prepare_record f.number f.width f.height f.pixels f.settings p.map p.scratch p.list done)) left_is

  left_front : clip_one_of f.settings.clip ≡ false → take (entries_of f.settings) left.map ≡ mappings f.width f.height f.pixels f.settings
  left_front changes =
      ap (take (entries_of f.settings)) (left_laid f.number f.width f.height f.pixels f.settings p.map p.scratch p.list done changes)
      ∙ take_onto p.map (mappings f.width f.height f.pixels f.settings) (entries_of f.settings) (length_mappings f.width f.height f.pixels f.settings)

  -- what a room that holds the film shows of it is what that draw left
  pub alone_shows : {room : Room} {m : List ℕ} {fs : List StoredFilm} → Kept room m fs → Among f fs
      → show_of room f.number f.width f.height f.pixels f.settings d.window m d.out ≡ draw_leaves d.answer d.out'
  alone_shows kept among =
      among_alone kept among d.window d.out left.map
      (left_room f.number f.width f.height f.pixels f.settings p.map p.scratch p.list done) left_front
      ∙ sym drawn_ends
