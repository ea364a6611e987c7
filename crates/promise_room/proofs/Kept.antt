-- Document 02, order 11: what a room and its buffer hold of the films that are stored and not dropped, and that store and drop keep it so.
-- Over the outcomes that the contracts of store and drop cite.
-- Assumes nothing.
use Prim.Native.Nat.{ℕ, zero, suc, ◌+◌, ◌-◌, ◌*◌, ◌≤◌, ◌<◌}
use mathlib.Core.Bool.{Bool, true, false, cond}
use mathlib.Core.List.{List, [], ◌∷◌, ◌++◌, map}
use mathlib.Core.Path.{◌≡◌, refl, sym, ap, subst, ◌∙◌}
use native.Mathlib.Omega.{arith}
use native.Mathlib.Numerals.{add-one}
use lib.Dec.{eqb}
use lib.ListN.{length, take, drop, length-append, length-drop, length-set, length-map}
use lib.Seq.{length-take-le, take_at, drop_at}
use Rattle.base_lists.specs.Lists.{onto, over}
use Rattle.base_lists.proofs.Tabs.{length_tab, map_append}
use Rattle.base_lists.proofs.Fills.{take_onto, length_onto}
use Rattle.base_lists.proofs.Parts.{take_map}
use Rattle.base_rows.specs.Refuse.{first}
use Rattle.film_settings.specs.Settings.{bins_of, entries_of, clip_one_of}
use Rattle.film_settings.proofs.Like.{bins_kept}
use Rattle.film_tiles.specs.Tiles.{mappings, spent_entries, Work}
use Rattle.film_tiles.proofs.Films.{length_mappings}
use Rattle.film_prepare.specs.Prepare.{prepare_rows, prepared_of}
use Rattle.film_prepare.proofs.Table.{work, table_over, rows_any}
use Rattle.film_sets.specs.declared.Room.{Room}
use Rattle.film_sets.specs.Sets.{held, span_of, twice, before, with_set_of, without_set_of, moved_down}
use Rattle.film_sets.proofs.Laid.{Laid, spans, laid_room, laid_front, laid_more, laid_less, less, past, later}
use Rattle.film_sets.proofs.Moves.{moved_over}
use Rattle.film_sets.proofs.Holds.{length_held, held_more, twice_more, held_less, twice_less, before_cons, span_map}
use Rattle.film_room.specs.Room.{store_rows, StoreOut, stored_of, store_of, drop_rows, dropped_of, drop_of}
use Rattle.film_room.proofs.Stores.{Storing, storing}
use Rattle.film_room.proofs.Drops.{dropping}
use Rattle.promise_room.specs.Films.{StoredFilm, film_set, film_size, without, films_after_store, films_after_drop}

-- ---- the films

-- entries that are good for a film: it is one that prepare accepts, and they are its mappings; at the factor 1.0 whatever stood there
pub record FilmGood (f : StoredFilm) (block : List ℕ) : Type 0 where
  pub accepts : first (prepare_rows f.width f.height f.pixels f.settings (entries_of f.settings) (bins_of f.settings) (spent_entries f.settings)) ≡ 0
  pub mapped : clip_one_of f.settings.clip ≡ false → block ≡ mappings f.width f.height f.pixels f.settings

-- the films' sets, end to end
abbrev pub film_spans : List StoredFilm → ℕ
film_spans = spans film_size FilmGood

-- what the room holds of these films
pub record Kept (room : Room) (m : List ℕ) (fs : List StoredFilm) : Type 0 where
  pub sets : held room ≡ map film_set fs
  pub laid : Laid film_size FilmGood fs m
  pub numbers : twice (held room) ≡ false
  pub few : room.count ≤ 8
  pub places : length room.sets ≡ 8

-- ---- sets and films

pub span_films : (fs : List StoredFilm) → span_of (map film_set fs) ≡ film_spans fs
span_films = span_map film_size FilmGood film_set (λ f. ap (λ b. f.settings.across * f.settings.down * b) (bins_kept f.settings))

less_map : (i : ℕ) (fs : List StoredFilm) → less i (map film_set fs) ≡ map film_set (less i fs)
unfolding less
less_map i [] = refl
less_map zero (f ∷ fs) = refl
less_map (suc i) (f ∷ fs) = ap (λ t. film_set f ∷ t) (less_map i fs)

past_is : (i : ℕ) (fs : List StoredFilm) → past film_size FilmGood i fs ≡ film_spans (take (suc i) fs)
unfolding past spans
past_is i [] = refl
past_is zero (f ∷ fs) = omega arith
past_is (suc i) (f ∷ fs) = ap (λ n. film_size f + n) (past_is i fs)

later_is : (i : ℕ) (fs : List StoredFilm) → past film_size FilmGood i fs + later film_size FilmGood i fs ≡ film_spans fs
unfolding past later spans
later_is i [] = refl
later_is zero (f ∷ fs) = refl
later_is (suc i) (f ∷ fs) = omega (arith, later_is i fs)

without_is : (n : ℕ) (fs : List StoredFilm) → less (before n (map film_set fs)) fs ≡ without n fs
unfolding without less
without_is n [] = refl
without_is n (f ∷ fs) = ap (λ i. less i (f ∷ fs)) (before_cons n (film_set f) (map film_set fs)) ∙ go (eqb f.number n) refl (without_is n fs)
  where
    go : (b : Bool) → eqb f.number n ≡ b → less (before n (map film_set fs)) fs ≡ without n fs → less (cond (eqb f.number n) 0 (suc (before n (map film_set fs)))) (f ∷ fs) ≡ cond (eqb f.number n) fs (f ∷ without n fs)
    go true e rest = rw e refl
    go false e rest = rw e (ap (λ t. f ∷ t) rest)

-- ---- store

module _ {room : Room} {m : List ℕ} {fs : List StoredFilm} (kept : Kept room m fs) (f : StoredFilm) (t ls : List ℕ)
    (free : first (store_rows room f.number f.width f.height f.pixels f.settings (length m) (length t) (length ls)) ≡ 0) where
  known : Storing room f.number f.width f.height f.pixels f.settings (length m) (length t) (length ls)
  known = storing room f.number f.width f.height f.pixels f.settings (length m) (length t) (length ls) free

  abbrev a : ℕ
  a = span_of (held room)

  begins : a ≡ film_spans fs
  begins = ap span_of kept.sets ∙ span_films fs

  fits : a ≤ length m
  fits = rw begins (laid_room film_size FilmGood kept.laid)

  works : Work f.width f.height f.pixels f.settings (length m - a) (length t)
  works = work f.width f.height f.pixels f.settings (length m - a) (length t) (length ls) known.own

  abbrev maps : List ℕ
  maps = (prepared_of f.number f.width f.height f.pixels f.settings (drop a m) t ls).map

  size_maps : length maps ≡ length (drop a m)
  unfolding prepared_of
  size_maps = go (clip_one_of f.settings.clip)
    where
      go : (b : Bool) → length (cond b (drop a m) (onto (drop a m) (mappings f.width f.height f.pixels f.settings))) ≡ length (drop a m)
      go true = refl
      go false = length_onto (drop a m) _ (omega (arith, length_mappings f.width f.height f.pixels f.settings, works.ready.fitting, length-drop a m))

  block : clip_one_of f.settings.clip ≡ false → take (entries_of f.settings) maps ≡ mappings f.width f.height f.pixels f.settings
  unfolding prepared_of
  block one =
      ap (λ b. take (entries_of f.settings) (cond b (drop a m) (onto (drop a m) (mappings f.width f.height f.pixels f.settings)))) one
      ∙ take_onto (drop a m) (mappings f.width f.height f.pixels f.settings) (entries_of f.settings) (length_mappings f.width f.height f.pixels f.settings)

  front : take a (take a m ++ maps) ≡ take a m
  front = take_at (take a m) maps a (length-take-le a m fits)

  behind : drop a (take a m ++ maps) ≡ maps
  behind = drop_at (take a m) maps a (length-take-le a m fits)

  long : length (take a m ++ maps) ≡ length m
  long = omega (arith, length-append (take a m) maps, length-take-le a m fits, size_maps, length-drop a m, fits)

  stored_laid : Laid film_size FilmGood (fs ++ (f ∷ [])) (take a m ++ maps)
  stored_laid =
      laid_more film_size FilmGood
      (laid_front film_size FilmGood kept.laid (take a m ++ maps) (subst (λ n. take n m ≡ take n (take a m ++ maps)) begins (sym front)) (omega (arith, long, fits, begins)))
      f
      (omega (arith, long, fits, begins, works.ready.fitting))
      (subst (λ n. FilmGood f (take (film_size f) (drop n (take a m ++ maps)))) begins
      (subst (λ z. FilmGood f (take (film_size f) z)) (sym behind)
      record {
        accepts =
            table_over f.width f.height f.pixels f.settings (entries_of f.settings) (bins_of f.settings) (spent_entries f.settings) (λ z. omega arith)
            ∙ rows_any f.width f.height f.pixels f.settings (length m - a) (length t) (entries_of f.settings) (bins_of f.settings) (length ls) known.own (omega arith) (omega arith);
        mapped = block;
      }))

  below : room.count < 8
  below = known.enters.few

  pub store_kept : Kept (with_set_of room (film_set f)) (take a m ++ maps) (fs ++ (f ∷ []))
  unfolding with_set_of
  store_kept =
      record {
        sets = held_more room (film_set f) (omega (arith, below, kept.places)) ∙ ap (λ rs. rs ++ (film_set f ∷ [])) kept.sets ∙ sym (map_append film_set fs (f ∷ []));
        laid = stored_laid;
        numbers = ap twice (held_more room (film_set f) (omega (arith, below, kept.places))) ∙ twice_more (held room) (film_set f) kept.numbers known.enters.new;
        few = omega (arith, below);
        places = length-set room.sets room.count (film_set f) ∙ kept.places;
      }

-- ---- drop

module _ {room : Room} {m : List ℕ} {fs : List StoredFilm} (kept : Kept room m fs) (n : ℕ) (free : first (drop_rows room n (length m)) ≡ 0) where
  abbrev i : ℕ
  i = before n (held room)

  inside : i < length (held room)
  inside = rw (length_held room) (dropping room n (length m) refl free).here

  same : i ≡ before n (map film_set fs)
  same = ap (before n) kept.sets

  films : length (held room) ≡ length fs
  films = ap length kept.sets ∙ length-map fs film_set

  -- the entries of the first sets
  part : (j : ℕ) → span_of (take j (held room)) ≡ film_spans (take j fs)
  part j = ap (λ rs. span_of (take j rs)) kept.sets ∙ ap span_of (take_map film_set j fs) ∙ span_films (take j fs)

  whole : span_of (held room) ≡ film_spans fs
  whole = ap span_of kept.sets ∙ span_films fs

  moves : moved_down m (span_of (take i (held room))) (span_of (take (i + 1) (held room))) (span_of (held room))
      ≡ over m (film_spans (take i fs)) (take (later film_size FilmGood i fs) (drop (past film_size FilmGood i fs) m))
  moves =
      let p : span_of (take (i + 1) (held room)) ≡ past film_size FilmGood i fs = part (i + 1) ∙ ap (λ j. film_spans (take j fs)) (add-one i) ∙ sym (past_is i fs) in
      let l : span_of (held room) - span_of (take (i + 1) (held room)) ≡ later film_size FilmGood i fs = omega (arith, whole, p, later_is i fs) in
      moved_over m (span_of (take i (held room))) (span_of (take (i + 1) (held room))) (span_of (held room)) ∙ rw (l, p, part i) refl

  pub drop_kept : Kept (without_set_of room i) (moved_down m (span_of (take i (held room))) (span_of (take (i + 1) (held room))) (span_of (held room))) (without n fs)
  unfolding without_set_of
  drop_kept =
      record {
        sets = less_held ∙ ap (less i) kept.sets ∙ less_map i fs ∙ ap (map film_set) gone;
        laid = subst (λ z. Laid film_size FilmGood z (moved_down m (span_of (take i (held room))) (span_of (take (i + 1) (held room))) (span_of (held room)))) gone
            (subst (Laid film_size FilmGood (less i fs)) (sym moves) (laid_less film_size FilmGood kept.laid i (omega (arith, inside, films))));
        numbers = ap twice less_held ∙ twice_less i (held room) kept.numbers;
        few = omega (arith, kept.few);
        places = length_tab 8 _;
      }
    where
      less_held : held (without_set_of room i) ≡ less i (held room)
      less_held = held_less room i (omega (arith, inside, length_held room)) kept.few

      gone : less i fs ≡ without n fs
      gone = ap (λ j. less j fs) same ∙ without_is n fs

-- ---- the two calls that change a room

-- what store makes of a room
abbrev pub stores_of : Room → StoredFilm → List ℕ → List ℕ → List ℕ → StoreOut
stores_of room f m t ls = store_of room f.number f.width f.height f.pixels f.settings m t ls

pub store_keeps : {room : Room} {m : List ℕ} {fs : List StoredFilm} → Kept room m fs → (f : StoredFilm) (t ls : List ℕ)
    → Kept (stores_of room f m t ls).room (stores_of room f m t ls).map (films_after_store (stores_of room f m t ls).answer f fs)
unfolding store_of stored_of
store_keeps {room} {m} {fs} kept f t ls = go (first (store_rows room f.number f.width f.height f.pixels f.settings (length m) (length t) (length ls))) refl
  where
    go : (n : ℕ) → first (store_rows room f.number f.width f.height f.pixels f.settings (length m) (length t) (length ls)) ≡ n
        → Kept (stores_of room f m t ls).room (stores_of room f m t ls).map (films_after_store (stores_of room f m t ls).answer f fs)
    go zero e = rw e (store_kept kept f t ls e)
    go (suc n) e = rw e kept

pub drop_keeps : {room : Room} {m : List ℕ} {fs : List StoredFilm} → Kept room m fs → (n : ℕ)
    → Kept (drop_of room n m).room (drop_of room n m).map (films_after_drop (drop_of room n m).answer n fs)
unfolding drop_of dropped_of
drop_keeps {room} {m} {fs} kept n = go (first (drop_rows room n (length m))) refl
  where
    go : (k : ℕ) → first (drop_rows room n (length m)) ≡ k → Kept (drop_of room n m).room (drop_of room n m).map (films_after_drop (drop_of room n m).answer n fs)
    go zero e = rw e (drop_kept kept n e)
    go (suc k) e = rw e kept
