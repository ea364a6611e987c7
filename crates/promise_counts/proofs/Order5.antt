-- Order 5, a new factor without a new count: "Wherever prepare accepts the film and 33 isn't met, counting then mapping with factor f gives prepare's mappings, record and footer for f, for each f in turn over the
-- same counts"; demand 1 of both calls, and demand 2 of what mapping left of a film that was counted.
-- Promises alone: of every run of the calls by their contracts (Runs), each listed in docs/PROMISES.md. A name with ' is lent memory at the end.
-- Assumes nothing.
use Prim.Native.Nat.{ℕ, ◌*◌, ◌<◌, ◌+◌}
use mathlib.Core.Bool.{true, false}
use mathlib.Core.Logic.{◌≢◌}
use mathlib.Core.Path.{◌≡◌, sym, ap, ◌∙◌, ap₂}
use lib.ListN.{length, take, drop, get_or}
use mathlib.Core.List.{List, [], ◌∷◌}
use Rattle.base_lists.specs.Lists.{onto}
use Rattle.base_lists.proofs.Fills.{take_onto, drop_onto}
use Rattle.base_rows.specs.Refuse.{first, refused, accepted, says}
use Rattle.base_rows.proofs.Told.{told_same}
use Rattle.film_settings.specs.Settings.{entries_of, record_of, clip_one_of, bins_of}
use Rattle.film_tiles.specs.Tiles.{foot_of}
use Rattle.film_prepare.specs.Prepare.{PrepareOut}
use Rattle.film_count.specs.Counting.{raw_counts, countings, counts_in, count_rows, CountOut, count_leaves, count_of, AlikeButClip}
use Rattle.film_map.specs.Counts.{map_rows_of, map_of}
use Rattle.film_count.proofs.Tables.{count_never_10}
use Rattle.film_count.proofs.Tiles.{length_countings, own_counts}
use Rattle.film_count.proofs.Like.{count_alike}
use Rattle.promise_films.proofs.Accepted.{says_refused, ended_kept, ended_says}
use Rattle.promise_counts.proofs.Runs.{CountCall, Counts, count_arguments, count_ends, MapCall, Maps, map_arguments, map_read, map_ends}
use Rattle.promise_counts.proofs.Tables.{count_table, map_table, counted_left, map_seen, map_told}
use Rattle.film_settings.specs.declared.Settings.{Settings}
use Rattle.film_settings.specs.declared.MapRecord.{MapRecord}
use Rattle.film_settings.specs.declared.Footer.{Footer}
use Rattle.promise_films.proofs.Runs.{PrepareCall, Prepares, prepare_ends, EnhanceCall, Enhances, enhance_ends, DrawCall, Draws}
use Rattle.promise_counts.proofs.Ways.{CountedAs, MappedAs, CountsFilm, Clipping, MapsWith, PreparesWith, InTurn, MappedFrom, DrawnFromMapping}
use Rattle.promise_counts.proofs.Ended.{counted_maps, counted_as_lem, counted_made, turn_same, count_accepts}
use Rattle.tile_map.specs.Tile.{mapped_of}
use Rattle.promise_films.specs.Films.{clipped_counts, divides_in}
use Rattle.film_settings.proofs.Records.{record_film}
use Rattle.pixel_rule.specs.Rule.{rule_grey}
use Rattle.promise_films.proofs.Ways.{Refuses, drawn_grey}
use Rattle.promise_films.proofs.Demand2.{draw_other_film_refused}
use Rattle.promise_films.proofs.Made.{Made, HandedFilm, handed_done, EnhancesSame, shown_by_rule, shown_as_film, shown_as_enhanced, made_by_rule}
use Rattle.promise_films.proofs.Ended.{draw_shown}
use Rattle.promise_films.proofs.Alike.{prepare_memory, prepare_parts, same_ends}
use Rattle.promise_films.proofs.Told.{prepared_told}

-- ---- what is said

-- counting: done, or the number of the first row that applies
pub count_says : {c : CountCall} → Counts c → c.answer ≡ says (first (count_rows c.width c.height c.pixels c.settings (length c.counts))) tt
count_says ran = ended_says (count_table _ _ _ _ _) (count_ends ran)

-- counting never looks at the clip: a factor that mapping refuses is counted all the same
pub count_says_no_10 : {c : CountCall} → Counts c → c.answer ≢ refused 10
count_says_no_10 {c} ran q = count_never_10 c.width c.height c.pixels c.settings (length c.counts) (says_refused _ _ (sym (count_says ran) ∙ q))

-- mapping: prepare's record and footer, or the number
pub map_says : {d : MapCall} → Maps d
    → d.answer
    ≡ says (first (map_rows_of d.width d.height d.settings d.counts (length d.map) (length d.scratch) (length d.list)))
    (record_of d.film d.width d.height d.settings, foot_of d.width d.height d.settings)
map_says ran = ended_says (map_table _ _ _ _ _ _ _ _) (map_ends ran)

-- ---- a refusal keeps lent memory

-- after a refusal the counts hold what they held
pub count_refusal_keeps : {c : CountCall} (n : ℕ) → Counts c → c.answer ≡ refused n → c.counts' ≡ c.counts
count_refusal_keeps n ran q = ap (λ (y : CountOut). y.counts) (ended_kept (count_table _ _ _ _ _) (count_ends ran) q)

-- and so do mapping's map buffer, scratch and list
pub map_refusal_keeps : {d : MapCall} (n : ℕ) → Maps d → d.answer ≡ refused n → (d.map' ≡ d.map) × (d.scratch' ≡ d.scratch) × (d.list' ≡ d.list)
map_refusal_keeps n ran q = prepare_memory (ended_kept (map_table _ _ _ _ _ _ _ _) (map_ends ran) q)

-- ---- any two outcomes are equal. `run.answer` is what the call itself answers, and `answer` what that says

-- counting: one answer, and one buffer of counts
pub count_determined : {c d : CountCall} (x : Counts c) (y : Counts d) → count_arguments c ≡ count_arguments d
    → (x.run.answer ≡ y.run.answer) × (c.answer ≡ d.answer) × (c.counts' ≡ d.counts')
count_determined x y same =
    let e = same_ends (λ g. count_of g.0 g.1 g.2 g.3 g.4) (count_ends x) (count_ends y) same in
    let a = ap (λ (z : CountOut). z.answer) e in
    (told_same (ap (λ (z : CountCall). z.answer) x.named) (ap (λ (z : CountCall). z.answer) y.named) a, a, ap (λ (z : CountOut). z.counts) e)

-- "Changing only the factor": settings that differ in the clip alone, or in bins 0 and 128, count alike
pub count_any_clip : {c d : CountCall} (x : Counts c) (y : Counts d) → c.width ≡ d.width → c.height ≡ d.height → c.pixels ≡ d.pixels → AlikeButClip c.settings d.settings
    → c.counts ≡ d.counts → (x.run.answer ≡ y.run.answer) × (c.answer ≡ d.answer) × (c.counts' ≡ d.counts')
count_any_clip {c} {d} x y width height pixels like counts =
    let e : count_leaves c.answer c.counts' ≡ count_leaves d.answer d.counts' =
    count_ends x ∙ rw (width, height, pixels, counts) (count_alike d.width d.height d.pixels like d.counts) ∙ sym (count_ends y) in
    let a = ap (λ (z : CountOut). z.answer) e in
    (told_same (ap (λ (z : CountCall). z.answer) x.named) (ap (λ (z : CountCall). z.answer) y.named) a, a, ap (λ (z : CountOut). z.counts) e)

-- mapping reads no more of the counts than an entry for each bin of each tile: what lies behind the front decides nothing
pub map_alike : {d e : MapCall} (x : Maps d) (y : Maps e) → map_read d ≡ map_read e
    → (x.run.answer ≡ y.run.answer) × (d.answer ≡ e.answer) × (d.map' ≡ e.map') × (d.scratch' ≡ e.scratch') × (d.list' ≡ e.list')
map_alike {d} {e} x y same =
    let k = prepare_parts (same_ends (λ g. map_of g.0 g.1 g.2 g.3 g.4 g.5 g.6 g.7) (map_ends x ∙ sym (map_seen d)) (map_ends y ∙ sym (map_seen e)) same) in
    (prepared_told (ap (λ (z : MapCall). z.answer) x.named) (ap (λ (z : MapCall). z.answer) y.named) k.0, k.0, k.1, k.2, k.3)

-- mapping: one answer, one map buffer, one scratch and one list
pub map_determined : {d e : MapCall} (x : Maps d) (y : Maps e) → map_arguments d ≡ map_arguments e
    → (x.run.answer ≡ y.run.answer) × (d.answer ≡ e.answer) × (d.map' ≡ e.map') × (d.scratch' ≡ e.scratch') × (d.list' ≡ e.list')
map_determined x y same =
    let k = prepare_parts (same_ends (λ g. map_of g.0 g.1 g.2 g.3 g.4 g.5 g.6 g.7) (map_ends x) (map_ends y) same) in
    (prepared_told (ap (λ (z : MapCall). z.answer) x.named) (ap (λ (z : MapCall). z.answer) y.named) k.0, k.0, k.1, k.2, k.3)

-- ---- "fills only the front of a lent buffer with each tile's raw counts in the mappings' order"

module _ {c : CountCall} (ran : Counts c) (done : c.answer ≡ accepted tt) where
  -- what counting left
  pub counts_left : c.counts' ≡ onto c.counts (countings c.width c.height c.pixels c.settings)
  counts_left = counted_left ran done

  -- each tile's raw counts, in the tile's place
  pub counts_own : (k : ℕ) → k < c.settings.across * c.settings.down → counts_in c.settings c.counts' k ≡ raw_counts c.width c.height c.pixels c.settings k
  counts_own k l = ap (λ cs. counts_in c.settings cs k) counts_left ∙ own_counts _ _ _ c.settings _ l

  -- in the front, whatever was lent
  pub counts_front : take (entries_of c.settings) c.counts' ≡ countings c.width c.height c.pixels c.settings
  counts_front = ap (take (entries_of c.settings)) counts_left ∙ take_onto c.counts _ (entries_of c.settings) (length_countings _ _ _ c.settings)

  -- and what lies behind stays
  pub counts_behind : drop (entries_of c.settings) c.counts' ≡ drop (entries_of c.settings) c.counts
  counts_behind = ap (drop (entries_of c.settings)) counts_left ∙ drop_onto c.counts _ (entries_of c.settings) (length_countings _ _ _ c.settings)

-- ---- counting then mapping is prepare

-- it answers and leaves what prepare does
pub mapped_as_prepare : {p : PrepareCall} {cs : List ℕ} {d : MapCall} (prepares : Prepares p) → CountedAs p.width p.height p.pixels p.settings cs → (same : MappedAs p cs d)
    → (same.maps.run.answer ≡ prepares.run.answer) × (d.answer ≡ p.answer) × (d.map' ≡ p.map') × (d.scratch' ≡ p.scratch') × (d.list' ≡ p.list')
mapped_as_prepare {p} {cs} {d} prepares by same =
    let k =
    prepare_parts
    (map_ends same.maps
    ∙ rw (same.film, same.width, same.height, same.settings, same.counts, same.map, same.scratch, same.list) (counted_maps by p.film p.map p.scratch p.list)
    ∙ sym (prepare_ends prepares)) in
    (prepared_told (ap (λ (z : MapCall). z.answer) same.maps.named) (ap (λ (z : PrepareCall). z.answer) prepares.named) k.0, k.0, k.1, k.2, k.3)

module _ {p : PrepareCall} {r : MapRecord} {foot : Footer} (prepares : Prepares p) (prepared : p.answer ≡ accepted (r, foot)) {c : CountCall} (of : CountsFilm p c) where
  -- counting accepts it
  pub counted_done : c.answer ≡ accepted tt
  counted_done = count_accepts prepares prepared of

  -- and mapping what it left gives prepare's record and footer, map buffer, scratch and list
  pub counted_then_mapped : {d : MapCall} → MappedAs p c.counts' d
      → (d.answer ≡ accepted (r, foot)) × (d.map' ≡ p.map') × (d.scratch' ≡ p.scratch') × (d.list' ≡ p.list')
  counted_then_mapped same = let (own, answer, map, scratch, list) = mapped_as_prepare prepares (counted_as_lem prepares prepared of) same in (answer ∙ prepared, map, scratch, list)

-- mapping in turn over the same counts ends, each time, as prepare in turn does
pub in_turn : {w h : ℕ} {pic : List ℕ} {s : Settings} {cs : List ℕ} → CountedAs w h pic s cs → (film : ℕ) (fs : List Clipping) (m t n : List ℕ) (es es' : List PrepareOut)
    → InTurn (MapsWith film w h s cs) fs m t n es → InTurn (PreparesWith film w h pic s) fs m t n es' → es ≡ es'
in_turn by film [] m t n es es' x y = x ∙ sym y
in_turn by film (f ∷ fs) m t n [] es' x y = absurd x
in_turn by film (f ∷ fs) m t n (e ∷ es) [] x y = absurd y
in_turn by film (f ∷ fs) m t n (e ∷ es) (e' ∷ es') x y =
    let same = turn_same by film f m t n x.0 y.0 in ap₂ (λ a b. a ∷ b) same (in_turn by film fs e.map e.scratch e.list es es' x.1 (rw same y.1))

-- ---- on to the picture

-- demand 2: each tile's own mapping lies in the map buffer
pub mapped_by_rule : {pic : List ℕ} {d : MapCall} {r : MapRecord} {foot : Footer} → CountedAs d.width d.height pic d.settings d.counts → Maps d
    → d.answer ≡ accepted (r, foot) → clip_one_of d.settings.clip ≡ false → (k b : ℕ) → k < d.settings.across * d.settings.down → b < bins_of d.settings
    → get_or d.map' (k * bins_of d.settings + b) 0
    ≡ mapped_of d.settings.min d.settings.max (divides_in d.width d.height pic d.settings k) (clipped_counts d.width d.height pic d.settings k) b
mapped_by_rule by ran mapped = made_by_rule (counted_made by ran mapped)

-- what mapping left is what prepare's outcome gives for the film
pub mapped_made : {pic : List ℕ} {m : MapCall} {r : MapRecord} {foot : Footer} → MappedFrom pic m r foot → Made m.film m.width m.height pic m.settings r foot m.map'
mapped_made from = counted_made from.counted from.maps from.mapped

-- what mapping left, handed to draw with the same film, the record that mapping answered, the settings, the mappings, a window inside the film and an output of its area, is drawn
pub mapped_drawn_done : {pic : List ℕ} {m : MapCall} {foot : Footer} {d : DrawCall} → MappedFrom pic m d.kept foot → Draws d
    → HandedFilm m.film m.width m.height pic m.settings m.map' d → d.answer ≡ accepted tt
mapped_drawn_done from draws handed = handed_done (mapped_made from) (draw_shown draws) handed

module _ {pic : List ℕ} {m : MapCall} {foot : Footer} {d : DrawCall} (x : DrawnFromMapping pic m foot d) where
  -- demand 2, "through a window from the record and mappings prepared for those pixels and unchanged since": each pixel is the one of the integer rule
  pub mapped_drawn_by_rule : clip_one_of m.settings.clip ≡ false → (j i : ℕ) → j < d.window.height → i < d.window.width
      → drawn_grey d i j ≡ rule_grey m.width m.height pic m.settings (d.window.left + i) (d.window.top + j)
  mapped_drawn_by_rule = shown_by_rule (mapped_made x.from) (draw_shown x.draws) x.drawn x.pixels x.mappings

  -- at the factor 1.0 the film's own
  pub mapped_drawn_as_film : clip_one_of m.settings.clip ≡ true → (j i : ℕ) → j < d.window.height → i < d.window.width
      → drawn_grey d i j ≡ get_or pic ((d.window.top + j) * m.width + (d.window.left + i)) 0
  mapped_drawn_as_film = shown_as_film (mapped_made x.from) (draw_shown x.draws) x.drawn x.pixels x.mappings

  -- and the one in the picture of enhance, which accepts the film with the same footer
  pub mapped_drawn_as_enhanced : {e : EnhanceCall} → Enhances e → EnhancesSame m.width m.height pic m.settings e
      → (e.answer ≡ accepted foot)
      × ((j i : ℕ) → j < d.window.height → i < d.window.width → drawn_grey d i j ≡ get_or e.pixels' ((d.window.top + j) * m.width + (d.window.left + i)) 0)
  mapped_drawn_as_enhanced ran too = shown_as_enhanced (mapped_made x.from) (draw_shown x.draws) x.drawn x.pixels x.mappings (enhance_ends ran) too

-- "A window drawn with the record of a film of another number is refused.": handed the record that mapping answered, of whatever counts, and another film's number, whatever else
pub mapped_other_film : {m : MapCall} {r : MapRecord} {foot : Footer} {d : DrawCall} → Maps m → m.answer ≡ accepted (r, foot) → Draws d → d.kept ≡ r → d.film ≢ m.film
    → Refuses d
mapped_other_film {m} {r} {foot} {d} ran mapped draws same other =
    draw_other_film_refused draws (λ e. other (e ∙ ap (λ (z : MapRecord). z.film) (same ∙ sym (map_told ran mapped).1) ∙ record_film m.film m.width m.height m.settings))
