-- Films of bytes and counts through C: what the calls hand out in their cells is what the next reads; and a call to draw that ended as draw does. 0 is returned where nothing is refused.
-- A name with ' is lent memory at the end.
-- Assumes nothing.
use Prim.Native.Nat.{ℕ, zero, suc, ◌+◌, ◌*◌, ◌<◌}
use mathlib.Core.Bool.{true, false}
use mathlib.Core.List.{List}
use mathlib.Core.Path.{◌≡◌, refl, sym, ap, subst, ◌∙◌}
use native.Mathlib.Omega.{arith}
use lib.ListN.{length, get_or}
use Rattle.base_lists.specs.Lists.{onto}
use Rattle.base_rows.specs.Refuse.{first, Says, accepted, says}
use Rattle.film_settings.specs.declared.MapRecord.{MapRecord}
use Rattle.film_settings.specs.declared.Footer.{Footer}
use Rattle.film_settings.specs.declared.Settings.{Settings}
use Rattle.film_settings.specs.Settings.{record_of, clip_one_of}
use Rattle.film_tiles.specs.Tiles.{foot_of}
use Rattle.film_prepare.specs.Prepare.{PrepareOut, prepare_of}
use Rattle.film_count.specs.Counting.{countings, count_rows, CountOut, count_of, AlikeButClip}
use Rattle.film_count.proofs.Like.{rows_alike, countings_alike}
use Rattle.film_map.specs.Counts.{map_rows_of, map_of}
use Rattle.film_map.proofs.Mapped.{mapped_as_prepared}
use Rattle.film_draw.specs.Draw.{draw_rows, DrawOut, draw_of}
use Rattle.film_draw.proofs.Tables.{draw_ready}
use Rattle.byte_prepare.specs.Bytes.{byte_prepare_rows, byte_prepare_of}
use Rattle.byte_draw.specs.Bytes.{byte_draw_rows, byte_draw_of}
use Rattle.byte_profile.proofs.Profile.{profile_none}
use Rattle.pixel_rule.specs.Rule.{rule_grey}
use Rattle.promise_films.specs.Films.{HandedOn}
use Rattle.promise_films.proofs.Accepted.{table_says, table_accepted, table_done, draw_table}
use Rattle.promise_films.proofs.Runs.{DrawCall}
use Rattle.promise_films.proofs.Made.{Made, HandedFilm, handed_done, shown_by_rule, shown_as_film}
use Rattle.promise_films.proofs.Ended.{Shown}
use Rattle.promise_bytes.proofs.Inside.{prepare_bytes_table, prepare_bytes_profile, prepare_bytes_wide, draw_inside, draw_bytes_table, draw_bytes_wide}
use Rattle.promise_bytes.proofs.Either.{Inside, kept_inside}
use Rattle.promise_counts.proofs.Tables.{count_table, map_table}
use Rattle.c_flat.specs.Flat.{returned, clip_factor_of, record_numbers, axes_after, record_from_of}
use Rattle.c_flat.specs.Films.{FlatPrepared, Cells, cells_from, cells_after, prepared_as, flat_prepared, foot_after, FlatDrawn, drawn_as, flat_drawn}
use Rattle.c_flat.proofs.Handed.{record_back}
use Rattle.c_films.proofs.Runs.{TzPrepareCall, TzDrawCall, TzDraws, tz_draw_ends}
use Rattle.c_counts.specs.Flat.{FlatCounted, flat_counted}
use Rattle.promise_c.proofs.Runs.{TzPreparesBytes, tz_prepare_bytes_ends, TzDrawsBytes, tz_draw_bytes_ends, TzCountCall, TzCounts, tz_count_ends, TzMapCall, TzMaps, tz_map_ends}

-- ---- numbers and cells

-- the number that is returned is that of the first row that applies
returned_says : {A : Type 0} (n : ℕ) (v : A) → returned (says n v) ≡ n
returned_says zero v = refl
returned_says (suc n) v = refl

-- of a call that says so
returned_said : {A : Type 0} {x : Says A} (n : ℕ) (v : A) → x ≡ says n v → returned x ≡ n
returned_said n v e = ap returned e ∙ returned_says n v

-- a call that hands out a record and a footer returned 0
module _ {number : ℕ} {map scratch list : List ℕ} {cells : Cells} (ended : PrepareOut) (old : Cells) (n : ℕ) (r : MapRecord) (foot : Footer)
    (ends : prepared_as number map scratch list cells ≡ flat_prepared ended old) (told : ended.answer ≡ says n (r, foot)) (free : number ≡ 0) where
  -- so the call beneath accepted the film
  flat_done : ended.answer ≡ accepted (r, foot)
  unfolding flat_prepared
  flat_done =
      told
      ∙ ap (λ k. says k (r, foot)) (sym (returned_said n _ told) ∙ sym (ap (λ (z : FlatPrepared). z.number) ends) ∙ free)

  -- the cells hold its record, and the map buffer what it left
  flat_left : prepared_as number map scratch list cells
      ≡ prepared_as 0 ended.map ended.scratch ended.list (cells_from (record_numbers r) (clip_factor_of r.settings.clip) (axes_after r) (foot_after foot))
  unfolding flat_prepared
  flat_left = ends ∙ ap (λ x. prepared_as (returned x) ended.map ended.scratch ended.list (cells_after x old)) flat_done

  flat_map : map ≡ ended.map
  flat_map = ap (λ (z : FlatPrepared). z.map) flat_left

  -- read back, it is that record
  pub flat_record : record_from_of cells.numbers cells.factor cells.axes ≡ r
  flat_record = ap (λ (z : FlatPrepared). record_from_of z.cells.numbers z.cells.factor z.cells.axes) flat_left ∙ record_back r

  -- where the call beneath ended as prepare does of a film, the cells and the map buffer are what prepare's outcome gives for it
  pub flat_made : {film w h : ℕ} {pic : List ℕ} {s : Settings} (m t l : List ℕ) → ended ≡ prepare_of film w h pic s m t l
      → Made film w h pic s (record_from_of cells.numbers cells.factor cells.axes) foot map
  flat_made {film} {w} {h} {pic} {s} m t l wide =
      subst (λ q. Made film w h pic s q foot map) (sym flat_record)
      (record { map = m; scratch = t; list = l; accepts = sym (ap (λ (z : PrepareOut). z.answer) wide) ∙ flat_done; leaves = flat_map ∙ ap (λ (z : PrepareOut). z.map) wide })

-- the record that a call to draw is handed, from its numbers, its factor and its arrays
abbrev pub tz_record : TzDrawCall → MapRecord
tz_record d = record_from_of d.numbers d.factor d.axes

-- what draw gives for the call's values
abbrev pub tz_shows : TzDrawCall → DrawOut
tz_shows d = draw_of d.film d.width d.height d.pixels d.settings (tz_record d) d.window d.map d.out

-- and draw's call of the same values
abbrev pub as_draw : TzDrawCall → DrawCall
as_draw d =
    record {
      film = d.film;
      width = d.width;
      height = d.height;
      pixels = d.pixels;
      settings = d.settings;
      kept = tz_record d;
      window = d.window;
      map = d.map;
      out = d.out;
      answer = (tz_shows d).answer;
      out' = (tz_shows d).out;
    }

-- the grey in column i and row j of what the call left
abbrev pub tz_grey : TzDrawCall → ℕ → ℕ → ℕ
tz_grey d i j = get_or d.out' (j * d.window.width + i) 0

-- a call to draw that ended as draw does, handed the record that was made for a film
module _ {film w h : ℕ} {pic : List ℕ} {s : Settings} {foot : Footer} {left : List ℕ} (d : TzDrawCall) (made : Made film w h pic s (tz_record d) foot left)
    (ends : drawn_as d.number d.out' ≡ flat_drawn (tz_shows d)) (handed : HandedFilm film w h pic s left (as_draw d)) where
  -- draw's call of the same values ends as draw does
  drawn : Shown (as_draw d)
  drawn = record { ends = refl }

  accepts : (tz_shows d).answer ≡ accepted tt
  accepts = handed_done made drawn handed

  -- refuses nothing
  pub flat_drawn_lem : d.number ≡ 0
  unfolding flat_drawn
  flat_drawn_lem = ap (λ (z : FlatDrawn). z.number) ends ∙ ap returned accepts

  out : d.out' ≡ (tz_shows d).out
  unfolding flat_drawn
  out = ap (λ (z : FlatDrawn). z.out) ends

  -- and draws each pixel by the integer rule
  pub flat_by_rule : clip_one_of s.clip ≡ false → (j i : ℕ) → j < d.window.height → i < d.window.width → tz_grey d i j ≡ rule_grey w h pic s (d.window.left + i) (d.window.top + j)
  flat_by_rule one j i l k =
      ap (λ ys. get_or ys (j * d.window.width + i) 0) out ∙ shown_by_rule made drawn accepts handed.pixels handed.rest.front one j i l k

  -- at the factor 1.0 as the film's own
  pub flat_as_film : clip_one_of s.clip ≡ true → (j i : ℕ) → j < d.window.height → i < d.window.width → tz_grey d i j ≡ get_or pic ((d.window.top + j) * w + (d.window.left + i)) 0
  flat_as_film one j i l k =
      ap (λ ys. get_or ys (j * d.window.width + i) 0) out ∙ shown_as_film made drawn accepts handed.pixels handed.rest.front one j i l k

-- ---- prepared, then drawn, on bytes

module _ {p : TzPrepareCall} (ran : TzPreparesBytes p) (prepared : p.number ≡ 0) where
  pub bytes_said : (byte_prepare_of p.film p.width p.height p.pixels p.settings p.map p.scratch p.list).answer
      ≡ says (first (byte_prepare_rows p.width p.height p.pixels p.settings (length p.map) (length p.scratch) (length p.list)))
      (record_of p.film p.width p.height p.settings, foot_of p.width p.height p.settings)
  bytes_said = table_says (prepare_bytes_table p.film p.width p.height p.pixels p.settings p.map p.scratch p.list)

  pub told : (byte_prepare_of p.film p.width p.height p.pixels p.settings p.map p.scratch p.list).answer
      ≡ accepted (record_of p.film p.width p.height p.settings, foot_of p.width p.height p.settings)
  told = flat_done _ _ (first (byte_prepare_rows p.width p.height p.pixels p.settings (length p.map) (length p.scratch) (length p.list))) (record_of p.film p.width p.height p.settings) (foot_of p.width p.height p.settings) (tz_prepare_bytes_ends ran) bytes_said prepared

  -- the settings are inside the profile
  pub inside : Inside p.settings
  inside = profile_none p.settings (prepare_bytes_profile p.film p.width p.height p.pixels p.settings p.map p.scratch p.list told)

  -- the cells and the map buffer are what prepare's outcome gives for the film
  pub bytes_prepared : Made p.film p.width p.height p.pixels p.settings (record_from_of p.cells'.numbers p.cells'.factor p.cells'.axes)
      (foot_of p.width p.height p.settings) p.map'
  bytes_prepared =
      flat_made _ _ (first (byte_prepare_rows p.width p.height p.pixels p.settings (length p.map) (length p.scratch) (length p.list))) (record_of p.film p.width p.height p.settings) (foot_of p.width p.height p.settings) (tz_prepare_bytes_ends ran) bytes_said prepared p.map p.scratch p.list
      (prepare_bytes_wide p.film p.width p.height p.pixels p.settings p.map p.scratch p.list told)

-- what tz_prepare_bytes left, handed to tz_draw_bytes: tz_prepare_bytes returned 0 for the film of p, and tz_draw_bytes is handed the same film with the numbers, the factor and the arrays that lie in
-- the record's cells, the settings, the mappings that lie in the map buffer, a window inside the film and an output of its area
pub record TzHandedToDrawBytes (p : TzPrepareCall) (d : TzDrawCall) : Type 0 where
  pub prepares : TzPreparesBytes p
  pub prepared : p.number ≡ 0
  pub draws : TzDrawsBytes d
  pub film : d.film ≡ p.film
  pub width : d.width ≡ p.width
  pub height : d.height ≡ p.height
  pub pixels : d.pixels ≡ p.pixels
  pub numbers : d.numbers ≡ p.cells'.numbers
  pub factor : d.factor ≡ p.cells'.factor
  pub axes : d.axes ≡ p.cells'.axes
  pub rest : HandedOn p.width p.height p.settings p.map' d.settings d.map d.window (length d.out)

module _ {p : TzPrepareCall} {d : TzDrawCall} (handed : TzHandedToDrawBytes p d) where
  pub bytes_made : Made p.film p.width p.height p.pixels p.settings (tz_record d) (foot_of p.width p.height p.settings) p.map'
  bytes_made = rw (handed.numbers, handed.factor, handed.axes) (bytes_prepared handed.prepares handed.prepared)

  pub bytes_ends : drawn_as d.number d.out' ≡ flat_drawn (tz_shows d)
  bytes_ends =
      tz_draw_bytes_ends handed.draws
      ∙ ap flat_drawn
      (draw_inside d.film d.width d.height d.pixels d.settings (tz_record d) d.window d.map d.out
      (kept_inside p.settings d.settings handed.rest.like (inside handed.prepares handed.prepared)))

  pub bytes_handed : HandedFilm p.film p.width p.height p.pixels p.settings p.map' (as_draw d)
  bytes_handed = record { film = handed.film; width = handed.width; height = handed.height; pixels = handed.pixels; rest = handed.rest }

-- a call on bytes that returned 0 was handed a record of its own film's number
pub bytes_number : {d : TzDrawCall} → TzDrawsBytes d → d.number ≡ 0 → d.film ≡ (tz_record d).film
unfolding flat_drawn
bytes_number {d} ran free =
    (draw_ready d.film d.width d.height d.pixels d.settings (tz_record d) d.window d.map (length d.out)
    (table_accepted (draw_table d.film d.width d.height d.pixels d.settings (tz_record d) d.window d.map d.out) accepted_wide).0).held.number
  where
    shows : DrawOut
    shows = byte_draw_of d.film d.width d.height d.pixels d.settings (tz_record d) d.window d.map d.out

    said : shows.answer ≡ says (first (byte_draw_rows d.film d.width d.height d.pixels d.settings (tz_record d) d.window d.map (length d.out))) tt
    said = table_says (draw_bytes_table d.film d.width d.height d.pixels d.settings (tz_record d) d.window d.map d.out)

    accepted_bytes : shows.answer ≡ accepted tt
    accepted_bytes =
        said
        ∙ ap (λ k. says k tt) (sym (returned_said (first (byte_draw_rows d.film d.width d.height d.pixels d.settings (tz_record d) d.window d.map (length d.out))) _ said) ∙ sym (ap (λ (z : FlatDrawn). z.number) (tz_draw_bytes_ends ran)) ∙ free)

    accepted_wide : (tz_shows d).answer ≡ accepted tt
    accepted_wide =
        sym (ap (λ (z : DrawOut). z.answer) (draw_bytes_wide d.film d.width d.height d.pixels d.settings (tz_record d) d.window d.map d.out accepted_bytes))
        ∙ accepted_bytes

-- a number that is 0 or above
pub above_or : (n : ℕ) → (n ≡ 0 → ⊥) → 0 < n
above_or zero z = absurd (z refl)
above_or (suc n) z = omega arith

-- ---- counted, mapped, drawn

-- tz_count returned 0 for the film of c, and tz_map, handed the counts that it left, the same sizes and settings that agree in all but the factor, returned 0
pub record TzMappedFrom (c : TzCountCall) (m : TzMapCall) : Type 0 where
  pub counts : TzCounts c
  pub counted : c.number ≡ 0
  pub maps : TzMaps m
  pub mapped : m.number ≡ 0
  pub width : c.width ≡ m.width
  pub height : c.height ≡ m.height
  pub like : AlikeButClip c.settings m.settings
  pub given : m.counts ≡ c.counts'

module _ {c : TzCountCall} {m : TzMapCall} (from : TzMappedFrom c m) where
  -- counting accepted the film
  count_said : (count_of c.width c.height c.pixels c.settings c.counts).answer
      ≡ says (first (count_rows c.width c.height c.pixels c.settings (length c.counts))) tt
  count_said = table_says (count_table c.width c.height c.pixels c.settings c.counts)

  count_free : first (count_rows c.width c.height c.pixels c.settings (length c.counts)) ≡ 0
  unfolding flat_counted
  count_free =
      sym (returned_said (first (count_rows c.width c.height c.pixels c.settings (length c.counts))) _ count_said)
      ∙ sym (ap (λ (z : FlatCounted). z.number) (tz_count_ends from.counts))
      ∙ from.counted

  -- which are those of the film that is mapped
  counts_same : countings c.width c.height c.pixels c.settings ≡ countings m.width m.height c.pixels m.settings
  counts_same = rw (from.width, from.height) (countings_alike m.width m.height c.pixels from.like)

  -- and left each tile's counts in the front
  left_counts : m.counts ≡ onto c.counts (countings m.width m.height c.pixels m.settings)
  unfolding flat_counted
  left_counts =
      from.given
      ∙ ap (λ (z : FlatCounted). z.counts) (tz_count_ends from.counts)
      ∙ ap (λ (z : CountOut). z.counts)
      (table_done (count_table c.width c.height c.pixels c.settings c.counts) (count_said ∙ ap (λ k. says k tt) count_free))
      ∙ ap (onto c.counts) counts_same

  -- so mapping is prepare
  pub as_prepared : map_of m.film m.width m.height m.settings m.counts m.map m.scratch m.list
      ≡ prepare_of m.film m.width m.height c.pixels m.settings m.map m.scratch m.list
  as_prepared =
      ap (λ cs. map_of m.film m.width m.height m.settings cs m.map m.scratch m.list) left_counts
      ∙ mapped_as_prepared m.width m.height c.pixels m.settings c.counts
      (ap first (sym (rows_alike m.width m.height c.pixels from.like (length c.counts))) ∙ rw (← from.width, ← from.height) count_free)
      m.film m.map m.scratch m.list

  pub map_said : (map_of m.film m.width m.height m.settings m.counts m.map m.scratch m.list).answer
      ≡ says (first (map_rows_of m.width m.height m.settings m.counts (length m.map) (length m.scratch) (length m.list)))
      (record_of m.film m.width m.height m.settings, foot_of m.width m.height m.settings)
  map_said = table_says (map_table m.film m.width m.height m.settings m.counts m.map m.scratch m.list)

  -- the cells and the map buffer are what prepare's outcome gives for the film
  pub counts_prepared : Made m.film m.width m.height c.pixels m.settings (record_from_of m.cells'.numbers m.cells'.factor m.cells'.axes)
      (foot_of m.width m.height m.settings) m.map'
  counts_prepared = flat_made _ _ (first (map_rows_of m.width m.height m.settings m.counts (length m.map) (length m.scratch) (length m.list))) (record_of m.film m.width m.height m.settings) (foot_of m.width m.height m.settings) (tz_map_ends from.maps) map_said from.mapped m.map m.scratch m.list as_prepared

-- what tz_count and tz_map left, handed to tz_draw with the same film: the record from its cells, the settings, the mappings, a window inside the film and an output of its area
pub record TzMappedToDraw (c : TzCountCall) (m : TzMapCall) (d : TzDrawCall) : Type 0 where
  pub from : TzMappedFrom c m
  pub draws : TzDraws d
  pub film : d.film ≡ m.film
  pub width : d.width ≡ m.width
  pub height : d.height ≡ m.height
  pub pixels : d.pixels ≡ c.pixels
  pub numbers : d.numbers ≡ m.cells'.numbers
  pub factor : d.factor ≡ m.cells'.factor
  pub axes : d.axes ≡ m.cells'.axes
  pub rest : HandedOn m.width m.height m.settings m.map' d.settings d.map d.window (length d.out)

module _ {c : TzCountCall} {m : TzMapCall} {d : TzDrawCall} (handed : TzMappedToDraw c m d) where
  pub mapped_made : Made m.film m.width m.height c.pixels m.settings (tz_record d) (foot_of m.width m.height m.settings) m.map'
  mapped_made = rw (handed.numbers, handed.factor, handed.axes) (counts_prepared handed.from)

  pub mapped_handed : HandedFilm m.film m.width m.height c.pixels m.settings m.map' (as_draw d)
  mapped_handed = record { film = handed.film; width = handed.width; height = handed.height; pixels = handed.pixels; rest = handed.rest }

-- a call that returned 0 was handed a record of its own film's number
pub wide_number : {d : TzDrawCall} → TzDraws d → d.number ≡ 0 → d.film ≡ (tz_record d).film
unfolding flat_drawn
wide_number {d} ran free =
    (draw_ready d.film d.width d.height d.pixels d.settings (tz_record d) d.window d.map (length d.out)
    (sym (returned_said (first (draw_rows d.film d.width d.height d.pixels d.settings (tz_record d) d.window d.map (length d.out))) _ said) ∙ sym (ap (λ (z : FlatDrawn). z.number) (tz_draw_ends ran)) ∙ free)).held.number
  where
    said : (tz_shows d).answer ≡ says (first (draw_rows d.film d.width d.height d.pixels d.settings (tz_record d) d.window d.map (length d.out))) tt
    said = table_says (draw_table d.film d.width d.height d.pixels d.settings (tz_record d) d.window d.map d.out)

-- what tz_map left, of whatever counts
module _ {m : TzMapCall} (ran : TzMaps m) (mapped : m.number ≡ 0) where
  told_by_map : (map_of m.film m.width m.height m.settings m.counts m.map m.scratch m.list).answer
      ≡ says (first (map_rows_of m.width m.height m.settings m.counts (length m.map) (length m.scratch) (length m.list)))
      (record_of m.film m.width m.height m.settings, foot_of m.width m.height m.settings)
  told_by_map = table_says (map_table m.film m.width m.height m.settings m.counts m.map m.scratch m.list)

  -- read back, the cells hold the map record of the film
  pub map_record : record_from_of m.cells'.numbers m.cells'.factor m.cells'.axes ≡ record_of m.film m.width m.height m.settings
  map_record = flat_record _ _ (first (map_rows_of m.width m.height m.settings m.counts (length m.map) (length m.scratch) (length m.list))) (record_of m.film m.width m.height m.settings) (foot_of m.width m.height m.settings) (tz_map_ends ran) told_by_map mapped
