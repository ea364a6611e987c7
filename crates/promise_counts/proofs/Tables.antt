-- Counting and mapping by their tables, and what an answer of theirs tells.
-- A name with ' is lent memory at the end.
-- Assumes nothing.
use Prim.Native.Nat.{ℕ, zero, suc}
use mathlib.Core.Bool.{true}
use mathlib.Core.List.{List, [], ◌∷◌}
use mathlib.Core.Path.{◌≡◌, refl, sym, ap, ◌∙◌}
use native.Mathlib.Omega.{arith}
use lib.ListN.{length, take}
use mathlib.Core.Logic.{◌≢◌}
use Rattle.base_lists.specs.Lists.{onto, all}
use Rattle.base_rows.specs.Refuse.{first, numbers_of, accepted, refused}
use Rattle.film_settings.specs.declared.Settings.{Settings}
use Rattle.film_settings.specs.Settings.{record_of, clip_one_of, range_rows, clip_rows, grey_rows, entries_of, kept_of, Tiled}
use Rattle.film_tiles.specs.Tiles.{foot_of, FilmFooterAsks}
use Rattle.film_prepare.specs.Prepare.{PrepareOut, prepare_leaves}
use Rattle.film_count.specs.Counting.{countings, count_rows, CountOut, count_leaves, count_of}
use Rattle.film_map.specs.Counts.{map_rows_of, map_done_of, map_of, MapAllAsks}
use Rattle.film_count.proofs.Endings.{count_refused, count_well}
use Rattle.film_map.proofs.Endings.{map_refused, map_done, map_one}
use Rattle.promise_films.proofs.Accepted.{ByTable, says_accepted, ended_done, ended_none, ended_says}
use Rattle.base_rows.proofs.Walk.{numbers_append, first_never}
use Rattle.film_settings.proofs.Ready.{range_numbers, side_numbers, grid_numbers}
use Rattle.film_settings.proofs.Parts.{clip_numbers, grey_parts, size_numbers}
use Rattle.film_count.proofs.Tables.{picture_numbers, count_numbers, count_ready}
use Rattle.film_map.proofs.Like.{map_kept, map_taken}
use Rattle.promise_counts.proofs.Runs.{CountCall, Counts, count_ends, MapCall, Maps, map_ends}
use Rattle.film_settings.specs.declared.MapRecord.{MapRecord}
use Rattle.film_settings.specs.declared.Footer.{Footer}
use Rattle.film_map.proofs.Tables.{map_numbers, map_ready}

-- ---- by their tables

-- counting: "1 to 9 with 31 after 9, then 33, then 13"
pub count_table : (w h : ℕ) (pic : List ℕ) (s : Settings) (cs : List ℕ)
    → ByTable (λ (x : CountOut). x.answer) (first (count_rows w h pic s (length cs))) tt (count_leaves (accepted tt) (onto cs (countings w h pic s)))
    (λ k. count_leaves (refused k) cs) (count_of w h pic s cs)
count_table w h pic s cs =
    record {
      when_none = λ z. sym (count_well w h pic s cs refl z refl);
      when_some = λ z. sym (count_refused w h pic s cs refl z);
      says_done = refl;
      says_lent = λ k. refl;
    }

-- mapping: "1, 3 to 12 with 31 after 9, then 33, then 34", and 32 "straight after 12"
pub map_table : (film w h : ℕ) (s : Settings) (cs m t n : List ℕ)
    → ByTable (λ (x : PrepareOut). x.answer) (first (map_rows_of w h s cs (length m) (length t) (length n))) (record_of film w h s, foot_of w h s)
    (map_done_of film w h s cs m t n) (λ k. prepare_leaves (refused k) m t n) (map_of film w h s cs m t n)
unfolding map_done_of
map_table film w h s cs m t n =
    record {
      when_none = λ z. sym (map_done film w h s cs m t n refl z);
      when_some = λ z. sym (map_refused film w h s cs m t n refl z);
      says_done = refl;
      says_lent = λ k. refl;
    }

-- ---- "at factor 1.0 the list keeps its contents", as map buffer and scratch do

-- at the factor 1.0 all lent memory stays, whatever the answer is
pub one_kept : (film w h : ℕ) (s : Settings) (cs m t n : List ℕ) → clip_one_of s.clip ≡ true → (k : ℕ) → first (map_rows_of w h s cs (length m) (length t) (length n)) ≡ k
    → ((map_of film w h s cs m t n).map ≡ m) × ((map_of film w h s cs m t n).scratch ≡ t) × ((map_of film w h s cs m t n).list ≡ n)
one_kept film w h s cs m t n one zero e =
    let q = sym (map_one film w h s cs m t n refl e refl refl refl one) in
    (ap (λ (z : PrepareOut). z.map) q, ap (λ (z : PrepareOut). z.scratch) q, ap (λ (z : PrepareOut). z.list) q)
one_kept film w h s cs m t n one (suc k) e =
    let q = sym (map_refused film w h s cs m t n refl (λ z. omega (arith, e, z))) in
    (ap (λ (z : PrepareOut). z.map) q, ap (λ (z : PrepareOut). z.scratch) q, ap (λ (z : PrepareOut). z.list) q)

-- ---- mapping of any counts

-- the numbers of 7 to 9, 31 and 10
grey_numbers : (s : Settings) → numbers_of (grey_rows s) ≡ 7 ∷ 8 ∷ 9 ∷ 9 ∷ 31 ∷ 10 ∷ []
grey_numbers s = ap numbers_of (grey_parts s) ∙ numbers_append (range_rows s) (clip_rows s) ∙ rw (range_numbers s, clip_numbers s) refl

-- the rows of counting and of mapping have none of the number 14
pub count_rows_never_14 : (w h : ℕ) (pic : List ℕ) (s : Settings) (room : ℕ) → first (count_rows w h pic s room) ≢ 14
unfolding all
count_rows_never_14 w h pic s room =
    first_never 14 (count_rows w h pic s room) refl
    (rw (count_numbers w h pic s room, picture_numbers w h (length pic) s, size_numbers w h (length pic), grid_numbers w h s, range_numbers s) refl)

pub map_rows_never_14 : (w h : ℕ) (s : Settings) (cs : List ℕ) (room scratch list : ℕ) → first (map_rows_of w h s cs room scratch list) ≢ 14
unfolding all
map_rows_never_14 w h s cs room scratch list =
    first_never 14 (map_rows_of w h s cs room scratch list) refl (rw (map_numbers w h s cs room scratch list, side_numbers w h, grid_numbers w h s, grey_numbers s) refl)

-- ---- what an answer tells

-- counting that is done met no row, and left each tile's counts in the front
pub counted_none : {c : CountCall} → Counts c → c.answer ≡ accepted tt → first (count_rows c.width c.height c.pixels c.settings (length c.counts)) ≡ 0
counted_none ran done = ended_none (count_table _ _ _ _ _) (count_ends ran) done

pub counted_left : {c : CountCall} → Counts c → c.answer ≡ accepted tt → c.counts' ≡ onto c.counts (countings c.width c.height c.pixels c.settings)
counted_left ran done = ap (λ (y : CountOut). y.counts) (ended_done (count_table _ _ _ _ _) (count_ends ran) done)

-- of a film that is one
pub counted_tiled : {c : CountCall} → Counts c → c.answer ≡ accepted tt → Tiled c.width c.height c.settings
counted_tiled {c} ran done = (count_ready c.width c.height c.pixels c.settings (length c.counts) (counted_none ran done)).tiled

-- mapping that is done met no row, and answered the rules' record and footer
pub map_told : {d : MapCall} {r : MapRecord} {foot : Footer} → Maps d → d.answer ≡ accepted (r, foot)
    → (first (map_rows_of d.width d.height d.settings d.counts (length d.map) (length d.scratch) (length d.list)) ≡ 0)
    × (record_of d.film d.width d.height d.settings ≡ r) × (foot_of d.width d.height d.settings ≡ foot)
map_told {d} ran mapped =
    let e = says_accepted _ _ (sym (ended_says (map_table _ _ _ _ _ _ _ _) (map_ends ran)) ∙ mapped) in
    (e.0, ap (λ (v : MapRecord × Footer). v.0) e.1, ap (λ (v : MapRecord × Footer). v.1) e.1)

-- and knows all that its rows ask
pub map_known : {d : MapCall} {r : MapRecord} {foot : Footer} → Maps d → d.answer ≡ accepted (r, foot)
    → MapAllAsks d.width d.height d.settings d.counts (length d.map) (length d.scratch) (length d.list)
map_known {d} ran mapped =
    map_ready d.width d.height d.settings d.counts (length d.map) (length d.scratch) (length d.list) (map_told ran mapped).0

-- sides, grid, range and bins are those of a film, and the factor is not refused
pub mapped_asks : {d : MapCall} {r : MapRecord} {foot : Footer} → Maps d → d.answer ≡ accepted (r, foot) → FilmFooterAsks d.width d.height d.settings
mapped_asks ran mapped = let known = (map_known ran mapped).film in record { tiled = known.tiled; fair = known.fair }

-- mapping's outcome is that of what it reads
pub map_seen : (d : MapCall)
    → map_of d.film d.width d.height (kept_of d.settings) (take (entries_of d.settings) d.counts) d.map d.scratch d.list
    ≡ map_of d.film d.width d.height d.settings d.counts d.map d.scratch d.list
map_seen d =
    map_kept d.film d.width d.height d.settings _ d.map d.scratch d.list
    ∙ map_taken d.film d.width d.height d.settings d.counts d.map d.scratch d.list
