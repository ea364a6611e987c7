-- Order 7, "how long the leftover walk is", of mapping: of any counts that it accepts each tile's entries are those of its counts; of counts that counting left the list is prepare's own of the same film.
-- Promises alone: of every run of the calls by their contracts (Runs), each listed in docs/PROMISES.md. A name with ' is lent memory at the end.
-- Assumes nothing.
use Prim.Native.Nat.{ℕ}
use mathlib.Core.Bool.{true}
use mathlib.Core.List.{List}
use mathlib.Core.Path.{◌≡◌, refl, ap, ◌∙◌}
use lib.Ieee.{Float}
use lib.ListN.{drop}
use Rattle.base_rows.specs.Refuse.{accepted}
use Rattle.tile_limit.specs.declared.Clip.TheVariants.{Off}
use Rattle.tile_limit.specs.declared.Edition.TheVariants.{Ours}
use Rattle.film_settings.specs.declared.MapRecord.{MapRecord}
use Rattle.film_settings.specs.declared.Footer.{Footer}
use Rattle.film_settings.specs.Settings.{clip_one_of}
use Rattle.film_tiles.specs.Tiles.{spent_entries}
use Rattle.film_prepare.specs.Prepare.{PrepareOut}
use Rattle.film_count.specs.Counting.{counts_in}
use Rattle.promise_films.specs.Films.{ClippingOn}
use Rattle.promise_films.specs.Looks.{TilesLooks, FilmLooks, NoLooks}
use Rattle.promise_films.proofs.Sound.{on_not_one}
use Rattle.promise_films.proofs.Looks.{tiles_looks, tiles_no_looks, ended_looks}
use Rattle.promise_counts.proofs.Runs.{MapCall, Maps, map_ends}
use Rattle.promise_counts.proofs.Tables.{one_kept}
use Rattle.promise_counts.proofs.Ways.{CountedAs}
use Rattle.promise_counts.proofs.Ended.{mapped_ends, as_prepare}
use Rattle.promise_counts.proofs.Looks.{entries_by, counts_long, list_behind}

-- ---- of any counts, whoever wrote them

module _ {d : MapCall} {r : MapRecord} {foot : Footer} (ran : Maps d) (mapped : d.answer ≡ accepted (r, foot)) where
  -- "two entries: E, and the number of looks .. it is 0 when r is 0 and never more than r x B x (B + 1) / 2": of every tile's counts as lent, with a factor above one, in our edition
  pub mapped_looks_any : {f : Float} → ClippingOn d.settings.clip f → d.settings.edition ≡ Ours → TilesLooks d.width d.height d.settings f (counts_in d.settings d.counts) d.list'
  mapped_looks_any on ours = tiles_looks d.width d.height d.settings on ours (counts_in d.settings d.counts) d.list' (counts_long ran mapped) (entries_by ran mapped (on_not_one on))

  -- "With clip off both are 0"
  pub mapped_looks_off : d.settings.clip ≡ Off → NoLooks d.settings d.list'
  mapped_looks_off off = tiles_no_looks d.width d.height d.settings off (counts_in d.settings d.counts) d.list' (entries_by ran mapped (rw off refl))

  -- "as do entries behind the last tile"
  pub mapped_list_behind : drop (spent_entries d.settings) d.list' ≡ drop (spent_entries d.settings) d.list
  mapped_list_behind = list_behind ran mapped

-- "at factor 1.0 the list keeps its contents", as map buffer and scratch do
pub map_one_keeps : {d : MapCall} → Maps d → clip_one_of d.settings.clip ≡ true → (d.map' ≡ d.map) × (d.scratch' ≡ d.scratch) × (d.list' ≡ d.list)
map_one_keeps {d} ran one =
    let x = map_ends ran in
    let (map, scratch, list) = one_kept d.film d.width d.height d.settings d.counts d.map d.scratch d.list one _ refl in
    (ap (λ (y : PrepareOut). y.map) x ∙ map, ap (λ (y : PrepareOut). y.scratch) x ∙ scratch, ap (λ (y : PrepareOut). y.list) x ∙ list)

-- ---- of counts that counting left

module _ {pic : List ℕ} {d : MapCall} {r : MapRecord} {foot : Footer} (by : CountedAs d.width d.height pic d.settings d.counts) (ran : Maps d)
    (mapped : d.answer ≡ accepted (r, foot)) where
  -- the same of the film's own raw counts
  pub mapped_looks : {f : Float} → ClippingOn d.settings.clip f → d.settings.edition ≡ Ours → FilmLooks d.width d.height pic d.settings f d.list'
  mapped_looks on ours = ended_looks (as_prepare pic d) (mapped_ends by ran) mapped on ours
