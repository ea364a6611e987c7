-- Order 8, the clip rule of 1986, of mapping: its facts stand in for demand 3, and in order 7's list the looks are 0.
-- Promises alone: of every run of the calls by their contracts (Runs), each listed in docs/PROMISES.md. A name with ' is lent memory at the end.
-- Assumes nothing.
use Prim.Native.Nat.{ℕ}
use mathlib.Core.List.{List}
use mathlib.Core.Path.{◌≡◌}
use lib.Ieee.{Float}
use Rattle.base_rows.specs.Refuse.{accepted}
use Rattle.tile_limit.specs.declared.Edition.TheVariants.{Of1986}
use Rattle.film_settings.specs.declared.MapRecord.{MapRecord}
use Rattle.film_settings.specs.declared.Footer.{Footer}
use Rattle.promise_films.specs.Films.{ClippingOn}
use Rattle.promise_films.specs.Older.{FilmOlder}
use Rattle.promise_films.proofs.Sound.{on_not_one}
use Rattle.promise_counts.proofs.Runs.{MapCall, Maps}
use Rattle.promise_counts.proofs.Ways.{CountedAs}
use Rattle.promise_counts.proofs.Ended.{mapped_ends, counted_made, as_prepare}
use Rattle.film_count.specs.Counting.{counts_in}
use Rattle.promise_films.specs.Looks.{TilesOlderLooks, FilmOlderLooks}
use Rattle.promise_films.proofs.Looks.{tiles_older_looks, ended_looks_older}
use Rattle.promise_counts.proofs.Looks.{entries_by, counts_long}
use Rattle.promise_films.proofs.Made.{made_tiles_older}

-- ---- every tile

module _ {pic : List ℕ} {d : MapCall} {r : MapRecord} {foot : Footer} (by : CountedAs d.width d.height pic d.settings d.counts) (ran : Maps d)
    (mapped : d.answer ≡ accepted (r, foot)) where
  -- and in that of 1986
  pub mapped_tiles_older : {f : Float} → ClippingOn d.settings.clip f → d.settings.edition ≡ Of1986 → FilmOlder d.width d.height pic d.settings f d.map'
  mapped_tiles_older on other = made_tiles_older (counted_made by ran mapped) on other

-- ---- order 7's list

module _ {d : MapCall} {r : MapRecord} {foot : Footer} (ran : Maps d) (mapped : d.answer ≡ accepted (r, foot)) where
  -- order 8, "E is what stands above C, and the looks are 0 here": in that of 1986
  pub mapped_looks_any_older : {f : Float} → ClippingOn d.settings.clip f → d.settings.edition ≡ Of1986
      → TilesOlderLooks d.width d.height d.settings f (counts_in d.settings d.counts) d.list'
  mapped_looks_any_older on other = tiles_older_looks d.width d.height d.settings on other (counts_in d.settings d.counts) d.list' (counts_long ran mapped) (entries_by ran mapped (on_not_one on))

module _ {pic : List ℕ} {d : MapCall} {r : MapRecord} {foot : Footer} (by : CountedAs d.width d.height pic d.settings d.counts) (ran : Maps d)
    (mapped : d.answer ≡ accepted (r, foot)) where
  -- and in the edition of 1986
  pub mapped_looks_older : {f : Float} → ClippingOn d.settings.clip f → d.settings.edition ≡ Of1986 → FilmOlderLooks d.width d.height pic d.settings f d.list'
  mapped_looks_older on other = ended_looks_older (as_prepare pic d) (mapped_ends by ran) mapped on other
