-- Counting and mapping by the names of their arguments. A name with ' is lent memory at the end.
-- The only file that counts their parameters, in their order in the source. That each name is the contract's own is checked by the laws `..-ends`.
-- Assumes nothing.
use Prim.Native.Nat.{ℕ}
use mathlib.Core.List.{List}
use mathlib.Core.Path.{◌≡◌}
use lib.ListN.{take}
use Rattle.base_rows.specs.Given.{said}
use Rattle.base_rows.specs.Refuse.{Says}
use Rattle.base_rows.specs.Run.{Run, Ran}
use Rattle.film_settings.specs.declared.Settings.{Settings}
use Rattle.film_settings.specs.declared.MapRecord.{MapRecord}
use Rattle.film_settings.specs.declared.Footer.{Footer}
use Rattle.film_settings.specs.Settings.{entries_of, kept_of}
use Rattle.film_prepare.specs.Prepare.{prepared_says, prepare_leaves}
use Rattle.film_count.specs.Counting.{count_leaves, count_of}
use Rattle.film_map.specs.Counts.{map_of}
use Rattle.film_count.proofs.count_tiles.Kinds as count
use Rattle.film_count.proofs.count_tiles.Reads as count-reads
use Rattle.film_map.proofs.map_counts.Kinds as map
use Rattle.film_map.proofs.map_counts.Reads as map-reads

-- ---- counting

pub record CountCall : Type 0 where
  pub width : ℕ
  pub height : ℕ
  pub pixels : List ℕ
  pub settings : Settings
  pub counts : List ℕ
  pub answer : Says (Unit {0})
  pub counts' : List ℕ

abbrev pub count_values : Run count.ps count.r count-reads.Post → CountCall
count_values run =
    let (width, (height, (pixels, (settings, (counts, end))))) = run.handed in
    let (_, (_, (_, (_, (counts', end'))))) = run.left in
    record { width = width; height = height; pixels = pixels.now; settings = settings; counts = counts.now; answer = said run.answer; counts' = counts'.now }

-- what it is handed
abbrev pub count_arguments : CountCall → ℕ × ℕ × List ℕ × Settings × List ℕ
count_arguments c = (c.width, c.height, c.pixels, c.settings, c.counts)

-- counting ran with these values
abbrev pub Counts : CountCall → Type 0
Counts = Ran count_values

pub count_ends : {c : CountCall} → Counts c → count_leaves c.answer c.counts' ≡ count_of c.width c.height c.pixels c.settings c.counts
count_ends ran = rw ran.named ran.run.allowed

-- ---- mapping: the counts are lent to be read, so that there are none at the end

pub record MapCall : Type 0 where
  pub film : ℕ
  pub width : ℕ
  pub height : ℕ
  pub settings : Settings
  pub counts : List ℕ
  pub map : List ℕ
  pub scratch : List ℕ
  pub list : List ℕ
  pub answer : Says (MapRecord × Footer)
  pub map' : List ℕ
  pub scratch' : List ℕ
  pub list' : List ℕ

abbrev pub map_values : Run map.ps map.r map-reads.Post → MapCall
map_values run =
    let (film, (width, (height, (settings, (counts, (map, (scratch, (list, end)))))))) = run.handed in
    let (_, (_, (_, (_, (_, (map', (scratch', (list', end')))))))) = run.left in
    record {
      film = film;
      width = width;
      height = height;
      settings = settings;
      counts = counts.now;
      map = (map).now;
      scratch = scratch.now;
      list = list.now;
      answer = prepared_says run.answer;
      map' = map'.now;
      scratch' = scratch'.now;
      list' = list'.now;
    }

-- what it is handed
abbrev pub map_arguments : MapCall → ℕ × ℕ × ℕ × Settings × List ℕ × List ℕ × List ℕ × List ℕ
map_arguments d = (d.film, d.width, d.height, d.settings, d.counts, d.map, d.scratch, d.list)

-- what it reads of that: the settings "with bins 0 kept as 128", and of the counts as many as "tiles times bins"
abbrev pub map_read : MapCall → ℕ × ℕ × ℕ × Settings × List ℕ × List ℕ × List ℕ × List ℕ
map_read d = (d.film, d.width, d.height, kept_of d.settings, take (entries_of d.settings) d.counts, d.map, d.scratch, d.list)

-- mapping ran with these values
abbrev pub Maps : MapCall → Type 0
Maps = Ran map_values

pub map_ends : {d : MapCall} → Maps d
    → prepare_leaves d.answer d.map' d.scratch' d.list' ≡ map_of d.film d.width d.height d.settings d.counts d.map d.scratch d.list
map_ends ran = rw ran.named ran.run.allowed
