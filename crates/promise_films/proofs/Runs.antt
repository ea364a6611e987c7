-- The calls by the names of their arguments: prepare, enhance, draw, read (its sizes and its raster), greys and write, and the judgement of a factor.
-- A name with ' is lent memory at the end.
-- The only file that counts the calls' parameters, in their order in the source. That each name is the contract's own is checked by the laws `..-ends`.
-- Assumes nothing.
use Prim.Native.Nat.{ℕ}
use mathlib.Core.List.{List}
use mathlib.Core.Path.{◌≡◌}
use lib.ListN.{take}
use Rattle.base_rows.specs.Given.{said}
use Rattle.base_rows.specs.Refuse.{Says}
use Rattle.base_rows.specs.Run.{Run, Ran}
use Rattle.tile_limit.specs.declared.Clip.{Clip}
use Rattle.tile_limit.specs.declared.Judged.{Judged}
use Rattle.tile_limit.specs.Limit.{judge_of}
use Rattle.tile_limit.proofs.judge.Kinds as judge
use Rattle.tile_limit.proofs.judge.Reads as judge-reads
use Rattle.film_settings.specs.declared.Settings.{Settings}
use Rattle.film_settings.specs.declared.MapRecord.{MapRecord}
use Rattle.film_settings.specs.declared.Window.{Window}
use Rattle.film_settings.specs.Settings.{entries_of, kept_of, kept_record}
use Rattle.film_settings.specs.declared.Footer.{Footer}
use Rattle.film_prepare.specs.Prepare.{prepared_says, prepare_leaves, prepare_of, enhance_leaves, enhance_of}
use Rattle.film_prepare.proofs.prepare.Kinds as prepare
use Rattle.film_prepare.proofs.prepare.Reads as prepare-reads
use Rattle.film_prepare.proofs.enhance.Kinds as enhance
use Rattle.film_prepare.proofs.enhance.Reads as enhance-reads
use Rattle.film_draw.specs.Draw.{draw_leaves, draw_of}
use Rattle.film_draw.proofs.draw.Kinds as draw
use Rattle.film_draw.proofs.draw.Reads as draw-reads
use Rattle.pgm_read.specs.Pgm.{sizes_says, read_of, sizes_of, raster_of}
use Rattle.pgm_greys.specs.Greys.{turned_of, greys_leave}
use Rattle.pgm_write.specs.Write.{write_of, write_leaves}
use Rattle.pgm_read.proofs.read_sizes.Kinds as sizes
use Rattle.pgm_read.proofs.read_sizes.Reads as sizes-reads
use Rattle.pgm_read.proofs.read_raster.Kinds as raster
use Rattle.pgm_read.proofs.read_raster.Reads as raster-reads
use Rattle.pgm_greys.proofs.read_greys.Kinds as greys
use Rattle.pgm_greys.proofs.read_greys.Reads as greys-reads
use Rattle.pgm_write.proofs.write.Kinds as write
use Rattle.pgm_write.proofs.write.Reads as write-reads

-- ---- prepare

pub record PrepareCall : Type 0 where
  pub film : ℕ
  pub width : ℕ
  pub height : ℕ
  pub pixels : List ℕ
  pub settings : Settings
  pub map : List ℕ
  pub scratch : List ℕ
  pub list : List ℕ
  pub answer : Says (MapRecord × Footer)
  pub map' : List ℕ
  pub scratch' : List ℕ
  pub list' : List ℕ

abbrev pub prepare_values : Run prepare.ps prepare.r prepare-reads.Post → PrepareCall
prepare_values run =
    let (film, (width, (height, (pixels, (settings, (map, (scratch, (list, end)))))))) = run.handed in
    let (_, (_, (_, (_, (_, (map', (scratch', (list', end')))))))) = run.left in
    record { film = film; width = width; height = height; pixels = pixels.now; settings = settings; map = map.now; scratch = scratch.now; list = list.now; answer = prepared_says run.answer; map' = map'.now; scratch' = scratch'.now; list' = list'.now }

-- what it is handed
abbrev pub prepare_arguments : PrepareCall → ℕ × ℕ × ℕ × List ℕ × Settings × List ℕ × List ℕ × List ℕ
prepare_arguments c = (c.film, c.width, c.height, c.pixels, c.settings, c.map, c.scratch, c.list)

-- what it reads of that: the settings "with bins 0 kept as 128"
abbrev pub prepare_read : PrepareCall → ℕ × ℕ × ℕ × List ℕ × Settings × List ℕ × List ℕ × List ℕ
prepare_read c = (c.film, c.width, c.height, c.pixels, kept_of c.settings, c.map, c.scratch, c.list)

-- prepare ran with these values
abbrev pub Prepares : PrepareCall → Type 0
Prepares = Ran prepare_values

pub prepare_ends : {p : PrepareCall} → Prepares p
    → prepare_leaves p.answer p.map' p.scratch' p.list' ≡ prepare_of p.film p.width p.height p.pixels p.settings p.map p.scratch p.list
prepare_ends ran = rw ran.named ran.run.allowed

-- ---- enhance

pub record EnhanceCall : Type 0 where
  pub width : ℕ
  pub height : ℕ
  pub pixels : List ℕ
  pub settings : Settings
  pub map : List ℕ
  pub scratch : List ℕ
  pub answer : Says Footer
  pub pixels' : List ℕ
  pub map' : List ℕ
  pub scratch' : List ℕ

abbrev pub enhance_values : Run enhance.ps enhance.r enhance-reads.Post → EnhanceCall
enhance_values run =
    let (width, (height, (pixels, (settings, (map, (scratch, end)))))) = run.handed in
    let (_, (_, (pixels', (_, (map', (scratch', end')))))) = run.left in
    record { width = width; height = height; pixels = pixels.now; settings = settings; map = map.now; scratch = scratch.now; answer = said run.answer; pixels' = pixels'.now; map' = map'.now; scratch' = scratch'.now }

-- what it is handed
abbrev pub enhance_arguments : EnhanceCall → ℕ × ℕ × List ℕ × Settings × List ℕ × List ℕ
enhance_arguments c = (c.width, c.height, c.pixels, c.settings, c.map, c.scratch)

-- what it reads of that: the settings "with bins 0 kept as 128"
abbrev pub enhance_read : EnhanceCall → ℕ × ℕ × List ℕ × Settings × List ℕ × List ℕ
enhance_read c = (c.width, c.height, c.pixels, kept_of c.settings, c.map, c.scratch)

-- enhance ran with these values
abbrev pub Enhances : EnhanceCall → Type 0
Enhances = Ran enhance_values

pub enhance_ends : {e : EnhanceCall} → Enhances e
    → enhance_leaves e.answer e.pixels' e.map' e.scratch' ≡ enhance_of e.width e.height e.pixels e.settings e.map e.scratch
enhance_ends ran = rw ran.named ran.run.allowed

-- ---- draw

-- `kept` is the map record that is handed in
pub record DrawCall : Type 0 where
  pub film : ℕ
  pub width : ℕ
  pub height : ℕ
  pub pixels : List ℕ
  pub settings : Settings
  pub kept : MapRecord
  pub window : Window
  pub map : List ℕ
  pub out : List ℕ
  pub answer : Says (Unit {0})
  pub out' : List ℕ

abbrev pub draw_values : Run draw.ps draw.r draw-reads.Post → DrawCall
draw_values run =
    let (film, (width, (height, (pixels, (settings, (kept, (window, (map, (out, end))))))))) = run.handed in
    let (_, (_, (_, (_, (_, (_, (_, (_, (out', end'))))))))) = run.left in
    record { film = film; width = width; height = height; pixels = pixels.now; settings = settings; kept = kept; window = window; map = map.now; out = out.now; answer = said run.answer; out' = out'.now }

-- what it is handed
abbrev pub draw_arguments : DrawCall → ℕ × ℕ × ℕ × List ℕ × Settings × MapRecord × Window × List ℕ × List ℕ
draw_arguments c = (c.film, c.width, c.height, c.pixels, c.settings, c.kept, c.window, c.map, c.out)

-- what it reads of that: "bins 0 read as 128 on both sides", and of the map buffer "the first (grid across) x (grid down) x B map entries"
abbrev pub draw_read : DrawCall → ℕ × ℕ × ℕ × List ℕ × Settings × MapRecord × Window × List ℕ × List ℕ
draw_read c = (
  c.film,
  c.width,
  c.height,
  c.pixels,
  kept_of c.settings,
  kept_record c.kept,
  c.window,
  take (entries_of c.settings) c.map,
  c.out,
)

-- draw ran with these values
abbrev pub Draws : DrawCall → Type 0
Draws = Ran draw_values

pub draw_ends : {d : DrawCall} → Draws d
    → draw_leaves d.answer d.out' ≡ draw_of d.film d.width d.height d.pixels d.settings d.kept d.window d.map d.out
draw_ends ran = rw ran.named ran.run.allowed

-- ---- read, asked for the sizes

pub record SizesCall : Type 0 where
  pub bytes : List ℕ
  pub answer : Says (ℕ × ℕ × ℕ)

abbrev pub sizes_values : Run sizes.ps sizes.r sizes-reads.Post → SizesCall
sizes_values run = let (bytes, end) = run.handed in record { bytes = bytes.now; answer = sizes_says run.answer }

-- read, asked for the sizes, ran with these values
abbrev pub ReadsSizes : SizesCall → Type 0
ReadsSizes = Ran sizes_values

pub sizes_ends : {c : SizesCall} → ReadsSizes c → c.answer ≡ sizes_of (read_of c.bytes)
sizes_ends ran = rw ran.named ran.run.allowed

-- ---- read, asked for the raster

-- `part` is what is handed back; `from` and `at` are where the bytes and the part lie: a block of memory, and how far into it
pub record RasterCall : Type 0 where
  pub bytes : List ℕ
  pub from : ℕ × ℕ
  pub part : List ℕ
  pub at : ℕ × ℕ

abbrev pub raster_values : Run raster.ps raster.r raster-reads.Post → RasterCall
raster_values run = let (bytes, end) = run.handed in record { bytes = bytes.now; from = bytes.ref_ptr; part = run.answer.now; at = run.answer.ref_ptr }

-- read, asked for the raster, ran with these values
abbrev pub ReadsRaster : RasterCall → Type 0
ReadsRaster = Ran raster_values

pub raster_ends : {c : RasterCall} → ReadsRaster c → c.part ≡ raster_of (read_of c.bytes) c.bytes
raster_ends ran = rw ran.named ran.run.allowed.0

-- ---- greys

-- `start` is where the raster starts in the bytes
pub record GreysCall : Type 0 where
  pub bytes : List ℕ
  pub start : ℕ
  pub width : ℕ
  pub height : ℕ
  pub maxval : ℕ
  pub target : List ℕ
  pub answer : Says (Unit {0})
  pub target' : List ℕ

abbrev pub greys_values : Run greys.ps greys.r greys-reads.Post → GreysCall
greys_values run =
    let (bytes, (start, (width, (height, (maxval, (target, end)))))) = run.handed in
    let (_, (_, (_, (_, (_, (target', end')))))) = run.left in
    record { bytes = bytes.now; start = start; width = width; height = height; maxval = maxval; target = target.now; answer = said run.answer; target' = target'.now }

-- what it is handed
abbrev pub greys_arguments : GreysCall → List ℕ × ℕ × ℕ × ℕ × ℕ × List ℕ
greys_arguments c = (c.bytes, c.start, c.width, c.height, c.maxval, c.target)

-- greys ran with these values
abbrev pub Greys : GreysCall → Type 0
Greys = Ran greys_values

pub greys_ends : {g : GreysCall} → Greys g → greys_leave g.answer g.target' ≡ turned_of g.bytes g.start g.width g.height g.maxval g.target
greys_ends ran = rw ran.named ran.run.allowed

-- ---- write

pub record WriteCall : Type 0 where
  pub pixels : List ℕ
  pub width : ℕ
  pub height : ℕ
  pub maxval : ℕ
  pub out : List ℕ
  pub answer : Says ℕ
  pub out' : List ℕ

abbrev pub write_values : Run write.ps write.r write-reads.Post → WriteCall
write_values run =
    let (pixels, (width, (height, (maxval, (out, end))))) = run.handed in
    let (_, (_, (_, (_, (out', end'))))) = run.left in
    record { pixels = pixels.now; width = width; height = height; maxval = maxval; out = out.now; answer = said run.answer; out' = out'.now }

-- what it is handed
abbrev pub write_arguments : WriteCall → List ℕ × ℕ × ℕ × ℕ × List ℕ
write_arguments c = (c.pixels, c.width, c.height, c.maxval, c.out)

-- write ran with these values
abbrev pub Writes : WriteCall → Type 0
Writes = Ran write_values

pub write_ends : {c : WriteCall} → Writes c → write_leaves c.answer c.out' ≡ write_of c.pixels c.width c.height c.maxval c.out
write_ends ran = rw ran.named ran.run.allowed

-- ---- the judgement of a clip setting

pub record JudgeCall : Type 0 where
  pub clip : Clip
  pub answer : Judged

abbrev pub judge_values : Run judge.ps judge.r judge-reads.Post → JudgeCall
judge_values run = let (clip, end) = run.handed in record { clip = clip; answer = run.answer }

-- judge ran with these values
abbrev pub Judges : JudgeCall → Type 0
Judges = Ran judge_values

pub judge_ends : {c : JudgeCall} → Judges c → c.answer ≡ judge_of c.clip
judge_ends ran = rw ran.named ran.run.allowed
