-- The calls on files of the C interface by the names of their arguments. A name with ' is lent memory at the end; `number` is what is returned.
-- The only file that counts these calls' parameters, in their order in the source. That each name is the contract's own is checked by the laws `..-ends`.
-- Assumes nothing.
use Prim.Native.Nat.{ℕ}
use mathlib.Core.List.{List}
use mathlib.Core.Path.{◌≡◌}
use lib.ListN.{length}
use Rattle.base_rows.specs.Run.{Run, Ran}
use Rattle.pgm_read.specs.Pgm.{read_of, sizes_of}
use Rattle.pgm_greys.specs.Greys.{turned_of}
use Rattle.pgm_write.specs.Write.{write_of}
use Rattle.c_flat.specs.Files.{answered, flat_sizes, flat_raster, flat_greys, written_as, flat_written}
use Rattle.c_files.proofs.tz_read_sizes.Kinds as sizes
use Rattle.c_files.proofs.tz_read_sizes.Reads as sizes-reads
use Rattle.c_files.proofs.tz_read_raster.Kinds as raster
use Rattle.c_files.proofs.tz_read_raster.Reads as raster-reads
use Rattle.c_files.proofs.tz_read_greys.Kinds as greys
use Rattle.c_files.proofs.tz_read_greys.Reads as greys-reads
use Rattle.c_files.proofs.tz_write.Kinds as write
use Rattle.c_files.proofs.tz_write.Reads as write-reads

-- ---- tz_read_sizes

pub record TzSizesCall : Type 0 where
  pub bytes : List ℕ
  pub sizes : List ℕ
  pub number : ℕ
  pub sizes' : List ℕ

abbrev pub tz_sizes_values : Run sizes.ps sizes.r sizes-reads.Post → TzSizesCall
tz_sizes_values run =
    let (bytes, (sizes, end)) = run.handed in
    let (_, (sizes', end')) = run.left in
    record { bytes = bytes.now; sizes = (sizes).now; number = run.answer; sizes' = sizes'.now }

-- what it is handed
abbrev pub tz_sizes_arguments : TzSizesCall → List ℕ × List ℕ
tz_sizes_arguments c = (c.bytes, c.sizes)

-- tz_read_sizes ran with these values
abbrev pub TzReadsSizes : TzSizesCall → Type 0
TzReadsSizes = Ran tz_sizes_values

pub tz_sizes_ends : {c : TzSizesCall} → TzReadsSizes c → answered c.number c.sizes' ≡ flat_sizes (sizes_of (read_of c.bytes)) c.sizes
tz_sizes_ends ran = rw ran.named ran.run.allowed

-- ---- tz_read_raster

pub record TzRasterCall : Type 0 where
  pub bytes : List ℕ
  pub part : List ℕ
  pub number : ℕ
  pub part' : List ℕ

abbrev pub tz_raster_values : Run raster.ps raster.r raster-reads.Post → TzRasterCall
tz_raster_values run =
    let (bytes, (part, end)) = run.handed in
    let (_, (part', end')) = run.left in
    record { bytes = bytes.now; part = part.now; number = run.answer; part' = part'.now }

-- what it is handed
abbrev pub tz_raster_arguments : TzRasterCall → List ℕ × List ℕ
tz_raster_arguments c = (c.bytes, c.part)

-- tz_read_raster ran with these values
abbrev pub TzReadsRaster : TzRasterCall → Type 0
TzReadsRaster = Ran tz_raster_values

pub tz_raster_ends : {c : TzRasterCall} → TzReadsRaster c → answered c.number c.part' ≡ flat_raster (read_of c.bytes) (length c.bytes) c.part
tz_raster_ends ran = rw ran.named ran.run.allowed

-- ---- tz_read_greys

pub record TzGreysCall : Type 0 where
  pub bytes : List ℕ
  pub start : ℕ
  pub width : ℕ
  pub height : ℕ
  pub maxval : ℕ
  pub target : List ℕ
  pub number : ℕ
  pub target' : List ℕ

abbrev pub tz_greys_values : Run greys.ps greys.r greys-reads.Post → TzGreysCall
tz_greys_values run =
    let (bytes, (start, (width, (height, (maxval, (target, end)))))) = run.handed in
    let (_, (_, (_, (_, (_, (target', end')))))) = run.left in
    record { bytes = bytes.now; start = start; width = width; height = height; maxval = maxval; target = target.now; number = run.answer; target' = target'.now }

-- what it is handed
abbrev pub tz_greys_arguments : TzGreysCall → List ℕ × ℕ × ℕ × ℕ × ℕ × List ℕ
tz_greys_arguments c = (c.bytes, c.start, c.width, c.height, c.maxval, c.target)

-- tz_read_greys ran with these values
abbrev pub TzGreys : TzGreysCall → Type 0
TzGreys = Ran tz_greys_values

pub tz_greys_ends : {c : TzGreysCall} → TzGreys c → answered c.number c.target' ≡ flat_greys (turned_of c.bytes c.start c.width c.height c.maxval c.target)
tz_greys_ends ran = rw ran.named ran.run.allowed

-- ---- tz_write

pub record TzWriteCall : Type 0 where
  pub pixels : List ℕ
  pub width : ℕ
  pub height : ℕ
  pub maxval : ℕ
  pub out : List ℕ
  pub count : ℕ
  pub number : ℕ
  pub out' : List ℕ
  pub count' : ℕ

abbrev pub tz_write_values : Run write.ps write.r write-reads.Post → TzWriteCall
tz_write_values run =
    let (pixels, (width, (height, (maxval, (out, (count, end)))))) = run.handed in
    let (_, (_, (_, (_, (out', (count', end')))))) = run.left in
    record { pixels = pixels.now; width = width; height = height; maxval = maxval; out = out.now; count = count.now; number = run.answer; out' = out'.now; count' = count'.now }

-- what it is handed
abbrev pub tz_write_arguments : TzWriteCall → List ℕ × ℕ × ℕ × ℕ × List ℕ × ℕ
tz_write_arguments c = (c.pixels, c.width, c.height, c.maxval, c.out, c.count)

-- tz_write ran with these values
abbrev pub TzWrites : TzWriteCall → Type 0
TzWrites = Ran tz_write_values

pub tz_write_ends : {c : TzWriteCall} → TzWrites c → written_as c.number c.out' c.count' ≡ flat_written (write_of c.pixels c.width c.height c.maxval c.out) c.count
tz_write_ends ran = rw ran.named ran.run.allowed
