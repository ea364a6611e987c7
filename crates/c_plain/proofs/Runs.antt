-- The calls on plain files of the C interface by the names of their arguments. A name with ' is lent memory at the end; `number` is what is returned.
-- Assumes nothing.
use Prim.Native.Nat.{ℕ}
use mathlib.Core.List.{List}
use mathlib.Core.Path.{◌≡◌}
use Rattle.base_rows.specs.Run.{Run, Ran}
use Rattle.c_flat.specs.Files.{answered, flat_sizes, written_as, flat_written}
use Rattle.pgm_plain.specs.Plain.{plain_head_of}
use Rattle.pgm_plain_read.specs.PlainRead.{plain_of, limited_of}
use Rattle.pgm_plain_write.specs.PlainWrite.{plain_write_of}
use Rattle.c_files.proofs.Runs.{TzSizesCall, TzWriteCall}
use Rattle.c_plain.specs.Flat.{read_as, flat_read}
use Rattle.c_plain.proofs.tz_plain_sizes.Kinds as sizes
use Rattle.c_plain.proofs.tz_plain_sizes.Reads as sizes-reads
use Rattle.c_plain.proofs.tz_read_plain.Kinds as read
use Rattle.c_plain.proofs.tz_read_plain.Reads as read-reads
use Rattle.c_plain.proofs.tz_write_plain.Kinds as write
use Rattle.c_plain.proofs.tz_write_plain.Reads as write-reads

-- ---- tz_plain_sizes, with the values of tz_read_sizes

abbrev pub tz_plain_sizes_values : Run sizes.ps sizes.r sizes-reads.Post → TzSizesCall
tz_plain_sizes_values run =
    let (bytes, (sizes, end)) = run.handed in
    let (_, (sizes', end')) = run.left in
    record { bytes = bytes.now; sizes = (sizes).now; number = run.answer; sizes' = sizes'.now }

-- tz_plain_sizes ran with these values
abbrev pub TzPlainSizes : TzSizesCall → Type 0
TzPlainSizes = Ran tz_plain_sizes_values

pub tz_plain_sizes_ends : {c : TzSizesCall} → TzPlainSizes c → answered c.number c.sizes' ≡ flat_sizes (limited_of (plain_head_of c.bytes)) c.sizes
tz_plain_sizes_ends ran = rw ran.named ran.run.allowed

-- ---- tz_read_plain

pub record TzPlainCall : Type 0 where
  pub bytes : List ℕ
  pub sizes : List ℕ
  pub target : List ℕ
  pub number : ℕ
  pub sizes' : List ℕ
  pub target' : List ℕ

abbrev pub tz_read_plain_values : Run read.ps read.r read-reads.Post → TzPlainCall
tz_read_plain_values run =
    let (bytes, (sizes, (target, end))) = run.handed in
    let (_, (sizes', (target', end'))) = run.left in
    record { bytes = bytes.now; sizes = (sizes).now; target = target.now; number = run.answer; sizes' = sizes'.now; target' = target'.now }

-- what it is handed
abbrev pub tz_read_plain_arguments : TzPlainCall → List ℕ × List ℕ × List ℕ
tz_read_plain_arguments c = (c.bytes, c.sizes, c.target)

-- tz_read_plain ran with these values
abbrev pub TzReadsPlain : TzPlainCall → Type 0
TzReadsPlain = Ran tz_read_plain_values

pub tz_read_plain_ends : {c : TzPlainCall} → TzReadsPlain c → read_as c.number c.sizes' c.target' ≡ flat_read (plain_of c.bytes c.target) c.sizes
tz_read_plain_ends ran = rw ran.named ran.run.allowed

-- ---- tz_write_plain, with the values of tz_write

abbrev pub tz_write_plain_values : Run write.ps write.r write-reads.Post → TzWriteCall
tz_write_plain_values run =
    let (pixels, (width, (height, (maxval, (out, (count, end)))))) = run.handed in
    let (_, (_, (_, (_, (out', (count', end')))))) = run.left in
    record { pixels = pixels.now; width = width; height = height; maxval = maxval; out = out.now; count = count.now; number = run.answer; out' = out'.now; count' = count'.now }

-- tz_write_plain ran with these values
abbrev pub TzWritesPlain : TzWriteCall → Type 0
TzWritesPlain = Ran tz_write_plain_values

pub tz_write_plain_ends : {c : TzWriteCall} → TzWritesPlain c
    → written_as c.number c.out' c.count' ≡ flat_written (plain_write_of c.pixels c.width c.height c.maxval c.out) c.count
tz_write_plain_ends ran = rw ran.named ran.run.allowed
