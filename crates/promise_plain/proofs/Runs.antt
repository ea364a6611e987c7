-- The calls on plain files by the names of their arguments. A name with ' is lent memory at the end.
-- Assumes nothing.
use Prim.Native.Nat.{ℕ}
use mathlib.Core.List.{List}
use mathlib.Core.Path.{◌≡◌}
use Rattle.base_rows.specs.Given.{said}
use Rattle.base_rows.specs.Refuse.{Says}
use Rattle.pgm_read.specs.Pgm.{sizes_says}
use Rattle.base_rows.specs.Run.{Run, Ran}
use Rattle.pgm_write.specs.Write.{write_leaves}
use Rattle.pgm_plain.specs.Plain.{plain_head_of}
use Rattle.pgm_plain_read.specs.PlainRead.{plain_read_as, plain_of, limited_of}
use Rattle.pgm_plain_write.specs.PlainWrite.{plain_write_of}
use Rattle.pgm_plain_read.proofs.plain_sizes.Kinds as sizes
use Rattle.pgm_plain_read.proofs.plain_sizes.Reads as sizes-reads
use Rattle.pgm_plain_read.proofs.read_plain.Kinds as read
use Rattle.pgm_plain_read.proofs.read_plain.Reads as read-reads
use Rattle.pgm_plain_write.proofs.write_plain.Kinds as write
use Rattle.pgm_plain_write.proofs.write_plain.Reads as write-reads
use Rattle.promise_films.proofs.Runs.{SizesCall, WriteCall}

-- ---- plain_sizes, with the values of read asked for the sizes

abbrev pub plain_sizes_values : Run sizes.ps sizes.r sizes-reads.Post → SizesCall
plain_sizes_values run = let (bytes, end) = run.handed in record { bytes = bytes.now; answer = sizes_says run.answer }

-- plain_sizes ran with these values
abbrev pub ReadsPlainSizes : SizesCall → Type 0
ReadsPlainSizes = Ran plain_sizes_values

pub plain_sizes_ends : {c : SizesCall} → ReadsPlainSizes c → c.answer ≡ limited_of (plain_head_of c.bytes)
plain_sizes_ends ran = rw ran.named ran.run.allowed

-- ---- read_plain

pub record PlainReadCall : Type 0 where
  pub bytes : List ℕ
  pub target : List ℕ
  pub answer : Says (ℕ × ℕ × ℕ)
  pub target' : List ℕ

abbrev pub plain_read_values : Run read.ps read.r read-reads.Post → PlainReadCall
plain_read_values run =
    let (bytes, (target, end)) = run.handed in
    let (_, (target', end')) = run.left in
    record { bytes = bytes.now; target = target.now; answer = sizes_says run.answer; target' = target'.now }

-- what it is handed
abbrev pub plain_read_arguments : PlainReadCall → List ℕ × List ℕ
plain_read_arguments r = (r.bytes, r.target)

-- read_plain ran with these values
abbrev pub ReadsPlain : PlainReadCall → Type 0
ReadsPlain = Ran plain_read_values

pub plain_read_ends : {r : PlainReadCall} → ReadsPlain r → plain_read_as r.answer r.target' ≡ plain_of r.bytes r.target
plain_read_ends ran = rw ran.named ran.run.allowed

-- ---- write_plain, with the values of write

abbrev pub plain_write_values : Run write.ps write.r write-reads.Post → WriteCall
plain_write_values run =
    let (pixels, (width, (height, (maxval, (out, end))))) = run.handed in
    let (_, (_, (_, (_, (out', end'))))) = run.left in
    record { pixels = pixels.now; width = width; height = height; maxval = maxval; out = out.now; answer = said run.answer; out' = out'.now }

-- write_plain ran with these values
abbrev pub WritesPlain : WriteCall → Type 0
WritesPlain = Ran plain_write_values

pub plain_write_ends : {c : WriteCall} → WritesPlain c → write_leaves c.answer c.out' ≡ plain_write_of c.pixels c.width c.height c.maxval c.out
plain_write_ends ran = rw ran.named ran.run.allowed
