-- What the promises on plain files speak of, beside one call: a file moved from plain to raw, from raw to plain, and there and back.
-- A name with ' is lent memory at the end.
-- Assumes nothing.
use Prim.Native.Nat.{ℕ, ◌*◌, ◌≤◌}
use mathlib.Core.Path.{◌≡◌}
use lib.ListN.{length, take}
use Rattle.base_rows.specs.Refuse.{accepted}
use Rattle.pgm_write.specs.Write.{file_of}
use Rattle.pgm_plain_write.specs.PlainWrite.{plain_file_of}
use Rattle.promise_films.proofs.Runs.{SizesCall, ReadsSizes, RasterCall, GreysCall, Greys, WriteCall, Writes}
use Rattle.promise_films.proofs.Ways.{ReadBack}
use Rattle.promise_plain.proofs.Runs.{PlainReadCall, ReadsPlain, WritesPlain}

-- ---- "Any accepted file keeps its size, maxval and greys in either move."

-- a plain file that read_plain accepted, its sizes, maxval and greys handed to write with an output that has room
pub record PlainToRaw (r : PlainReadCall) (c : WriteCall) : Type 0 where
  pub reads : ReadsPlain r
  pub found : r.answer ≡ accepted (c.width, c.height, c.maxval)
  pub greys : c.pixels ≡ take (c.width * c.height) r.target'
  pub writes : Writes c
  pub room : length (file_of c.pixels c.width c.height c.maxval) ≤ length c.out

-- a raw file that read accepted, z, its raster turned into greys, g, and all handed to write_plain with an output that has room
pub record RawToPlain (z : SizesCall) (g : GreysCall) (c : WriteCall) : Type 0 where
  pub reads : ReadsSizes z
  pub found : z.answer ≡ accepted (c.width, c.height, c.maxval)
  pub turns : Greys g
  pub asked : (g.width ≡ c.width) × (g.height ≡ c.height) × (g.maxval ≡ c.maxval)
  pub done : g.answer ≡ accepted tt
  pub greys : c.pixels ≡ take (c.width * c.height) g.target'
  pub writes : WritesPlain c
  pub room : length (plain_file_of c.pixels c.width c.height c.maxval) ≤ length c.out

-- ---- there and back

-- write made a file of n bytes, a, which was read back, z, k and g; that film was written as plain, p, in j bytes, and read, r; and written again, b
pub record RawPlainRaw (a : WriteCall) (n : ℕ) (z : SizesCall) (k : RasterCall) (g : GreysCall) (p : WriteCall) (j : ℕ) (r : PlainReadCall) (b : WriteCall) : Type 0 where
  pub made : ReadBack a n z k g
  pub lays : WritesPlain p
  pub sizes : z.answer ≡ accepted (p.width, p.height, p.maxval)
  pub pixels : p.pixels ≡ take (p.width * p.height) g.target'
  pub laid : p.answer ≡ accepted j
  pub reads : ReadsPlain r
  pub file : r.bytes ≡ take j p.out'
  pub room : p.width * p.height ≤ length r.target
  pub again : Writes b
  pub found : r.answer ≡ accepted (b.width, b.height, b.maxval)
  pub greys : b.pixels ≡ take (b.width * b.height) r.target'
  pub wide : n ≤ length b.out

-- write_plain made a file of n bytes, a, which was read, r; that film was written raw, c, in j bytes, and read back, z, k and g; and written as plain again, b
pub record PlainRawPlain (a : WriteCall) (n : ℕ) (r : PlainReadCall) (c : WriteCall) (j : ℕ) (z : SizesCall) (k : RasterCall) (g : GreysCall) (b : WriteCall) : Type 0 where
  pub makes : WritesPlain a
  pub made : a.answer ≡ accepted n
  pub reads : ReadsPlain r
  pub file : r.bytes ≡ take n a.out'
  pub room : a.width * a.height ≤ length r.target
  pub found : r.answer ≡ accepted (c.width, c.height, c.maxval)
  pub greys : c.pixels ≡ take (c.width * c.height) r.target'
  pub turned : ReadBack c j z k g
  pub again : WritesPlain b
  pub sizes : z.answer ≡ accepted (b.width, b.height, b.maxval)
  pub pixels : b.pixels ≡ take (b.width * b.height) g.target'
  pub wide : n ≤ length b.out
