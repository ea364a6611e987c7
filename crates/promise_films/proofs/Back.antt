-- A file that was written and is read back, call by call (Ways): what each call of such a way has of the film.
-- A name with ' is lent memory at the end.
-- Assumes nothing.
use Prim.Native.Nat.{ℕ, ◌-◌, ◌≤◌}
use mathlib.Core.List.{List}
use mathlib.Core.Path.{◌≡◌, refl, sym, ap, ◌∙◌}
use native.Mathlib.Omega.{arith}
use lib.ListN.{length, take, drop, length-drop, drop_of_length-le}
use Rattle.base_rows.specs.Refuse.{first, accepted}
use Rattle.pgm_header.specs.Header.{Head}
use Rattle.pgm_read.specs.Pgm.{read_of, sizes_of, raster_of}
use Rattle.pgm_read.proofs.Tables.{read_within}
use Rattle.pgm_write.specs.Write.{write_rows, file_of, WriteOut, write_of}
use Rattle.promise_films.proofs.Files.{written_none, written_file, file_sizes}
use Rattle.promise_films.proofs.Runs.{SizesCall, sizes_ends, RasterCall, GreysCall, WriteCall, Writes, write_ends}
use Rattle.promise_films.proofs.Ways.{ReadTwice, ReadBack}

-- read, asked twice, speaks of the same bytes
pub twice_found : {z : SizesCall} {k : RasterCall} → ReadTwice z k → z.answer ≡ sizes_of (read_of k.bytes)
twice_found twice = sizes_ends twice.sizes ∙ ap (λ s. sizes_of (read_of s)) twice.same

-- the raster stands in the file from where its part starts
pub raster_stands : (s : List ℕ) → drop (length s - length (raster_of (read_of s) s)) s ≡ raster_of (read_of s) s
raster_stands s = go (read_of s) refl
  where
    go : (x : Head) → read_of s ≡ x → drop (length s - length (raster_of x s)) s ≡ raster_of x s
    go (Head.Found w h m at) e =
        let l : at ≤ length s = read_within s e in
        let z : length s - length (drop at s) ≡ at = rw length-drop (omega arith) in
        ap (λ i. drop i s) z
    go (Head.Refused n) e = drop_of_length-le s {i = length s - 0} (omega arith)

-- ---- a film that was written

module _ {c : WriteCall} {n : ℕ} (ran : Writes c) (written : c.answer ≡ accepted n) where
  pub write_laid : (write_of c.pixels c.width c.height c.maxval c.out).answer ≡ accepted n
  write_laid = sym (ap (λ (x : WriteOut). x.answer) (write_ends ran)) ∙ written

  pub write_none : first (write_rows c.pixels c.width c.height c.maxval (length c.out)) ≡ 0
  write_none = written_none _ _ _ _ _ _ write_laid

  -- the bytes that are counted are its file
  pub write_file : take n c.out' ≡ file_of c.pixels c.width c.height c.maxval
  write_file = ap (λ (x : WriteOut). take n x.out) (write_ends ran) ∙ written_file _ _ _ _ _ c.out write_laid

  -- of which read says the film's width, height and maxval
  pub write_sizes : {s : List ℕ} → s ≡ take n c.out' → (sizes_of (read_of s)) ≡ accepted (c.width, c.height, c.maxval)
  write_sizes same = ap (λ s. (sizes_of (read_of s))) (same ∙ write_file) ∙ file_sizes _ _ _ _ (length c.out) write_none

-- ---- and read back

module _ {c : WriteCall} {n : ℕ} {z : SizesCall} {k : RasterCall} {g : GreysCall} (way : ReadBack c n z k g) where
  pub back_bytes : k.bytes ≡ file_of c.pixels c.width c.height c.maxval
  back_bytes = way.file ∙ write_file way.writes way.written

  -- the sizes and maxval that read says are the film's
  pub back_same : {w h m : ℕ} → z.answer ≡ accepted (w, h, m) → (w ≡ c.width) × (h ≡ c.height) × (m ≡ c.maxval)
  back_same {w} {h} {m} q =
      let e = sym q ∙ (sizes_ends way.reads.sizes) ∙ write_sizes way.writes way.written (way.reads.same ∙ way.file) in
      let v : ◌≡◌ {A = ℕ × ℕ × ℕ} (w, h, m) (c.width, c.height, c.maxval) = cc in
      (ap (λ (x : ℕ × ℕ × ℕ). x.0) v, ap (λ (x : ℕ × ℕ × ℕ). x.1) v, ap (λ (x : ℕ × ℕ × ℕ). x.2) v)
