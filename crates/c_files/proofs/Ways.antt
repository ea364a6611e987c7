-- Document 00, demand 2, of the C interface, from call to call: a film that tz_write laid down is read back by tz_read_sizes, tz_read_raster and tz_read_greys.
-- Of every run of the calls by their contracts (Runs); a name with ' is lent memory at the end, and 0 is returned where nothing is refused.
-- Assumes nothing.
use Prim.Native.Nat.{◌-◌, ◌*◌, ◌≤◌}
use mathlib.Core.List.{[], ◌∷◌}
use mathlib.Core.Path.{◌≡◌, refl, sym, ap, ◌∙◌}
use lib.ListN.{length, get_or, take}
use Rattle.base_lists.specs.Lists.{onto}
use Rattle.base_rows.specs.Refuse.{first, accepted, says}
use Rattle.pgm_header.specs.Header.{header_bytes}
use Rattle.pgm_write.specs.Write.{write_rows, file_of, write_of}
use Rattle.pgm_read.specs.Pgm.{read_of, sizes_of, raster_of}
use Rattle.pgm_write.proofs.Laws.{written_read}
use Rattle.promise_films.proofs.Accepted.{table_says, returned_number}
use Rattle.promise_films.proofs.Files.{write_table, written_file, file_sizes, file_greys}
use Rattle.c_flat.specs.Flat.{returned}
use Rattle.c_flat.specs.Files.{Answer, answered, flat_sizes, flat_raster, flat_greys, FlatWritten, written_as, written_by, flat_written}
use Rattle.c_files.proofs.Runs.{TzSizesCall, TzReadsSizes, tz_sizes_ends, TzRasterCall, TzReadsRaster, tz_raster_ends, TzGreysCall, TzGreys, tz_greys_ends, TzWriteCall, TzWrites, tz_write_ends}

-- a film written and read back, the way C goes: tz_write returned 0, and over the bytes that it counted tz_read_sizes and tz_read_raster were asked, and tz_read_greys with the whole
-- file, where the raster starts in it, and the sizes and maxval, as they lie in those calls' cells
pub record TzReadBack (c : TzWriteCall) (z : TzSizesCall) (k : TzRasterCall) (g : TzGreysCall) : Type 0 where
  pub writes : TzWrites c
  pub written : c.number ≡ 0
  pub sizes : TzReadsSizes z
  pub asked : z.bytes ≡ take c.count' c.out'
  pub raster : TzReadsRaster k
  pub sought : k.bytes ≡ take c.count' c.out'
  pub greys : TzGreys g
  pub bytes : g.bytes ≡ take c.count' c.out'
  pub start : g.start ≡ get_or k.part' 0 0
  pub width : g.width ≡ get_or z.sizes' 0 0
  pub height : g.height ≡ get_or z.sizes' 1 0
  pub maxval : g.maxval ≡ get_or z.sizes' 2 0
  pub room : g.width * g.height ≤ length g.target

module _ {c : TzWriteCall} (ran : TzWrites c) (written : c.number ≡ 0) where
  loose : first (write_rows c.pixels c.width c.height c.maxval (length c.out)) ≡ 0
  unfolding flat_written
  loose =
      sym (returned_number (write_table _ _ _ _ _ _) (λ w. flat_written w c.count) (λ (z : FlatWritten). z.number) refl (λ k. refl))
      ∙ sym (ap (λ (z : FlatWritten). z.number) (tz_write_ends ran))
      ∙ written

  said : (write_of c.pixels c.width c.height c.maxval c.out).answer ≡ accepted (length (file_of c.pixels c.width c.height c.maxval))
  said = table_says (write_table _ _ _ _ _ _) ∙ ap (λ n. says n (length (file_of c.pixels c.width c.height c.maxval))) loose

  laid : written_as c.number c.out' c.count'
      ≡ written_as 0 (write_of c.pixels c.width c.height c.maxval c.out).out (length (file_of c.pixels c.width c.height c.maxval))
  unfolding flat_written
  laid = tz_write_ends ran ∙ ap (λ x. written_by x (write_of c.pixels c.width c.height c.maxval c.out).out c.count) said

  -- the bytes that tz_write counts are the file
  file : take c.count' c.out' ≡ file_of c.pixels c.width c.height c.maxval
  file = ap (λ (z : FlatWritten). take z.count z.out) laid ∙ written_file _ _ _ _ _ c.out said

module _ {c : TzWriteCall} {z : TzSizesCall} {k : TzRasterCall} {g : TzGreysCall} (way : TzReadBack c z k g) where
  rows : first (write_rows c.pixels c.width c.height c.maxval (length c.out)) ≡ 0
  rows = loose way.writes way.written

  -- "a film written and read back is the same film": tz_read_sizes hands out its width, height and maxval
  pub tz_sizes_read_back : (z.number ≡ 0) × (z.sizes' ≡ c.width ∷ c.height ∷ c.maxval ∷ [])
  unfolding flat_sizes
  tz_sizes_read_back =
      let e =
      tz_sizes_ends way.sizes
      ∙ ap (λ s. flat_sizes (sizes_of (read_of s)) z.sizes) (way.asked ∙ file way.writes way.written)
      ∙ ap (λ x. flat_sizes x z.sizes) (file_sizes c.pixels c.width c.height c.maxval (length c.out) rows) in
      (ap (λ (x : Answer). x.number) e, ap (λ (x : Answer). x.values) e)

  -- tz_read_raster hands out where its raster starts
  part : answered k.number k.part'
      ≡ answered 0 (length (header_bytes c.width c.height c.maxval) ∷ (length k.bytes - length (header_bytes c.width c.height c.maxval)) ∷ [])
  unfolding flat_raster
  part =
      tz_raster_ends way.raster
      ∙ ap (λ x. flat_raster x (length k.bytes) k.part)
      (ap read_of (way.sought ∙ file way.writes way.written) ∙ written_read c.pixels c.width c.height c.maxval (length c.out) rows)

  -- and refuses nothing
  pub tz_raster_read_back : k.number ≡ 0
  tz_raster_read_back = ap (λ (x : Answer). x.number) part

  -- and tz_read_greys leaves its greys in a target with room
  pub tz_greys_read_back : (g.number ≡ 0) × (g.target' ≡ onto g.target c.pixels)
  unfolding flat_greys
  tz_greys_read_back =
      let w : g.width ≡ c.width = way.width ∙ ap (λ s. get_or s 0 0) tz_sizes_read_back.1 in
      let h : g.height ≡ c.height = way.height ∙ ap (λ s. get_or s 1 0) tz_sizes_read_back.1 in
      let m : g.maxval ≡ c.maxval = way.maxval ∙ ap (λ s. get_or s 2 0) tz_sizes_read_back.1 in
      let s : g.bytes ≡ file_of c.pixels c.width c.height c.maxval = way.bytes ∙ file way.writes way.written in
      let a : g.start ≡ length (header_bytes c.width c.height c.maxval) = way.start ∙ ap (λ (x : Answer). get_or x.values 0 0) part in
      let e = tz_greys_ends way.greys in
      let y =
      file_greys c.pixels c.width c.height c.maxval (length c.out) rows (file_of c.pixels c.width c.height c.maxval) (length (header_bytes c.width c.height c.maxval)) g.target
      (sym (ap (λ x. raster_of x (file_of c.pixels c.width c.height c.maxval)) (written_read c.pixels c.width c.height c.maxval (length c.out) rows)))
      (rw (← w, ← h) way.room) in
      (ap (λ (x : Answer). x.number) e ∙ rw (s, a, w, h, m) (ap returned y.0), ap (λ (x : Answer). x.values) e ∙ rw (s, a, w, h, m) y.1)
