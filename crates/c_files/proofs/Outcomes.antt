-- Document 01, "How tight the promises are", of the C interface on files: any two outcomes that a contract allows are equal.
-- Document 00, demand 1: "after a refusal all lent memory holds what it held before", where a refusal is a returned number that is not 0.
-- Of every run of the calls by their contracts (Runs); a name with ' is lent memory at the end.
-- Assumes nothing.
use Prim.Native.Nat.{ℕ, ◌<◌}
use mathlib.Core.List.{List}
use mathlib.Core.Logic.{inl, inr}
use mathlib.Core.Path.{◌≡◌, refl, sym, ap, ◌∙◌}
use lib.ListN.{length}
use Rattle.base_rows.specs.Refuse.{Says, accepted, refused}
use Rattle.pgm_header.specs.Header.{Head}
use Rattle.pgm_read.specs.Pgm.{read_of, sizes_of}
use Rattle.pgm_greys.specs.Greys.{turned_of}
use Rattle.pgm_write.specs.Write.{write_of}
use Rattle.promise_films.proofs.Accepted.{returned_kept}
use Rattle.promise_films.proofs.Files.{greys_table, write_table}
use Rattle.c_flat.specs.Files.{Answer, answered, flat_sizes, flat_raster, flat_greys, FlatWritten, flat_written}
use Rattle.c_flat.proofs.Kept.{Keeps, kept}
use Rattle.c_files.proofs.Runs.{TzSizesCall, TzReadsSizes, tz_sizes_arguments, tz_sizes_ends, TzRasterCall, TzReadsRaster, tz_raster_arguments, tz_raster_ends, TzGreysCall, TzGreys, tz_greys_arguments, tz_greys_ends, TzWriteCall, TzWrites, tz_write_arguments, tz_write_ends}

-- ---- what a returned number tells

pub sizes_keeps : (x : Says (ℕ × ℕ × ℕ)) (old : List ℕ) → Keeps (λ (z : Answer). z.number) (λ n. answered n old) (flat_sizes x old)
unfolding flat_sizes
sizes_keeps (accepted v) old = inl refl
sizes_keeps (refused k) old = inr refl

raster_keeps : (hd : Head) (size : ℕ) (old : List ℕ) → Keeps (λ (z : Answer). z.number) (λ n. answered n old) (flat_raster hd size old)
unfolding flat_raster
raster_keeps (Head.Found w h m at) size old = inl refl
raster_keeps (Head.Refused k) size old = inr refl

-- ---- tz_read_sizes

-- any two outcomes are equal: its number and the three sizes
pub tz_read_sizes_determined : {c k : TzSizesCall} → TzReadsSizes c → TzReadsSizes k → tz_sizes_arguments c ≡ tz_sizes_arguments k
    → (c.number ≡ k.number) × (c.sizes' ≡ k.sizes')
tz_read_sizes_determined x y same =
    let e = tz_sizes_ends x ∙ ap (λ g. flat_sizes (sizes_of (read_of g.0)) g.1) same ∙ sym (tz_sizes_ends y) in
    (ap (λ (z : Answer). z.number) e, ap (λ (z : Answer). z.values) e)

-- a refusal keeps lent memory
pub tz_read_sizes_refusal_keeps : {c : TzSizesCall} → TzReadsSizes c → 0 < c.number → c.sizes' ≡ c.sizes
tz_read_sizes_refusal_keeps {c} ran l =
    let e = kept (λ (z : Answer). z.number) (λ n. answered n c.sizes) (tz_sizes_ends ran) (sizes_keeps _ _) l in
    ap (λ (z : Answer). z.values) e

-- ---- tz_read_raster

-- any two outcomes are equal: its number and the part's two numbers
pub tz_read_raster_determined : {c k : TzRasterCall} → TzReadsRaster c → TzReadsRaster k → tz_raster_arguments c ≡ tz_raster_arguments k
    → (c.number ≡ k.number) × (c.part' ≡ k.part')
tz_read_raster_determined x y same =
    let e = tz_raster_ends x ∙ ap (λ g. flat_raster (read_of g.0) (length g.0) g.1) same ∙ sym (tz_raster_ends y) in
    (ap (λ (z : Answer). z.number) e, ap (λ (z : Answer). z.values) e)

-- a refusal keeps lent memory
pub tz_read_raster_refusal_keeps : {c : TzRasterCall} → TzReadsRaster c → 0 < c.number → c.part' ≡ c.part
tz_read_raster_refusal_keeps {c} ran l =
    let e = kept (λ (z : Answer). z.number) (λ n. answered n c.part) (tz_raster_ends ran) (raster_keeps _ _ _) l in
    ap (λ (z : Answer). z.values) e

-- ---- tz_read_greys

-- any two outcomes are equal: its number and target
pub tz_read_greys_determined : {c k : TzGreysCall} → TzGreys c → TzGreys k → tz_greys_arguments c ≡ tz_greys_arguments k
    → (c.number ≡ k.number) × (c.target' ≡ k.target')
tz_read_greys_determined x y same =
    let e = tz_greys_ends x ∙ ap (λ g. flat_greys (turned_of g.0 g.1 g.2 g.3 g.4 g.5)) same ∙ sym (tz_greys_ends y) in
    (ap (λ (z : Answer). z.number) e, ap (λ (z : Answer). z.values) e)

-- a refusal keeps lent memory
pub tz_read_greys_refusal_keeps : {c : TzGreysCall} → TzGreys c → 0 < c.number → c.target' ≡ c.target
unfolding flat_greys
tz_read_greys_refusal_keeps ran l =
    ap (λ (z : Answer). z.values) (returned_kept (greys_table _ _ _ _ _ _) flat_greys (λ (z : Answer). z.number) refl (λ k. refl) (tz_greys_ends ran) l)

-- ---- tz_write

-- any two outcomes are equal: its number, output and byte count
pub tz_write_determined : {c k : TzWriteCall} → TzWrites c → TzWrites k → tz_write_arguments c ≡ tz_write_arguments k
    → (c.number ≡ k.number) × (c.out' ≡ k.out') × (c.count' ≡ k.count')
tz_write_determined x y same =
    let e = tz_write_ends x ∙ ap (λ g. flat_written (write_of g.0 g.1 g.2 g.3 g.4) g.5) same ∙ sym (tz_write_ends y) in
    (ap (λ (z : FlatWritten). z.number) e, ap (λ (z : FlatWritten). z.out) e, ap (λ (z : FlatWritten). z.count) e)

-- a refusal keeps lent memory
pub tz_write_refusal_keeps : {c : TzWriteCall} → TzWrites c → 0 < c.number → (c.out' ≡ c.out) × (c.count' ≡ c.count)
unfolding flat_written
tz_write_refusal_keeps {c} ran l =
    let e = returned_kept (write_table _ _ _ _ _ _) (λ w. flat_written w c.count) (λ (z : FlatWritten). z.number) refl (λ k. refl) (tz_write_ends ran) l in
    (ap (λ (z : FlatWritten). z.out) e, ap (λ (z : FlatWritten). z.count) e)
