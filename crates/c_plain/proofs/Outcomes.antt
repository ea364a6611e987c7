-- Document 01, "How tight the promises are", of the C interface on plain files: any two outcomes that a contract allows are equal.
-- Document 00, demand 1: "after a refusal all lent memory holds what it held before", where a refusal is a returned number that is not 0.
-- Of every run of the calls by their contracts (Runs); a name with ' is lent memory at the end.
-- Assumes nothing.
use Prim.Native.Nat.{ℕ, ◌+◌, ◌*◌, ◌≤◌, ◌<◌}
use mathlib.Core.List.{List}
use mathlib.Core.Logic.{inl, inr}
use mathlib.Core.Path.{◌≡◌, refl, sym, ap, ◌∙◌}
use lib.ListN.{length}
use Rattle.base_rows.specs.Refuse.{first, Says, accepted, refused}
use Rattle.pgm_write.specs.Write.{file_picture_rows}
use Rattle.promise_films.proofs.Accepted.{returned_number, returned_kept}
use Rattle.promise_films.proofs.Files.{write_table}
use Rattle.c_flat.specs.Files.{Answer, answered, flat_sizes, FlatWritten, flat_written}
use Rattle.c_flat.proofs.Kept.{Keeps, kept}
use Rattle.pgm_plain.specs.Plain.{plain_head_of}
use Rattle.pgm_plain_read.specs.PlainRead.{plain_of, limited_of}
use Rattle.pgm_plain_write.specs.PlainWrite.{plain_write_of}
use Rattle.pgm_plain_write.proofs.Parts.{roomy}
use Rattle.promise_plain.proofs.Outcomes.{read_says_kept}
use Rattle.c_files.proofs.Runs.{TzSizesCall, tz_sizes_arguments, TzWriteCall, tz_write_arguments}
use Rattle.c_files.proofs.Outcomes.{sizes_keeps}
use Rattle.c_plain.specs.Flat.{FlatRead, read_as, read_by, flat_read}
use Rattle.c_plain.proofs.Runs.{TzPlainSizes, tz_plain_sizes_ends, TzPlainCall, tz_read_plain_arguments, TzReadsPlain, tz_read_plain_ends, TzWritesPlain, tz_write_plain_ends}

-- ---- tz_plain_sizes

-- any two outcomes are equal: its number and the three sizes
pub tz_plain_sizes_determined : {c k : TzSizesCall} → TzPlainSizes c → TzPlainSizes k → tz_sizes_arguments c ≡ tz_sizes_arguments k
    → (c.number ≡ k.number) × (c.sizes' ≡ k.sizes')
tz_plain_sizes_determined x y same =
    let e = tz_plain_sizes_ends x ∙ ap (λ g. flat_sizes (limited_of (plain_head_of g.0)) g.1) same ∙ sym (tz_plain_sizes_ends y) in
    (ap (λ (z : Answer). z.number) e, ap (λ (z : Answer). z.values) e)

-- a refusal keeps lent memory
pub tz_plain_sizes_refusal_keeps : {c : TzSizesCall} → TzPlainSizes c → 0 < c.number → c.sizes' ≡ c.sizes
tz_plain_sizes_refusal_keeps {c} ran l =
    let e = kept (λ (z : Answer). z.number) (λ n. answered n c.sizes) (tz_plain_sizes_ends ran) (sizes_keeps _ _) l in
    ap (λ (z : Answer). z.values) e

-- ---- tz_read_plain

-- any two outcomes are equal: its number, the three sizes and the target
pub tz_read_plain_determined : {c k : TzPlainCall} → TzReadsPlain c → TzReadsPlain k → tz_read_plain_arguments c ≡ tz_read_plain_arguments k
    → (c.number ≡ k.number) × (c.sizes' ≡ k.sizes') × (c.target' ≡ k.target')
tz_read_plain_determined x y same =
    let e = tz_read_plain_ends x ∙ ap (λ g. flat_read (plain_of g.0 g.2) g.1) same ∙ sym (tz_read_plain_ends y) in
    (ap (λ (z : FlatRead). z.number) e, ap (λ (z : FlatRead). z.sizes) e, ap (λ (z : FlatRead). z.target) e)

read_keeps : (x : Says (ℕ × ℕ × ℕ)) (old target left : List ℕ) → ((n : ℕ) → x ≡ refused n → left ≡ target) → Keeps (λ (z : FlatRead). z.number) (λ n. read_as n old target) (read_by x old left)
read_keeps (accepted v) old target left f = inl refl
read_keeps (refused k) old target left f = inr (ap (read_as k old) (f k refl))

-- a refusal keeps lent memory
pub tz_read_plain_refusal_keeps : {c : TzPlainCall} → TzReadsPlain c → 0 < c.number → (c.sizes' ≡ c.sizes) × (c.target' ≡ c.target)
unfolding flat_read
tz_read_plain_refusal_keeps {c} ran l =
    let e =
    kept (λ (z : FlatRead). z.number) (λ n. read_as n c.sizes c.target) (tz_read_plain_ends ran)
    (read_keeps (plain_of c.bytes c.target).answer c.sizes c.target (plain_of c.bytes c.target).target (λ n. read_says_kept c.bytes c.target n)) l in
    (ap (λ (z : FlatRead). z.sizes) e, ap (λ (z : FlatRead). z.target) e)

-- ---- tz_write_plain

-- any two outcomes are equal: its number, output and byte count
pub tz_write_plain_determined : {c k : TzWriteCall} → TzWritesPlain c → TzWritesPlain k → tz_write_arguments c ≡ tz_write_arguments k
    → (c.number ≡ k.number) × (c.out' ≡ k.out') × (c.count' ≡ k.count')
tz_write_plain_determined x y same =
    let e = tz_write_plain_ends x ∙ ap (λ g. flat_written (plain_write_of g.0 g.1 g.2 g.3 g.4) g.5) same ∙ sym (tz_write_plain_ends y) in
    (ap (λ (z : FlatWritten). z.number) e, ap (λ (z : FlatWritten). z.out) e, ap (λ (z : FlatWritten). z.count) e)

-- a refusal keeps lent memory
pub tz_write_plain_refusal_keeps : {c : TzWriteCall} → TzWritesPlain c → 0 < c.number → (c.out' ≡ c.out) × (c.count' ≡ c.count)
unfolding flat_written
tz_write_plain_refusal_keeps {c} ran l =
    let e = returned_kept (write_table _ _ _ _ _ _) (λ w. flat_written w c.count) (λ (z : FlatWritten). z.number) refl (λ k. refl) (tz_write_plain_ends ran) l in
    (ap (λ (z : FlatWritten). z.out) e, ap (λ (z : FlatWritten). z.count) e)

-- 18 bytes and five for each pixel are room enough for any film: 22, 23, 2 and 26 alone decide
pub tz_write_plain_roomy : {c : TzWriteCall} → TzWritesPlain c → 18 + c.width * c.height * 5 ≤ length c.out
    → c.number ≡ first (file_picture_rows c.pixels c.width c.height c.maxval)
unfolding flat_written
tz_write_plain_roomy {c} ran l =
    ap (λ (z : FlatWritten). z.number) (tz_write_plain_ends ran)
    ∙ returned_number (write_table _ _ _ _ _ _) (λ w. flat_written w c.count) (λ (z : FlatWritten). z.number) refl (λ k. refl)
    ∙ roomy c.pixels c.width c.height c.maxval (length c.out) l
