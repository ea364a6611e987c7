-- Document 00, demand 2, of the C interface, from call to call: a film that tz_write_plain laid down is read back by tz_plain_sizes and tz_read_plain.
-- Of every run of the calls by their contracts (Runs); a name with ' is lent memory at the end, and 0 is returned where nothing is refused.
-- Assumes nothing.
use Prim.Native.Nat.{ℕ, ◌*◌, ◌≤◌}
use mathlib.Core.List.{List, [], ◌∷◌}
use mathlib.Core.Path.{◌≡◌, refl, sym, ap, ◌∙◌}
use lib.ListN.{length, take}
use Rattle.base_lists.specs.Lists.{onto}
use Rattle.base_rows.specs.Refuse.{first, accepted, says}
use Rattle.pgm_write.specs.Write.{WriteReady, written_rows, written_of}
use Rattle.pgm_write.proofs.Tables.{write_asks}
use Rattle.pgm_plain.specs.Plain.{plain_head_of}
use Rattle.pgm_plain_read.specs.PlainRead.{plain_of, limited_of}
use Rattle.pgm_plain_write.specs.PlainWrite.{plain_file_of}
use Rattle.pgm_plain_write.proofs.Trips.{plain_read_back, plain_sizes_back}
use Rattle.promise_films.proofs.Accepted.{table_says, returned_number}
use Rattle.promise_films.proofs.Files.{write_table, written_file, film_written}
use Rattle.c_flat.specs.Files.{Answer, flat_sizes, FlatWritten, written_as, written_by, flat_written}
use Rattle.c_files.proofs.Runs.{TzSizesCall, TzWriteCall}
use Rattle.c_plain.specs.Flat.{FlatRead, flat_read}
use Rattle.c_plain.proofs.Runs.{TzPlainSizes, tz_plain_sizes_ends, TzPlainCall, TzReadsPlain, tz_read_plain_ends, TzWritesPlain, tz_write_plain_ends}

-- ---- what tz_write and tz_write_plain hand out, whatever the file's form

module _ (c : TzWriteCall) (file : List ℕ)
    (ends : written_as c.number c.out' c.count' ≡ flat_written (written_of c.pixels c.width c.height c.maxval file c.out) c.count) where
  -- that its answer says a count hands it out
  laid : {n : ℕ} → (written_of c.pixels c.width c.height c.maxval file c.out).answer ≡ accepted n
      → written_as c.number c.out' c.count' ≡ written_as 0 (written_of c.pixels c.width c.height c.maxval file c.out).out n
  unfolding flat_written
  laid said = ends ∙ ap (λ x. written_by x (written_of c.pixels c.width c.height c.maxval file c.out).out c.count) said

  module _ (written : c.number ≡ 0) where
    loose : first (written_rows c.pixels c.width c.height c.maxval file (length c.out)) ≡ 0
    unfolding flat_written
    loose =
        sym (returned_number (write_table _ _ _ _ _ _) (λ w. flat_written w c.count) (λ (z : FlatWritten). z.number) refl (λ k. refl))
        ∙ sym (ap (λ (z : FlatWritten). z.number) ends)
        ∙ written

    said : (written_of c.pixels c.width c.height c.maxval file c.out).answer ≡ accepted (length file)
    said = table_says (write_table _ _ _ _ _ _) ∙ ap (λ n. says n (length file)) loose

    -- what was written is a film
    pub film_of : WriteReady c.pixels c.width c.height c.maxval
    film_of = (write_asks c.pixels c.width c.height c.maxval file (length c.out) loose).film

    -- the count is its file's
    pub count_of : c.count' ≡ length file
    count_of = ap (λ (z : FlatWritten). z.count) (laid said)

    -- and the bytes that it counts are the file
    pub file_of_lem : take c.count' c.out' ≡ file
    file_of_lem = ap (λ (z : FlatWritten). take z.count z.out) (laid said) ∙ written_file _ _ _ _ _ c.out said

  -- a film is accepted in an output with room for its file
  pub takes : WriteReady c.pixels c.width c.height c.maxval → length file ≤ length c.out → c.number ≡ 0
  takes film room = ap (λ (z : FlatWritten). z.number) (laid (film_written c.pixels c.width c.height c.maxval file c.out film room).0)

-- a call of either writer ended with this form of file
abbrev pub Laid : (List ℕ → ℕ → ℕ → ℕ → List ℕ) → TzWriteCall → Type 0
Laid form c =
    written_as c.number c.out' c.count'
    ≡ flat_written (written_of c.pixels c.width c.height c.maxval (form c.pixels c.width c.height c.maxval) c.out) c.count

-- the film of a file that was written, written in the same form again, is the same bytes
pub same_again : (form : List ℕ → ℕ → ℕ → ℕ → List ℕ) (a b : TzWriteCall) → Laid form a → a.number ≡ 0 → Laid form b
    → (b.width ≡ a.width) × (b.height ≡ a.height) × (b.maxval ≡ a.maxval) → b.pixels ≡ a.pixels → a.count' ≤ length b.out
    → (b.number ≡ 0) × (b.count' ≡ a.count') × (take b.count' b.out' ≡ take a.count' a.out')
same_again form a b first written ends sizes same wide = (none, count_of b _ ends none ∙ count, file_of_lem b _ ends none ∙ file ∙ sym (file_of_lem a _ first written))
  where
    file : form b.pixels b.width b.height b.maxval ≡ form a.pixels a.width a.height a.maxval
    file = rw (same, sizes.0, sizes.1, sizes.2) refl

    count : length (form b.pixels b.width b.height b.maxval) ≡ a.count'
    count = ap length file ∙ sym (count_of a _ first written)

    none : b.number ≡ 0
    none = takes b _ ends (rw (same, sizes.0, sizes.1, sizes.2) (film_of a _ first written)) (rw count wide)

-- ---- a film written as plain and read back

-- the way C goes: tz_write_plain returned 0, and over the bytes that it counted tz_read_plain was asked with a target that has room
pub record TzPlainBack (c : TzWriteCall) (r : TzPlainCall) : Type 0 where
  pub writes : TzWritesPlain c
  pub written : c.number ≡ 0
  pub reads : TzReadsPlain r
  pub bytes : r.bytes ≡ take c.count' c.out'
  pub room : c.width * c.height ≤ length r.target

module _ {c : TzWriteCall} (ran : TzWritesPlain c) (written : c.number ≡ 0) where
  pub plain_film : WriteReady c.pixels c.width c.height c.maxval
  plain_film = film_of c _ (tz_write_plain_ends ran) written

  pub plain_file : take c.count' c.out' ≡ plain_file_of c.pixels c.width c.height c.maxval
  plain_file = file_of_lem c _ (tz_write_plain_ends ran) written

  -- "a film written and read back is the same film": tz_plain_sizes over those bytes hands out its width, height and maxval
  pub tz_plain_sizes_read_back : {z : TzSizesCall} → TzPlainSizes z → z.bytes ≡ take c.count' c.out'
      → (z.number ≡ 0) × (z.sizes' ≡ c.width ∷ c.height ∷ c.maxval ∷ [])
  unfolding flat_sizes
  tz_plain_sizes_read_back {z} sizes asked =
      let e =
      tz_plain_sizes_ends sizes
      ∙ ap (λ s. flat_sizes (limited_of (plain_head_of s)) z.sizes) (asked ∙ plain_file)
      ∙ ap (λ x. flat_sizes x z.sizes) (plain_sizes_back c.pixels c.width c.height c.maxval plain_film) in
      (ap (λ (x : Answer). x.number) e, ap (λ (x : Answer). x.values) e)

-- and tz_read_plain does so too, and leaves its greys in a target with room
pub tz_plain_read_back : {c : TzWriteCall} {r : TzPlainCall} → TzPlainBack c r
    → (r.number ≡ 0) × (r.sizes' ≡ c.width ∷ c.height ∷ c.maxval ∷ []) × (r.target' ≡ onto r.target c.pixels)
unfolding flat_read
tz_plain_read_back {c} {r} way =
    let e =
    tz_read_plain_ends way.reads
    ∙ ap (λ s. flat_read (plain_of s r.target) r.sizes) (way.bytes ∙ plain_file way.writes way.written)
    ∙ ap (λ x. flat_read x r.sizes) (sym (plain_read_back c.pixels c.width c.height c.maxval (plain_film way.writes way.written) r.target way.room)) in
    (ap (λ (x : FlatRead). x.number) e, ap (λ (x : FlatRead). x.sizes) e, ap (λ (x : FlatRead). x.target) e)
