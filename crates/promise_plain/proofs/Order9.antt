-- Order 9, plain PGM files: what plain_sizes, read_plain and write_plain say and keep, which files are accepted, "Any accepted file keeps its size, maxval and greys in either move", and the way there and back is
-- the same bytes.
-- Promises alone: of every run of the calls by their contracts (Runs), each listed in docs/PROMISES.md. A name with ' is lent memory at the end.
-- Assumes nothing.
use Prim.Native.Nat.{ℕ, ◌+◌, ◌-◌, ◌*◌, ◌≤◌}
use mathlib.Core.List.{List}
use mathlib.Core.Logic.{◌↔◌}
use mathlib.Core.Path.{◌≡◌, sym, ap, ◌∙◌}
use lib.ListN.{length, take}
use Rattle.base_lists.specs.Lists.{onto}
use Rattle.base_rows.specs.Refuse.{first, accepted, refused, says}
use Rattle.base_rows.proofs.Told.{told_same}
use Rattle.pgm_raster.specs.Raster.{head_rows, RasterLimits}
use Rattle.pgm_write.specs.Write.{file_picture_rows, WriteOut, WriteReady, file_of}
use Rattle.pgm_plain.specs.Plain.{plain_head_of}
use Rattle.pgm_plain.specs.Grammar.{PlainHeader, PlainHash, PlainFile}
use Rattle.pgm_plain.proofs.Heads.{head_complete, plain_hash_exactly, plain_other_exactly}
use Rattle.pgm_plain_read.specs.PlainRead.{plain_rows, PlainRead, plain_of, limited_of}
use Rattle.pgm_plain_write.specs.PlainWrite.{plain_file_of, plain_write_rows, plain_write_of}
use Rattle.pgm_plain_write.proofs.Parts.{roomy}
use Rattle.promise_films.proofs.Files.{write_table}
use Rattle.promise_films.proofs.Runs.{SizesCall, WriteCall, write_arguments, RasterCall, GreysCall, write_ends}
use Rattle.promise_plain.proofs.Runs.{ReadsPlainSizes, plain_sizes_ends, PlainReadCall, plain_read_arguments, ReadsPlain, plain_read_ends, WritesPlain, plain_write_ends}
use Rattle.base_lists.proofs.Fills.{take_onto}
use Rattle.pgm_plain_write.proofs.Trips.{file_written, plain_sizes_back}
use Rattle.promise_films.proofs.Ways.{ReadBack}
use Rattle.promise_films.proofs.Demand2.{sizes_read_back, greys_read_back}
use Rattle.promise_plain.proofs.Outcomes.{sizes_table, plain_table, read_says_kept, sizes_other, read_other, file_read, read_file}
use Rattle.promise_plain.proofs.Ways.{PlainToRaw, RawToPlain, RawPlainRaw, PlainRawPlain}
use Rattle.promise_plain.proofs.Moves.{raw, plain, film_of, takes, same_again, sizes_same, plain_left, raw_left, plain_film, plain_file, front_same}
use Rattle.promise_films.proofs.Accepted.{ended_kept, ended_says}
use Rattle.promise_films.proofs.Alike.{same_ends}
use Rattle.promise_films.proofs.Told.{sizes_told}

-- ---- what plain_sizes says

-- "20 (with P2) to 23 as 01 does": of bytes that start with a header 22 or 23, and where neither applies the header's width, height and maxval
pub plain_sizes_says_found : {c : SizesCall} {w h m : ℕ} {rest : List ℕ} → ReadsPlainSizes c → PlainHeader c.bytes w h m rest
    → c.answer ≡ says (first (head_rows w h m)) (w, h, m)
plain_sizes_says_found {c} ran g = ended_says (sizes_table c.bytes (head_complete g)) (plain_sizes_ends ran)

-- 21 where a `#` stands in it
pub plain_sizes_says_hash : {c : SizesCall} → ReadsPlainSizes c → PlainHash c.bytes → c.answer ≡ refused 21
plain_sizes_says_hash {c} ran g = (plain_sizes_ends ran) ∙ sizes_other c.bytes ((plain_hash_exactly c.bytes).1 g)

-- and 20 elsewhere
pub plain_sizes_says_misfit : {c : SizesCall} → ReadsPlainSizes c → ((w h m : ℕ) (rest : List ℕ) → PlainHeader c.bytes w h m rest → ⊥) → (PlainHash c.bytes → ⊥)
    → c.answer ≡ refused 20
plain_sizes_says_misfit {c} ran header hash = (plain_sizes_ends ran) ∙ sizes_other c.bytes ((plain_other_exactly c.bytes).1 (header, hash))

-- ---- what read_plain says

-- of bytes that start with a header the first of 22, 23, 27, then 24 or 26 at the first sample, then 25, that applies; where none does the header's width, height and maxval
pub plain_read_says_found : {r : PlainReadCall} {w h m : ℕ} {rest : List ℕ} → ReadsPlain r → PlainHeader r.bytes w h m rest
    → r.answer ≡ says (first (plain_rows r.bytes w h m (length r.bytes - length rest) (length r.target))) (w, h, m)
plain_read_says_found {r} ran g = ended_says (plain_table r.bytes r.target (head_complete g)) (plain_read_ends ran)

-- 21 where a `#` stands in it
pub plain_read_says_hash : {r : PlainReadCall} → ReadsPlain r → PlainHash r.bytes → r.answer ≡ refused 21
plain_read_says_hash {r} ran g = ap (λ (x : PlainRead). x.answer) (plain_read_ends ran) ∙ read_other r.bytes r.target ((plain_hash_exactly r.bytes).1 g)

-- and 20 elsewhere
pub plain_read_says_misfit : {r : PlainReadCall} → ReadsPlain r → ((w h m : ℕ) (rest : List ℕ) → PlainHeader r.bytes w h m rest → ⊥) → (PlainHash r.bytes → ⊥)
    → r.answer ≡ refused 20
plain_read_says_misfit {r} ran header hash = ap (λ (x : PlainRead). x.answer) (plain_read_ends ran) ∙ read_other r.bytes r.target ((plain_other_exactly r.bytes).1 (header, hash))

-- ---- what write_plain says

-- "refusals as for write": the first of 22, 23, 2, 26, 27 that applies, and where none does the byte count
pub plain_write_says : {c : WriteCall} → WritesPlain c
    → c.answer
    ≡ says (first (plain_write_rows c.pixels c.width c.height c.maxval (length c.out))) (length (plain_file_of c.pixels c.width c.height c.maxval))
plain_write_says ran = ended_says (write_table _ _ _ _ _ _) (plain_write_ends ran)

-- 18 bytes and five for each pixel are room enough for any film: 22, 23, 2 and 26 alone decide
pub plain_write_roomy : {c : WriteCall} → WritesPlain c → 18 + c.width * c.height * 5 ≤ length c.out
    → c.answer ≡ says (first (file_picture_rows c.pixels c.width c.height c.maxval)) (length (plain_file_of c.pixels c.width c.height c.maxval))
plain_write_roomy {c} ran l =
    plain_write_says ran ∙ ap (λ n. says n (length (plain_file_of c.pixels c.width c.height c.maxval))) (roomy c.pixels c.width c.height c.maxval (length c.out) l)

-- ---- a refusal keeps lent memory

-- demand 1, "after a refusal all lent memory holds what it held before", of read_plain: the target
pub plain_read_refusal_keeps : {r : PlainReadCall} (n : ℕ) → ReadsPlain r → r.answer ≡ refused n → r.target' ≡ r.target
plain_read_refusal_keeps {r} n ran q =
    let x = plain_read_ends ran in
    ap (λ (y : PlainRead). y.target) x ∙ read_says_kept r.bytes r.target n (sym (ap (λ (y : PlainRead). y.answer) x) ∙ q)

-- the same of write_plain: the output
pub plain_write_refusal_keeps : {c : WriteCall} (n : ℕ) → WritesPlain c → c.answer ≡ refused n → c.out' ≡ c.out
plain_write_refusal_keeps n ran q = ap (λ (y : WriteOut). y.out) (ended_kept (write_table _ _ _ _ _ _) (plain_write_ends ran) q)

-- ---- any two outcomes are equal. `run.answer` is what the call itself answers, and `answer` what that says

-- plain_sizes: one answer for each file
pub plain_sizes_determined : {c k : SizesCall} (x : ReadsPlainSizes c) (y : ReadsPlainSizes k) → c.bytes ≡ k.bytes → (x.run.answer ≡ y.run.answer) × (c.answer ≡ k.answer)
plain_sizes_determined x y same =
    let e = plain_sizes_ends x ∙ ap (λ s. limited_of (plain_head_of s)) same ∙ sym (plain_sizes_ends y) in
    (sizes_told (ap (λ (z : SizesCall). z.answer) x.named) (ap (λ (z : SizesCall). z.answer) y.named) e, e)

-- read_plain: one answer and one target for each file and target
pub plain_read_determined : {r k : PlainReadCall} (x : ReadsPlain r) (y : ReadsPlain k) → plain_read_arguments r ≡ plain_read_arguments k
    → (x.run.answer ≡ y.run.answer) × (r.answer ≡ k.answer) × (r.target' ≡ k.target')
plain_read_determined x y same =
    let e = same_ends (λ g. plain_of g.0 g.1) (plain_read_ends x) (plain_read_ends y) same in
    let a = ap (λ (z : PlainRead). z.answer) e in
    (sizes_told (ap (λ (z : PlainReadCall). z.answer) x.named) (ap (λ (z : PlainReadCall). z.answer) y.named) a, a, ap (λ (z : PlainRead). z.target) e)

-- write_plain: one answer and one output for each picture, numbers and output
pub plain_write_determined : {c k : WriteCall} (x : WritesPlain c) (y : WritesPlain k) → write_arguments c ≡ write_arguments k
    → (x.run.answer ≡ y.run.answer) × (c.answer ≡ k.answer) × (c.out' ≡ k.out')
plain_write_determined x y same =
    let e = same_ends (λ g. plain_write_of g.0 g.1 g.2 g.3 g.4) (plain_write_ends x) (plain_write_ends y) same in
    let a = ap (λ (z : WriteOut). z.answer) e in
    (told_same (ap (λ (z : WriteCall). z.answer) x.named) (ap (λ (z : WriteCall). z.answer) y.named) a, a, ap (λ (z : WriteOut). z.out) e)

-- ---- which files are accepted

module _ {r : PlainReadCall} {w h m : ℕ} (ran : ReadsPlain r) where
  -- a plain file of the grammar, in the limits of 22 and 23, is accepted where the target has room, and its greys stand at the target's front
  pub plain_accepts : {vs : List ℕ} → PlainFile r.bytes w h m vs → RasterLimits w h m → w * h ≤ length r.target
      → (r.answer ≡ accepted (w, h, m)) × (r.target' ≡ onto r.target vs)
  plain_accepts file within room =
      let e = plain_read_ends ran in
      let y = file_read r.bytes r.target file within room in
      (ap (λ (x : PlainRead). x.answer) e ∙ y.0, ap (λ (x : PlainRead). x.target) e ∙ y.1)

  -- "numbers parted by white space, no comments, nothing but white space behind the last sample": nothing else is accepted
  pub plain_exactly : (r.answer ≡ accepted (w, h, m)) ↔ ((vs : List ℕ) × PlainFile r.bytes w h m vs × RasterLimits w h m × (w * h ≤ length r.target))
  plain_exactly = (read_file r.bytes r.target (plain_read_ends ran), λ x. (plain_accepts x.1 x.2 x.3).0)

-- ---- a film written as plain and read back

module _ {c : WriteCall} {n : ℕ} (ran : WritesPlain c) (written : c.answer ≡ accepted n) where
  -- demand 2, "a film written and read back is the same film": read_plain over those bytes says its width, height and maxval, and leaves its greys in a target with room
  pub plain_back : {r : PlainReadCall} → ReadsPlain r → r.bytes ≡ take n c.out' → c.width * c.height ≤ length r.target
      → (r.answer ≡ accepted (c.width, c.height, c.maxval)) × (r.target' ≡ onto r.target c.pixels)
  plain_back {r} reads same room =
      plain_accepts reads (rw (same ∙ plain_file ran written) (file_written c.pixels c.width c.height c.maxval (plain_film ran written))) (plain_film ran written).within room

  -- and plain_sizes says them too
  pub plain_sizes_read_back : {z : SizesCall} → ReadsPlainSizes z → z.bytes ≡ take n c.out' → z.answer ≡ accepted (c.width, c.height, c.maxval)
  plain_sizes_read_back reads same =
      (plain_sizes_ends reads ∙ ap (λ s. limited_of (plain_head_of s)) (same ∙ plain_file ran written) ∙ plain_sizes_back c.pixels c.width c.height c.maxval (plain_film ran written))

-- ---- "Any accepted file keeps its size, maxval and greys in either move."

module _ {r : PlainReadCall} {c : WriteCall} (way : PlainToRaw r c) where
  -- write accepts it
  pub plain_keeps : c.answer ≡ accepted (length (file_of c.pixels c.width c.height c.maxval))
  plain_keeps =
      takes c (raw c) (write_ends way.writes) (rw way.greys (plain_left way.reads way.found)) way.room

  -- and what it wrote is read back with the sizes and maxval that read_plain said, and the greys that it left
  pub plain_moved : {n : ℕ} {z : SizesCall} {k : RasterCall} {g : GreysCall} → ReadBack c n z k g
      → (z.answer ≡ r.answer) × (g.answer ≡ accepted tt) × (take (c.width * c.height) g.target' ≡ take (c.width * c.height) r.target')
  plain_moved {n} {z} {k} {g} back =
      let x = greys_read_back back in
      let f = film_of c (raw c) (write_ends way.writes) back.written in (
        sizes_read_back back.writes back.written back.reads.sizes (back.reads.same ∙ back.file) ∙ sym way.found,
        x.0,
        ap (take (c.width * c.height)) x.1 ∙ take_onto g.target c.pixels (c.width * c.height) f.whole ∙ way.greys,
      )

module _ {z : SizesCall} {g : GreysCall} {c : WriteCall} (way : RawToPlain z g c) where
  -- write_plain accepts it
  pub raw_keeps : c.answer ≡ accepted (length (plain_file_of c.pixels c.width c.height c.maxval))
  raw_keeps =
      takes c (plain c) (plain_write_ends way.writes)
      (rw (way.greys, ← way.asked.0, ← way.asked.1, ← way.asked.2) (raw_left way.turns way.done))
      way.room

  -- and read_plain over what it wrote says the sizes and maxval that read said, and leaves the greys that stood there
  pub raw_moved : {n : ℕ} {r : PlainReadCall} → c.answer ≡ accepted n → ReadsPlain r → r.bytes ≡ take n c.out' → c.width * c.height ≤ length r.target
      → (r.answer ≡ z.answer) × (take (c.width * c.height) r.target' ≡ take (c.width * c.height) g.target')
  raw_moved {n} {r} written reads same room =
      let x = plain_back way.writes written reads same room in
      let f = plain_film way.writes written in (
        x.0 ∙ sym way.found,
        ap (take (c.width * c.height)) x.1 ∙ take_onto r.target c.pixels (c.width * c.height) f.whole ∙ way.greys,
      )

-- ---- there and back

-- "Raw to plain and back is the same bytes for every file that our writer made"
pub raw_plain_raw : {a : WriteCall} {n : ℕ} {z : SizesCall} {k : RasterCall} {g : GreysCall} {p : WriteCall} {j : ℕ} {r : PlainReadCall} {b : WriteCall} → RawPlainRaw a n z k g p j r b
    → (b.answer ≡ accepted n) × (take n b.out' ≡ take n a.out')
raw_plain_raw {a} {n} {z} {k} {g} {p} {j} {r} {b} way =
    same_again file_of a b (write_ends way.made.writes) way.made.written (write_ends way.again) (home.0 ∙ there.0, home.1 ∙ there.1, home.2 ∙ there.2) same way.wide
  where
    film : WriteReady a.pixels a.width a.height a.maxval
    film = film_of a (raw a) (write_ends way.made.writes) way.made.written

    there : (p.width ≡ a.width) × (p.height ≡ a.height) × (p.maxval ≡ a.maxval)
    there = sizes_same way.sizes (sizes_read_back way.made.writes way.made.written way.made.reads.sizes (way.made.reads.same ∙ way.made.file))

    moved : p.pixels ≡ a.pixels
    moved = way.pixels ∙ front_same g.target p.width p.height (greys_read_back way.made).1 (rw (there.0, there.1) film.whole)

    back : (r.answer ≡ accepted (p.width, p.height, p.maxval)) × (r.target' ≡ onto r.target p.pixels)
    back = plain_back way.lays way.laid way.reads way.file way.room

    home : (b.width ≡ p.width) × (b.height ≡ p.height) × (b.maxval ≡ p.maxval)
    home = sizes_same way.found back.0

    same : b.pixels ≡ a.pixels
    same = way.greys ∙ front_same r.target b.width b.height back.1 (rw (home.0, home.1, there.0, there.1, moved) film.whole) ∙ moved

-- "and plain to raw and back is so too"
pub plain_raw_plain : {a : WriteCall} {n : ℕ} {r : PlainReadCall} {c : WriteCall} {j : ℕ} {z : SizesCall} {k : RasterCall} {g : GreysCall} {b : WriteCall} → PlainRawPlain a n r c j z k g b
    → (b.answer ≡ accepted n) × (take n b.out' ≡ take n a.out')
plain_raw_plain {a} {n} {r} {c} {j} {z} {k} {g} {b} way =
    same_again plain_file_of a b (plain_write_ends way.makes) way.made (plain_write_ends way.again) (home.0 ∙ there.0, home.1 ∙ there.1, home.2 ∙ there.2) same way.wide
  where
    film : WriteReady a.pixels a.width a.height a.maxval
    film = plain_film way.makes way.made

    back : (r.answer ≡ accepted (a.width, a.height, a.maxval)) × (r.target' ≡ onto r.target a.pixels)
    back = plain_back way.makes way.made way.reads way.file way.room

    there : (c.width ≡ a.width) × (c.height ≡ a.height) × (c.maxval ≡ a.maxval)
    there = sizes_same way.found back.0

    moved : c.pixels ≡ a.pixels
    moved = way.greys ∙ front_same r.target c.width c.height back.1 (rw (there.0, there.1) film.whole)

    home : (b.width ≡ c.width) × (b.height ≡ c.height) × (b.maxval ≡ c.maxval)
    home = sizes_same way.sizes (sizes_read_back way.turned.writes way.turned.written way.turned.reads.sizes (way.turned.reads.same ∙ way.turned.file))

    same : b.pixels ≡ a.pixels
    same = way.pixels ∙ front_same g.target b.width b.height (greys_read_back way.turned).1 (rw (home.0, home.1, there.0, there.1, moved) film.whole) ∙ moved
