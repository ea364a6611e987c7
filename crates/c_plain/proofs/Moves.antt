-- Order 9, of the C interface, from call to call: "Any accepted file keeps its size, maxval and greys in either move", and the way there and back is the same bytes.
-- Of every run of the calls by their contracts (Runs); a name with ' is lent memory at the end, and 0 is returned where nothing is refused.
-- Assumes nothing.
use Prim.Native.Nat.{ℕ, ◌*◌, ◌≤◌, ◌<◌}
use mathlib.Core.List.{List, [], ◌∷◌}
use mathlib.Core.Path.{◌≡◌, refl, sym, ap, ◌∙◌}
use native.Mathlib.Omega.{arith}
use lib.ListN.{length, get_or, take}
use Rattle.base_lists.specs.Lists.{onto}
use Rattle.base_lists.proofs.Fills.{take_onto}
use Rattle.base_rows.specs.Refuse.{Says, first, accepted, refused}
use Rattle.pgm_greys.specs.Greys.{turn_rows, greys_leave}
use Rattle.pgm_write.specs.Write.{WriteReady, file_of}
use Rattle.pgm_plain_read.specs.PlainRead.{PlainRead, plain_read_as, plain_of}
use Rattle.pgm_plain_write.specs.PlainWrite.{plain_file_of}
use Rattle.pgm_plain_write.proofs.Moves as Left
use Rattle.promise_films.proofs.Accepted.{returned_number}
use Rattle.promise_films.proofs.Files.{greys_table}
use Rattle.promise_plain.proofs.Outcomes.{read_says_some}
use Rattle.c_flat.specs.Files.{Answer, flat_greys}
use Rattle.c_files.proofs.Runs.{TzSizesCall, TzReadsSizes, TzRasterCall, TzGreysCall, TzGreys, tz_greys_ends, TzWriteCall, TzWrites, tz_write_ends}
use Rattle.c_files.proofs.Ways.{TzReadBack, tz_sizes_read_back, tz_greys_read_back}
use Rattle.c_plain.specs.Flat.{FlatRead, read_as, read_by, flat_read}
use Rattle.c_plain.proofs.Runs.{TzPlainCall, TzReadsPlain, tz_read_plain_ends, TzWritesPlain, tz_write_plain_ends}
use Rattle.c_plain.proofs.Ways.{film_of, takes, same_again, plain_film, TzPlainBack, tz_plain_read_back}

-- ---- what either reader left is a film

-- three numbers that lie in the same cells are one another's
cells_same : {w h m w' h' m' : ℕ} {s : List ℕ} → s ≡ w ∷ h ∷ m ∷ [] → s ≡ w' ∷ h' ∷ m' ∷ [] → (w ≡ w') × (h ≡ h') × (m ≡ m')
cells_same p q =
    let e = sym p ∙ q in
    (ap (λ s. get_or s 0 0) e, ap (λ s. get_or s 1 0) e, ap (λ s. get_or s 2 0) e)

-- where 0 is returned, the sizes that lie in their cells were answered, and the target is what was left
read_done : (p : PlainRead) (old : List ℕ) {sizes target : List ℕ} {w h m : ℕ} → ((n : ℕ) → p.answer ≡ refused n → 0 < n)
    → read_as 0 sizes target ≡ flat_read p old → sizes ≡ w ∷ h ∷ m ∷ [] → p ≡ plain_read_as (accepted (w, h, m)) target
unfolding flat_read
read_done p old {sizes} {target} {w} {h} {m} some e q = go p.answer refl
  where
    found : {a b d : ℕ} → p.answer ≡ accepted (a, b, d) → (a ≡ w) × (b ≡ h) × (d ≡ m) → target ≡ p.target → p ≡ plain_read_as (accepted (w, h, m)) target
    found i same t = ap (λ x. plain_read_as x p.target) (i ∙ rw (same.0, same.1, same.2) refl) ∙ ap (plain_read_as (accepted (w, h, m))) (sym t)

    go : (x : Says (ℕ × ℕ × ℕ)) → p.answer ≡ x → p ≡ plain_read_as (accepted (w, h, m)) target
    go (accepted v) i =
        let f : read_as 0 sizes target ≡ read_as 0 (v.0 ∷ v.1 ∷ v.2 ∷ []) p.target = e ∙ ap (λ x. read_by x old p.target) i in
        found i (cells_same (ap (λ (x : FlatRead). x.sizes) f) q) (ap (λ (x : FlatRead). x.target) f)
    go (refused n) i =
        let f : read_as 0 sizes target ≡ read_as n old p.target = e ∙ ap (λ x. read_by x old p.target) i in
        absurd (omega (arith, some n i, ap (λ (x : FlatRead). x.number) f))

-- what tz_read_plain left is a film
plain_left : {r : TzPlainCall} {w h m : ℕ} → TzReadsPlain r → r.number ≡ 0 → r.sizes' ≡ w ∷ h ∷ m ∷ [] → WriteReady (take (w * h) r.target') w h m
plain_left {r} {w} {h} {m} ran none found =
    Left.plain_left r.bytes r.target r.target' w h m
    (read_done (plain_of r.bytes r.target) r.sizes (read_says_some r.bytes r.target)
    (ap (λ n. read_as n r.sizes' r.target') (sym none) ∙ tz_read_plain_ends ran) found)

-- and so is what tz_read_greys left
raw_left : {g : TzGreysCall} → TzGreys g → g.number ≡ 0 → WriteReady (take (g.width * g.height) g.target') g.width g.height g.maxval
unfolding flat_greys
raw_left {g} ran none =
    let table = greys_table g.bytes g.start g.width g.height g.maxval g.target in
    let loose : first (turn_rows g.bytes g.start g.width g.height g.maxval (length g.target)) ≡ 0 =
    sym (returned_number table flat_greys (λ (z : Answer). z.number) refl (λ k. refl)) ∙ sym (ap (λ (z : Answer). z.number) (tz_greys_ends ran)) ∙ none in
    let done = table.when_none loose in
    Left.raw_left g.bytes g.start g.target g.target' g.width g.height g.maxval
    (done ∙ ap (greys_leave (accepted tt)) (sym (ap (λ (z : Answer). z.values) (tz_greys_ends ran ∙ ap flat_greys done))))

-- ---- "Any accepted file keeps its size, maxval and greys in either move."

-- the files of a call's film, in both forms
abbrev raw : TzWriteCall → List ℕ
raw c = file_of c.pixels c.width c.height c.maxval

abbrev plain : TzWriteCall → List ℕ
plain c = plain_file_of c.pixels c.width c.height c.maxval

-- a film laid at a target's front and taken from there is the same film
front_same : (target : List ℕ) {left pic : List ℕ} (w h : ℕ) → left ≡ onto target pic → length pic ≡ w * h → take (w * h) left ≡ pic
front_same target {left} {pic} w h q l = ap (take (w * h)) q ∙ take_onto target pic (w * h) l

-- a plain file for which tz_read_plain returned 0, its sizes, as they lie in their cells, and greys handed to tz_write with an output that has room
pub record TzPlainToRaw (r : TzPlainCall) (c : TzWriteCall) : Type 0 where
  pub reads : TzReadsPlain r
  pub read : r.number ≡ 0
  pub found : r.sizes' ≡ c.width ∷ c.height ∷ c.maxval ∷ []
  pub greys : c.pixels ≡ take (c.width * c.height) r.target'
  pub writes : TzWrites c
  pub room : length (file_of c.pixels c.width c.height c.maxval) ≤ length c.out

module _ {r : TzPlainCall} {c : TzWriteCall} (way : TzPlainToRaw r c) where
  -- tz_write accepts it
  pub tz_plain_keeps : c.number ≡ 0
  tz_plain_keeps = takes c (raw c) (tz_write_ends way.writes) (rw way.greys (plain_left way.reads way.read way.found)) way.room

  -- and what it wrote is read back with the sizes and maxval that tz_read_plain handed out, and the greys that it left
  pub tz_plain_moved : {z : TzSizesCall} {k : TzRasterCall} {g : TzGreysCall} → TzReadBack c z k g
      → (z.sizes' ≡ r.sizes') × (take (c.width * c.height) g.target' ≡ take (c.width * c.height) r.target')
  tz_plain_moved {z} {k} {g} back =
      let f = film_of c (raw c) (tz_write_ends way.writes) back.written in (
        (tz_sizes_read_back back).1 ∙ sym way.found,
        front_same g.target c.width c.height (tz_greys_read_back back).1 f.whole ∙ way.greys,
      )

-- a raw file whose sizes tz_read_sizes handed out, z, its raster turned into greys, g, both with 0, and all handed to tz_write_plain with an output that has room
pub record TzRawToPlain (z : TzSizesCall) (g : TzGreysCall) (c : TzWriteCall) : Type 0 where
  pub reads : TzReadsSizes z
  pub read : z.number ≡ 0
  pub found : z.sizes' ≡ c.width ∷ c.height ∷ c.maxval ∷ []
  pub turns : TzGreys g
  pub asked : (g.width ≡ c.width) × (g.height ≡ c.height) × (g.maxval ≡ c.maxval)
  pub turned : g.number ≡ 0
  pub greys : c.pixels ≡ take (c.width * c.height) g.target'
  pub writes : TzWritesPlain c
  pub room : length (plain_file_of c.pixels c.width c.height c.maxval) ≤ length c.out

module _ {z : TzSizesCall} {g : TzGreysCall} {c : TzWriteCall} (way : TzRawToPlain z g c) where
  -- tz_write_plain accepts it
  pub tz_raw_keeps : c.number ≡ 0
  tz_raw_keeps =
      takes c (plain c) (tz_write_plain_ends way.writes)
      (rw (way.greys, ← way.asked.0, ← way.asked.1, ← way.asked.2) (raw_left way.turns way.turned))
      way.room

  -- and tz_read_plain over what it wrote hands out the sizes and maxval that tz_read_sizes handed out, and leaves the greys that stood there
  pub tz_raw_moved : {r : TzPlainCall} → TzPlainBack c r
      → (r.sizes' ≡ z.sizes') × (take (c.width * c.height) r.target' ≡ take (c.width * c.height) g.target')
  tz_raw_moved {r} back =
      let x = tz_plain_read_back back in
      let f = plain_film way.writes tz_raw_keeps in (
        x.1 ∙ sym way.found,
        front_same r.target c.width c.height x.2 f.whole ∙ way.greys,
      )

-- ---- there and back

-- tz_write made a file, a, which was read back, z, k and g; that film was written as plain, p, and read, r; and written again, b
pub record TzRawPlainRaw (a : TzWriteCall) (z : TzSizesCall) (k : TzRasterCall) (g : TzGreysCall) (p : TzWriteCall) (r : TzPlainCall) (b : TzWriteCall) : Type 0 where
  pub made : TzReadBack a z k g
  pub sizes : z.sizes' ≡ p.width ∷ p.height ∷ p.maxval ∷ []
  pub pixels : p.pixels ≡ take (p.width * p.height) g.target'
  pub moved : TzPlainBack p r
  pub found : r.sizes' ≡ b.width ∷ b.height ∷ b.maxval ∷ []
  pub greys : b.pixels ≡ take (b.width * b.height) r.target'
  pub again : TzWrites b
  pub wide : a.count' ≤ length b.out

-- "Raw to plain and back is the same bytes for every file that our writer made"
pub tz_raw_plain_raw : {a : TzWriteCall} {z : TzSizesCall} {k : TzRasterCall} {g : TzGreysCall} {p : TzWriteCall} {r : TzPlainCall} {b : TzWriteCall} → TzRawPlainRaw a z k g p r b
    → (b.number ≡ 0) × (b.count' ≡ a.count') × (take b.count' b.out' ≡ take a.count' a.out')
tz_raw_plain_raw {a} {z} {k} {g} {p} {r} {b} way =
    same_again file_of a b (tz_write_ends way.made.writes) way.made.written (tz_write_ends way.again) (home.0 ∙ there.0, home.1 ∙ there.1, home.2 ∙ there.2) same way.wide
  where
    film : WriteReady a.pixels a.width a.height a.maxval
    film = film_of a (raw a) (tz_write_ends way.made.writes) way.made.written

    there : (p.width ≡ a.width) × (p.height ≡ a.height) × (p.maxval ≡ a.maxval)
    there = cells_same way.sizes (tz_sizes_read_back way.made).1

    moved : p.pixels ≡ a.pixels
    moved = way.pixels ∙ front_same g.target p.width p.height (tz_greys_read_back way.made).1 (rw (there.0, there.1) film.whole)

    home : (b.width ≡ p.width) × (b.height ≡ p.height) × (b.maxval ≡ p.maxval)
    home = cells_same way.found (tz_plain_read_back way.moved).1

    same : b.pixels ≡ a.pixels
    same = way.greys ∙ front_same r.target b.width b.height (tz_plain_read_back way.moved).2 (rw (home.0, home.1, there.0, there.1, moved) film.whole) ∙ moved

-- tz_write_plain made a file, a, which was read, r; that film was written raw, c, and read back, z, k and g; and written as plain again, b
pub record TzPlainRawPlain (a : TzWriteCall) (r : TzPlainCall) (c : TzWriteCall) (z : TzSizesCall) (k : TzRasterCall) (g : TzGreysCall) (b : TzWriteCall) : Type 0 where
  pub made : TzPlainBack a r
  pub found : r.sizes' ≡ c.width ∷ c.height ∷ c.maxval ∷ []
  pub greys : c.pixels ≡ take (c.width * c.height) r.target'
  pub moved : TzReadBack c z k g
  pub sizes : z.sizes' ≡ b.width ∷ b.height ∷ b.maxval ∷ []
  pub pixels : b.pixels ≡ take (b.width * b.height) g.target'
  pub again : TzWritesPlain b
  pub wide : a.count' ≤ length b.out

-- "and plain to raw and back is so too"
pub tz_plain_raw_plain : {a : TzWriteCall} {r : TzPlainCall} {c : TzWriteCall} {z : TzSizesCall} {k : TzRasterCall} {g : TzGreysCall} {b : TzWriteCall} → TzPlainRawPlain a r c z k g b
    → (b.number ≡ 0) × (b.count' ≡ a.count') × (take b.count' b.out' ≡ take a.count' a.out')
tz_plain_raw_plain {a} {r} {c} {z} {k} {g} {b} way =
    same_again plain_file_of a b (tz_write_plain_ends way.made.writes) way.made.written (tz_write_plain_ends way.again) (home.0 ∙ there.0, home.1 ∙ there.1, home.2 ∙ there.2) same way.wide
  where
    film : WriteReady a.pixels a.width a.height a.maxval
    film = plain_film way.made.writes way.made.written

    there : (c.width ≡ a.width) × (c.height ≡ a.height) × (c.maxval ≡ a.maxval)
    there = cells_same way.found (tz_plain_read_back way.made).1

    moved : c.pixels ≡ a.pixels
    moved = way.greys ∙ front_same r.target c.width c.height (tz_plain_read_back way.made).2 (rw (there.0, there.1) film.whole)

    home : (b.width ≡ c.width) × (b.height ≡ c.height) × (b.maxval ≡ c.maxval)
    home = cells_same way.sizes (tz_sizes_read_back way.moved).1

    same : b.pixels ≡ a.pixels
    same = way.pixels ∙ front_same g.target b.width b.height (tz_greys_read_back way.moved).1 (rw (home.0, home.1, there.0, there.1, moved) film.whole) ∙ moved
