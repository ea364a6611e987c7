-- What either writer accepted and what either reader left is a film, and written in the same form again it is the same bytes.
-- A name with ' is lent memory at the end.
-- Assumes nothing.
use Prim.Native.Nat.{ℕ, ◌*◌, ◌≤◌}
use mathlib.Core.List.{List}
use mathlib.Core.Path.{◌≡◌, refl, sym, ap, ◌∙◌}
use native.Mathlib.Omega.{arith}
use lib.ListN.{length, take}
use Rattle.base_lists.specs.Lists.{onto}
use Rattle.base_lists.proofs.Fills.{take_onto}
use Rattle.base_rows.specs.Refuse.{Says, accepted, refused}
use Rattle.pgm_greys.specs.Greys.{greys_leave}
use Rattle.pgm_write.specs.Write.{WriteReady, file_of, WriteOut, write_leaves, written_of}
use Rattle.pgm_write.proofs.Tables.{write_asks}
use Rattle.pgm_plain_read.specs.PlainRead.{plain_read_as}
use Rattle.pgm_plain_write.specs.PlainWrite.{plain_file_of}
use Rattle.pgm_plain_write.proofs.Moves as Left
use Rattle.promise_films.proofs.Files.{written_none, written_count, written_file, film_written}
use Rattle.promise_films.proofs.Runs.{GreysCall, Greys, greys_ends, WriteCall}
use Rattle.promise_plain.proofs.Runs.{PlainReadCall, ReadsPlain, plain_read_ends, WritesPlain, plain_write_ends}

-- ---- what either writer accepted, and what it accepts

-- the files of a call's film, in both forms
abbrev pub raw : WriteCall → List ℕ
raw c = file_of c.pixels c.width c.height c.maxval

abbrev pub plain : WriteCall → List ℕ
plain c = plain_file_of c.pixels c.width c.height c.maxval

module _ (c : WriteCall) (file : List ℕ) (ends : write_leaves c.answer c.out' ≡ written_of c.pixels c.width c.height c.maxval file c.out) where
  module _ {n : ℕ} (written : c.answer ≡ accepted n) where
    laid : (written_of c.pixels c.width c.height c.maxval file c.out).answer ≡ accepted n
    laid = sym (ap (λ (x : WriteOut). x.answer) ends) ∙ written

    -- what was written is a film
    pub film_of : WriteReady c.pixels c.width c.height c.maxval
    film_of = (write_asks c.pixels c.width c.height c.maxval file (length c.out) (written_none c.pixels c.width c.height c.maxval file c.out laid)).film

    -- the count is its file's
    pub count_of : length file ≡ n
    count_of = written_count c.pixels c.width c.height c.maxval file c.out laid

    -- and the bytes that it counts are the file
    pub file_of_lem : take n c.out' ≡ file
    file_of_lem = ap (λ (x : WriteOut). take n x.out) ends ∙ written_file c.pixels c.width c.height c.maxval file c.out laid

  -- a film is accepted in an output with room for its file
  pub takes : WriteReady c.pixels c.width c.height c.maxval → length file ≤ length c.out → c.answer ≡ accepted (length file)
  takes film room = ap (λ (x : WriteOut). x.answer) ends ∙ (film_written c.pixels c.width c.height c.maxval file c.out film room).0

-- a call of either writer ended with this form of file
abbrev pub Laid : (List ℕ → ℕ → ℕ → ℕ → List ℕ) → WriteCall → Type 0
Laid form c = write_leaves c.answer c.out' ≡ written_of c.pixels c.width c.height c.maxval (form c.pixels c.width c.height c.maxval) c.out

-- the film of a file that was written, written in the same form again, is the same bytes
pub same_again : (form : List ℕ → ℕ → ℕ → ℕ → List ℕ) (a b : WriteCall) {n : ℕ} → Laid form a → a.answer ≡ accepted n → Laid form b
    → (b.width ≡ a.width) × (b.height ≡ a.height) × (b.maxval ≡ a.maxval) → b.pixels ≡ a.pixels → n ≤ length b.out
    → (b.answer ≡ accepted n) × (take n b.out' ≡ take n a.out')
same_again form a b {n} first written ends sizes same wide = (said, file_of_lem b _ ends said ∙ file ∙ sym (file_of_lem a _ first written))
  where
    file : form b.pixels b.width b.height b.maxval ≡ form a.pixels a.width a.height a.maxval
    file = rw (same, sizes.0, sizes.1, sizes.2) refl

    count : length (form b.pixels b.width b.height b.maxval) ≡ n
    count = ap length file ∙ count_of a _ first written

    said : b.answer ≡ accepted n
    said = takes b _ ends (rw (same, sizes.0, sizes.1, sizes.2) (film_of a _ first written)) (rw count wide) ∙ ap accepted count

-- ---- what either reader accepted

-- sizes that are said are one another's
pub sizes_same : {w h m w' h' m' : ℕ} {x : Says (ℕ × ℕ × ℕ)} → x ≡ accepted (w, h, m) → x ≡ accepted (w', h', m') → (w ≡ w') × (h ≡ h') × (m ≡ m')
sizes_same {w} {h} {m} {w'} {h'} {m'} p q =
    let e = sym p ∙ q in
    let v : ◌≡◌ {A = ℕ × ℕ × ℕ} (w, h, m) (w', h', m') = cc in
    (ap (λ (x : ℕ × ℕ × ℕ). x.0) v, ap (λ (x : ℕ × ℕ × ℕ). x.1) v, ap (λ (x : ℕ × ℕ × ℕ). x.2) v)

-- what read_plain left is a film
pub plain_left : {r : PlainReadCall} {w h m : ℕ} → ReadsPlain r → r.answer ≡ accepted (w, h, m) → WriteReady (take (w * h) r.target') w h m
plain_left {r} {w} {h} {m} ran q =
    Left.plain_left r.bytes r.target r.target' w h m (sym (plain_read_ends ran) ∙ ap (λ a. plain_read_as a r.target') q)

-- and so is what greys left
pub raw_left : {g : GreysCall} → Greys g → g.answer ≡ accepted tt → WriteReady (take (g.width * g.height) g.target') g.width g.height g.maxval
raw_left {g} ran q =
    Left.raw_left g.bytes g.start g.target g.target' g.width g.height g.maxval (sym (greys_ends ran) ∙ ap (λ a. greys_leave a g.target') q)

-- ---- a film written as plain and read back

module _ {c : WriteCall} {n : ℕ} (ran : WritesPlain c) (written : c.answer ≡ accepted n) where
  pub plain_film : WriteReady c.pixels c.width c.height c.maxval
  plain_film = film_of c (plain c) (plain_write_ends ran) written

  pub plain_file : take n c.out' ≡ plain c
  plain_file = file_of_lem c (plain c) (plain_write_ends ran) written

-- ---- there and back

-- a film laid at a target's front and taken from there is the same film
pub front_same : (target : List ℕ) {left pic : List ℕ} (w h : ℕ) → left ≡ onto target pic → length pic ≡ w * h → take (w * h) left ≡ pic
front_same target {left} {pic} w h q l = ap (take (w * h)) q ∙ take_onto target pic (w * h) l
