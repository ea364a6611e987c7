-- How many bytes a plain file has, and the parts of the output that the writer lends on.
-- Assumes nothing.
use Prim.Native.Nat.{ℕ, zero, suc, ◌+◌, ◌-◌, ◌*◌, ◌≤◌}
use mathlib.Core.List.{List, ◌++◌}
use mathlib.Core.Path.{◌≡◌, refl, sym, ap, ◌∙◌}
use native.Mathlib.Omega.{arith}
use lib.ListN.{length, take, drop, length-drop, length-append}
use Rattle.base_lists.specs.Lists.{onto}
use Rattle.base_lists.proofs.Overs.{onto_tail}
use Rattle.base_rows.specs.Refuse.{first}
use Rattle.pgm_header.specs.Header.{header_bytes}
use Rattle.pgm_header.proofs.Writing.{length_header}
use Rattle.pgm_samples.proofs.Bounds.{bound_at}
use Rattle.pgm_raster.proofs.Tables.{part_tail}
use Rattle.pgm_write.specs.Write.{file_picture_rows, WriteReady, WriteAsks}
use Rattle.pgm_write.proofs.Tables.{picture_film, written_front, written_fits}
use Rattle.pgm_plain.specs.Plain.{plain_head_bytes, lines_of}
use Rattle.pgm_plain.proofs.Heads.{length_head}
use Rattle.pgm_plain_lines.proofs.Lines.{count_few, lines_few}
use Rattle.pgm_plain_write.specs.PlainWrite.{plain_file_of, plain_write_rows}

-- how many bytes a file has
pub length_file : (pic : List ℕ) (w h m : ℕ) → length (plain_file_of pic w h m) ≡ length (header_bytes w h m) + length (lines_of pic)
unfolding plain_file_of
length_file pic w h m = length-append (plain_head_bytes w h m) (lines_of pic) ∙ ap (λ k. k + length (lines_of pic)) (length_head w h m)

-- the header at the front, and the lines written in the part behind it
pub file_laid : (out pic : List ℕ) (w h m : ℕ) {e p : List ℕ} {at : ℕ} → e ≡ onto out (plain_head_bytes w h m) → at ≡ length (header_bytes w h m)
    → p ≡ onto (take (length e - at) (drop at e)) (lines_of pic)
    → take at e ++ (p ++ drop (length e - at) (drop at e)) ≡ onto out (plain_file_of pic w h m)
unfolding plain_file_of
file_laid out pic w h m {e} {p} {at} q n r = onto_tail out (plain_head_bytes w h m) (lines_of pic) at q (n ∙ sym (length_head w h m)) (rw (part_tail e at) at r)

-- the output has room for the header and the lines
pub file_fits : {pic : List ℕ} {w h m room : ℕ} → WriteAsks pic w h m (plain_file_of pic w h m) room → length (header_bytes w h m) + length (lines_of pic) ≤ room
file_fits {pic} {w} {h} {m} t = omega (arith, t.fitting, length_file pic w h m)

-- the part behind the header has room for the lines
pub file_room : (e pic : List ℕ) (w h m : ℕ) {at room : ℕ} → WriteAsks pic w h m (plain_file_of pic w h m) room → length e ≡ room → at ≡ length (header_bytes w h m)
    → length (lines_of pic) ≤ length (take (length e - at) (drop at e))
file_room e pic w h m {at} {room} t q n = rw (part_tail e at, length-drop) (omega (arith, file_fits t))

-- a film's lines take at most five bytes a sample
pub film_lines : {pic : List ℕ} {w h m : ℕ} → WriteReady pic w h m → length (lines_of pic) ≤ length pic * 5
film_lines {pic} {w} {h} {m} f = lines_few pic (λ k l. omega (arith, bound_at m pic f.bounded k l, f.within.maxval_most))

-- and its file at most 18 bytes more
pub file_most : {pic : List ℕ} {w h m : ℕ} → WriteReady pic w h m → length (plain_file_of pic w h m) ≤ 18 + w * h * 5
file_most {pic} {w} {h} {m} f =
    let t = f.within in
    let a = count_few w (omega (arith, t.widest)) in
    let b = count_few h (omega (arith, t.highest)) in
    let e = count_few m (omega (arith, t.maxval_most)) in
    rw (← f.whole) (omega (arith, length_file pic w h m, length_header w h m, film_lines f))

-- with that much room 27 does not apply: the rows of the picture decide
pub roomy : (pic : List ℕ) (w h m room : ℕ) → 18 + w * h * 5 ≤ room → first (plain_write_rows pic w h m room) ≡ first (file_picture_rows pic w h m)
roomy pic w h m room l = go (first (file_picture_rows pic w h m)) refl
  where
    go : (n : ℕ) → first (file_picture_rows pic w h m) ≡ n → first (plain_write_rows pic w h m room) ≡ first (file_picture_rows pic w h m)
    go zero e = sym (written_fits pic w h m (plain_file_of pic w h m) room refl e (omega (arith, file_most (picture_film pic w h m e)))) ∙ sym e
    go (suc n) e = sym (written_front pic w h m (plain_file_of pic w h m) room refl (λ z. omega arith))
