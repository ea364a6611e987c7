-- The parts of the output that write lends on, and what it leaves.
-- Assumes nothing.
use Prim.Native.Nat.{ℕ, ◌+◌, ◌-◌, ◌*◌, ◌≤◌}
use mathlib.Core.List.{List, ◌++◌}
use mathlib.Core.Path.{◌≡◌, refl, ap, ◌∙◌}
use native.Mathlib.Omega.{arith}
use lib.ListN.{length, take, drop, length-drop}
use Rattle.base_lists.specs.Lists.{onto}
use Rattle.base_lists.proofs.Overs.{onto_tail}
use Rattle.base_rows.specs.Refuse.{first, unless, accepted, refused}
use Rattle.base_rows.proofs.Walk.{unless_refused}
use Rattle.pgm_header.specs.Header.{header_bytes}
use Rattle.pgm_samples.specs.Samples.{is_wide, sample_bytes, packed, PackAsks}
use Rattle.pgm_raster.specs.Raster.{raster_size_of}
use Rattle.pgm_raster.proofs.Tables.{part_tail}
use Rattle.pgm_write.specs.Write.{written_rows, WriteAsks, file_of, WriteOut, write_leaves, written_of}
use Rattle.pgm_write.proofs.Tables.{length_file}

-- ---- the file laid down

-- the header at the front, and the raster written in the part behind it
pub file_laid : (out pic : List ℕ) (w h m : ℕ) {e p : List ℕ} {at : ℕ} → e ≡ onto out (header_bytes w h m) → at ≡ length (header_bytes w h m)
    → p ≡ onto (take (length e - at) (drop at e)) (packed (is_wide m) pic)
    → take at e ++ (p ++ drop (length e - at) (drop at e)) ≡ onto out (file_of pic w h m)
unfolding file_of
file_laid out pic w h m {e} {p} {at} q n r = onto_tail out (header_bytes w h m) (packed (is_wide m) pic) at q n (rw (part_tail e at) at r)

-- the output has room for the header and the raster
pub file_fits : {pic : List ℕ} {w h m room : ℕ} → WriteAsks pic w h m (file_of pic w h m) room → length (header_bytes w h m) + raster_size_of w h m ≤ room
file_fits {pic} {w} {h} {m} t = omega (arith, t.fitting, length_file pic w h m t.film.whole)

-- the part behind the header has room for the raster
pub file_room : (e pic : List ℕ) (w h m : ℕ) {at room : ℕ} → WriteAsks pic w h m (file_of pic w h m) room → length e ≡ room → at ≡ length (header_bytes w h m)
    → PackAsks m pic (length (take (length e - at) (drop at e)))
file_room e pic w h m {at} {room} t q n =
    let l : w * h * sample_bytes (is_wide m) ≤ length e - at = omega (arith, file_fits t) in
    record { bounded = t.film.bounded; room = rw (part_tail e at, length-drop, t.film.whole) l }

-- ---- what write leaves

module _ (pic : List ℕ) (w h m : ℕ) (file out : List ℕ) where
  -- a refusal leaves the output as it was
  pub write_refused : {n : ℕ} → n ≡ first (written_rows pic w h m file (length out)) → (n ≡ 0 → ⊥) → write_leaves (refused n) out ≡ written_of pic w h m file out
  unfolding written_of
  write_refused {n} e z = unless_refused n (λ k. write_leaves (refused k) out) done z ∙ ap (λ j. unless j (λ k. write_leaves (refused k) out) done) e
    where
      done : WriteOut
      done = write_leaves (accepted (length file)) (onto out file)

  -- else the file stands at its front, and its length is the answer
  pub write_done : {n k : ℕ} {left : List ℕ} → n ≡ first (written_rows pic w h m file (length out)) → n ≡ 0
      → left ≡ onto out file → k ≡ length file → write_leaves (accepted k) left ≡ written_of pic w h m file out
  unfolding written_of
  write_done e z q l = rw (← e, z, q, l) refl
