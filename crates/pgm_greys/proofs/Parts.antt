-- The raster as a part of the bytes, and what turning it into greys leaves.
-- Assumes nothing.
use Prim.Native.Nat.{ℕ, ◌+◌, ◌-◌, ◌*◌}
use mathlib.Core.Bool.{Bool}
use mathlib.Core.List.{List}
use mathlib.Core.Path.{◌≡◌, refl, ap, ◌∙◌}
use native.Mathlib.Omega.{arith}
use lib.ListN.{length, take, drop, length-drop}
use lib.Seq.{take_all}
use Rattle.base_lists.specs.Lists.{onto}
use Rattle.base_rows.specs.Refuse.{first, unless, accepted, refused}
use Rattle.base_rows.proofs.Walk.{unless_refused}
use Rattle.pgm_samples.specs.Samples.{is_wide, sample_bytes, unpacked}
use Rattle.pgm_raster.specs.Raster.{raster_size_of, RasterAsks}
use Rattle.pgm_greys.specs.Greys.{target_rows, turn_rows, GreysOut, greys_leave, turned_of}

-- ---- the raster as a part of the bytes

-- from the raster's start to its end
pub part_raster : (s : List ℕ) (start w h m : ℕ) {x : ℕ} → RasterAsks s start w h m → x ≡ raster_size_of w h m
    → take (start + x - start) (drop start s) ≡ drop start s
part_raster s start w h m {x} t e = take_all (start + x - start) (drop start s) (rw length-drop (omega (arith, t.exact)))

-- it has the bytes of the picture's samples
pub part_length : (s : List ℕ) (start w h m : ℕ) {x : ℕ} {two : Bool} → RasterAsks s start w h m → two ≡ is_wide m → x ≡ raster_size_of w h m
    → w * h * sample_bytes two ≡ length (take (start + x - start) (drop start s))
part_length s start w h m {x} {two} t q e = rw (q, part_raster s start w h m t e, length-drop) (omega (arith, t.exact))

-- it is read as what stands behind its start
pub part_greys : (s : List ℕ) (start w h m : ℕ) {x : ℕ} {two : Bool} → RasterAsks s start w h m → two ≡ is_wide m → x ≡ raster_size_of w h m
    → unpacked two (take (start + x - start) (drop start s)) (w * h) ≡ unpacked (is_wide m) (drop start s) (w * h)
part_greys s start w h m t q e = rw (q, part_raster s start w h m t e) refl

-- ---- what greys leave

module _ (s : List ℕ) (start w h m : ℕ) (target : List ℕ) where
  -- a refusal leaves the target as it was
  pub greys_refused : {n : ℕ} → n ≡ first (turn_rows s start w h m (length target)) → (n ≡ 0 → ⊥) → greys_leave (refused n) target ≡ turned_of s start w h m target
  unfolding turned_of
  greys_refused {n} e z = unless_refused n (λ k. greys_leave (refused k) target) done z ∙ ap (λ j. unless j (λ k. greys_leave (refused k) target) done) e
    where
      done : GreysOut
      done = greys_leave (accepted tt) (onto target (unpacked (is_wide m) (drop start s) (w * h)))

  -- else the greys stand at its front
  pub greys_done : {n : ℕ} {left : List ℕ} → n ≡ first (turn_rows s start w h m (length target)) → n ≡ 0
      → left ≡ onto target (unpacked (is_wide m) (drop start s) (w * h)) → greys_leave (accepted tt) left ≡ turned_of s start w h m target
  unfolding turned_of
  greys_done e z q = rw (← e, z, q) refl

-- "a second call turns it into greys": handing on the part alone, or all bytes and the raster's start, is the same
pub turned_part : (s : List ℕ) (at w h m : ℕ) (target : List ℕ) → turned_of (drop at s) 0 w h m target ≡ turned_of s at w h m target
unfolding turned_of turn_rows target_rows
turned_part s at w h m target =
    let e : length (drop at s) - 0 ≡ length s - at = rw length-drop (omega arith) in
    rw e refl
