-- What read finds meets the limits.
-- Assumes nothing.
use Prim.Native.Nat.{ℕ, ◌-◌}
use mathlib.Core.List.{List, ◌++◌}
use mathlib.Core.Path.{◌≡◌, refl, sym}
use native.Mathlib.Omega.{arith}
use lib.ListN.{length}
use Rattle.base_rows.specs.Refuse.{first}
use Rattle.base_rows.proofs.Walk.{first_both}
use Rattle.pgm_header.specs.Header.{Head}
use Rattle.pgm_header.specs.Header.{header_of}
use Rattle.pgm_raster.specs.Raster.{head_rows, raster_rows, RasterAsks}
use Rattle.pgm_raster.proofs.Tables.{limit_numbered, raster_asks}
use Rattle.pgm_read.specs.Pgm.{judged_head, read_of}
use Rattle.pgm_read.proofs.Tables.{unless_found}

-- the rows 22 to 25 together
judged_asks : (s : List ℕ) (w h m at : ℕ) → first (head_rows w h m ++ raster_rows w h m (length s - at)) ≡ 0 → RasterAsks s at w h m
judged_asks s w h m at e =
    let both = first_both (head_rows w h m) (raster_rows w h m (length s - at)) (limit_numbered w h m) e in
    raster_asks s at w h m (sym both.0) refl refl (sym both.1) refl

-- what read finds meets the limits, and its raster is exactly as long as width, height and maxval ask
pub read_asks : (s : List ℕ) {w h m at : ℕ} → read_of s ≡ Head.Found w h m at → RasterAsks s at w h m
unfolding read_of judged_head
read_asks s {w} {h} {m} {at} q = go (header_of s) q
  where
    go : (x : Head) → judged_head x (length s) ≡ Head.Found w h m at → RasterAsks s at w h m
    go (Head.Found w' h' m' at') e =
        let p = unless_found (first (head_rows w' h' m' ++ raster_rows w' h' m' (length s - at'))) (Head.Found w' h' m' at') e in
        let f : Head.Found w' h' m' at' ≡ Head.Found w h m at = p.1 in
        let a : w' ≡ w = cc in
        let b : h' ≡ h = cc in
        let d : m' ≡ m = cc in
        let i : at' ≡ at = cc in
        rw (← a, ← b, ← d, ← i) (judged_asks s w' h' m' at' p.0)
    go (Head.Refused n) e = absurd (let z : ◌≡◌ {A = ℕ} 0 1 = cc in omega arith)
