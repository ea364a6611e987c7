-- Law of the refusals of read that the listing prints: their numbers are short.
-- Assumes nothing.
use Prim.Native.Nat.{ℕ, zero, suc, ◌-◌, ◌<◌}
use mathlib.Core.List.{List, ◌++◌}
use mathlib.Core.Logic.{⊎_elim}
use mathlib.Core.Path.{◌≡◌, refl}
use lib.Dec.{ltb}
use lib.ListN.{length}
use native.Mathlib.Omega.{arith}
use borrow.Author.Tests.{ltb-true}
use Rattle.base_lists.specs.Lists.{all}
use Rattle.base_rows.specs.Refuse.{first, unless}
use Rattle.base_rows.proofs.Walk.{each_first}
use Rattle.pgm_header.specs.Header.{Head}
use Rattle.pgm_header.specs.Header.{header_of}
use Rattle.pgm_header.proofs.Laws.{refused_number}
use Rattle.pgm_raster.specs.Raster.{head_rows, raster_rows}
use Rattle.pgm_read.specs.Pgm.{judged_head, read_of}
use Rattle.pgm_raster.proofs.Tables.{read_numbers}

judged_below : (w h m size : ℕ) → first (head_rows w h m ++ raster_rows w h m size) < 100
unfolding all
judged_below w h m size =
    ltb-true _ 100 (each_first (λ n. ltb n 100) (head_rows w h m ++ raster_rows w h m size) refl (rw (read_numbers w h m size) refl))

-- a refusal of read
pub read_below : (s : List ℕ) {n : ℕ} → read_of s ≡ Head.Refused n → n < 100
unfolding read_of judged_head
read_below s {n} q = go (header_of s) refl q
  where
    pass : (k w h m at : ℕ) → k < 100 → unless k Head.Refused (Head.Found w h m at) ≡ Head.Refused n → n < 100
    pass zero w h m at l e = absurd (let o : ◌≡◌ {A = ℕ} 0 1 = cc in omega arith)
    pass (suc k) w h m at l e = let i : suc k ≡ n = cc in omega arith

    go : (x : Head) → header_of s ≡ x → judged_head x (length s) ≡ Head.Refused n → n < 100
    go (Head.Found w h m at) p e = pass (first (head_rows w h m ++ raster_rows w h m (length s - at))) w h m at (judged_below w h m (length s - at)) e
    go (Head.Refused k) p e =
        let i : k ≡ n = cc in
        ⊎_elim (λ y. omega (arith, y, i)) (λ y. omega (arith, y, i)) (refused_number s p)
