-- Laws of parts that are written whole, and of slices that agree behind what is filled.
-- Assumes nothing.
use Prim.Native.Nat.{ℕ, ◌+◌, ◌-◌, ◌≤◌}
use mathlib.Core.List.{List, ◌++◌, append-nil}
use mathlib.Core.Path.{◌≡◌, ap, ap₂, ◌∙◌}
use lib.ListN.{length, take, drop, length-drop, drop_of_length-le}
use lib.Seq.{length-take-le, drop-drop}
use native.Mathlib.Omega.{arith}
use borrow.Rule.Slice.PartMut.{put_mid}
use Rattle.base_lists.specs.Lists.{tab, onto, over, filled}

-- a list that is written over whole is what is written
pub onto_whole : (d ys : List ℕ) → length d ≤ length ys → onto d ys ≡ ys
unfolding onto
onto_whole d ys h = rw (drop_of_length-le d h) (append-nil ys)

-- a part of k entries from a on, lent and written over whole
pub over_part : (m xs : List ℕ) (a k : ℕ) {ys : List ℕ} → a + k ≤ length m → length xs ≡ k → ys ≡ onto (take (a + k - a) (drop a m)) xs
    → put_mid a (a + k - a) m ys ≡ over m a xs
unfolding over
over_part m xs a k {ys} h n e = ap₂ (λ p q. take a m ++ (p ++ q)) (e ∙ onto_whole (take (a + k - a) (drop a m)) xs short) rest
  where
    width : a + k - a ≡ k
    width = omega arith

    short : length (take (a + k - a) (drop a m)) ≤ length xs
    short = omega (arith, length-take-le (a + k - a) (drop a m) (rw length-drop (omega arith)))

    rest : drop (a + k - a) (drop a m) ≡ drop (a + length xs) m
    rest = rw (width, n) (drop-drop k a m)

-- what is filled hangs only on what lies behind it
pub filled_behind : (f : ℕ → ℕ) (d e : List ℕ) (n : ℕ) → drop n d ≡ drop n e → filled f d n ≡ filled f e n
unfolding filled
filled_behind f d e n h = ap (λ t. tab n f ++ t) h
