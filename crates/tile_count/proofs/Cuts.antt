-- A row that is passed in parts, from its front on: what is left of it is what stands behind the parts that were passed.
-- Assumes nothing.
use Prim.Native.Nat.{ℕ, ◌+◌, ◌-◌, ◌≤◌, ◌<◌}
use mathlib.Core.List.{List, ◌++◌}
use mathlib.Core.Path.{◌≡◌, sym, ap, ◌∙◌}
use lib.ListN.{length, take, drop, get_or, get_or-append, length-append, length-drop}
use lib.Seq.{take_all, get_or-drop}
use Rattle.std.proofs.lemmas.List.{take-append-le, drop-append-le, drop-drop, drop_all}
use native.Mathlib.Omega.{arith}

module _ {A : Type 0} (xs : List A) where
  -- how many were passed, where `rest` is left
  abbrev pub passed : List A → ℕ
  passed rest = length xs - length rest

  -- before the first part
  module _ {rest : List A} (all : rest ≡ xs) where
    pub none_passed : passed rest ≡ 0
    none_passed = omega (arith, ap length all)

    pub all_left : rest ≡ drop (passed rest) xs
    all_left = all ∙ sym (ap (λ n. drop n xs) none_passed)

  module _ {rest : List A} (left : rest ≡ drop (passed rest) xs) where
    pub left_few : length rest ≤ length xs
    left_few = omega (arith, ap length left, length-drop (passed rest) xs)

    module _ (part rest' : List A) (cut : rest ≡ part ++ rest') where
      -- one part more
      pub part_more : passed rest' ≡ passed rest + length part
      part_more = omega (arith, left_few, ap length cut, length-append part rest')

      pub part_room : passed rest' ≤ length xs
      part_room = omega arith

      pub part_is : part ≡ take (passed rest' - passed rest) (drop (passed rest) xs)
      part_is =
          let n : passed rest' - passed rest ≡ length part = omega (arith, part_more) in
          sym (ap (λ k. take k (drop (passed rest) xs)) n ∙ ap (take (length part)) (sym left ∙ cut) ∙ take-append-le (length part) part rest' (omega arith) ∙ take_all (length part) part (omega arith))

      pub still_left : rest' ≡ drop (passed rest') xs
      still_left =
          sym
          (ap (λ k. drop k xs) part_more
          ∙ sym (drop-drop (length part) (passed rest) xs)
          ∙ ap (drop (length part)) (sym left ∙ cut)
          ∙ drop-append-le (length part) part rest' (omega arith)
          ∙ ap (λ d. d ++ rest') (drop_all (length part) part (omega arith)))

      -- what stands in the part
      pub part_at : (d : A) (i : ℕ) → i < length part → get_or part i d ≡ get_or xs (passed rest + i) d
      part_at d i l = sym (get_or-append part rest' d i l) ∙ ap (λ s. get_or s i d) (sym cut ∙ left) ∙ get_or-drop (passed rest) xs i d
