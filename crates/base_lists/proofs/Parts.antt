-- Laws of the parts of a list that something was written over, of a part that runs to the end, and of mapped lists by their parts.
-- Assumes nothing.
use Prim.Native.Nat.{ℕ, zero, suc, ◌+◌, ◌-◌, ◌≤◌, ◌<◌}
use mathlib.Core.List.{List, [], ◌∷◌, ◌++◌, append_assoc, append-nil, map}
use mathlib.Core.Path.{◌≡◌, refl, sym, ap, ◌∙◌}
use native.Mathlib.Nat.{add_assoc, not-suc-le-zero, le_of_suc-le-suc}
use native.Mathlib.Omega.{arith}
use lib.ListN.{length, take, drop, get_or, length-append, length-drop, drop_of_length-le}
use lib.Seq.{length-take-le, take-add, take_at, drop_at, drop-drop, take_all, get_or-append-add, get_or-drop}
use Rattle.base_lists.specs.Lists.{over}

-- ---- ys written over d from `at` on

-- the first k entries stay
pub over_front : (d ys : List ℕ) (k at : ℕ) → k ≤ at → k ≤ length d → take k (over d at ys) ≡ take k d
unfolding over
over_front d ys k at l h =
    ap (λ n. take k (take n d ++ (ys ++ drop (at + length ys) d))) split
    ∙ ap (λ t. take k (t ++ (ys ++ drop (at + length ys) d))) (take-add k (at - k) d)
    ∙ ap (take k) (append_assoc (take k d) (take (at - k) (drop k d)) (ys ++ drop (at + length ys) d))
    ∙ take_at (take k d) _ k (length-take-le k d h)
  where
    split : at ≡ k + (at - k)
    split = omega arith

-- and behind them it is written from there on
pub over_behind : (d ys : List ℕ) (k a : ℕ) → k ≤ length d → drop k (over d (k + a) ys) ≡ over (drop k d) a ys
unfolding over
over_behind d ys k a h =
    ap (λ t. drop k (t ++ (ys ++ drop (k + a + length ys) d))) (take-add k a d)
    ∙ ap (drop k) (append_assoc (take k d) (take a (drop k d)) (ys ++ drop (k + a + length ys) d))
    ∙ drop_at (take k d) _ k (length-take-le k d h)
    ∙ ap (λ t. take a (drop k d) ++ (ys ++ t)) (ap (λ n. drop n d) (add_assoc k a (length ys)) ∙ sym (drop-drop (a + length ys) k d))

module _ (d ys : List ℕ) (at : ℕ) (fits : at ≤ length d) where
  -- there it is
  pub over_here : take (length ys) (drop at (over d at ys)) ≡ ys
  unfolding over
  over_here = ap (take (length ys)) (drop_at (take at d) (ys ++ drop (at + length ys) d) at (length-take-le at d fits)) ∙ take_at ys (drop (at + length ys) d) (length ys) refl

  -- what lies behind it stays
  pub over_rest : drop (at + length ys) (over d at ys) ≡ drop (at + length ys) d
  unfolding over
  over_rest =
      sym (drop-drop (length ys) at (over d at ys))
      ∙ ap (drop (length ys)) (drop_at (take at d) (ys ++ drop (at + length ys) d) at (length-take-le at d fits))
      ∙ drop_at ys (drop (at + length ys) d) (length ys) refl

-- and so does all that begins later
pub over_later : (d ys : List ℕ) (at i : ℕ) → at + length ys ≤ i → at ≤ length d → drop i (over d at ys) ≡ drop i d
over_later d ys at i h fits =
    ap (λ n. drop n (over d at ys)) split
    ∙ sym (drop-drop (i - (at + length ys)) (at + length ys) (over d at ys))
    ∙ ap (drop (i - (at + length ys))) (over_rest d ys at fits)
    ∙ drop-drop (i - (at + length ys)) (at + length ys) d
    ∙ ap (λ n. drop n d) (sym split)
  where
    split : i ≡ at + length ys + (i - (at + length ys))
    split = omega arith

-- entry by entry
pub over_behind_at : (d ys : List ℕ) (at i : ℕ) → at + length ys ≤ i → at + length ys ≤ length d → get_or (over d at ys) i 0 ≡ get_or d i 0
unfolding over
over_behind_at d ys at i h l =
    ap (λ s. get_or s i 0) (sym (append_assoc (take at d) ys (drop (at + length ys) d)))
    ∙ ap (λ k. get_or (take at d ++ ys ++ drop (at + length ys) d) k 0) split
    ∙ get_or-append-add (take at d ++ ys) (drop (at + length ys) d) (i - (at + length ys)) 0
    ∙ get_or-drop (at + length ys) d (i - (at + length ys)) 0
    ∙ ap (λ k. get_or d k 0) whole
  where
    whole : at + length ys + (i - (at + length ys)) ≡ i
    whole = omega arith

    split : i ≡ length (take at d ++ ys) + (i - (at + length ys))
    split = omega (arith, length-append (take at d) ys, length-take-le at d (omega arith))

-- ---- a part that runs to the end

-- as it is lent
pub part_whole : (m : List ℕ) (a : ℕ) → take (length m - a) (drop a m) ≡ drop a m
part_whole m a = take_all (length m - a) (drop a m) (omega (arith, length-drop a m))

-- and handed back
pub part_back : (m p : List ℕ) (a : ℕ) → take a m ++ (p ++ drop (length m - a) (drop a m)) ≡ take a m ++ p
part_back m p a =
    let l : length (drop a m) ≤ length m - a = omega (arith, length-drop a m) in
    ap (λ z. take a m ++ (p ++ z)) (drop_of_length-le (drop a m) l) ∙ ap (λ z. take a m ++ z) (append-nil p)

-- ---- a mapped list

-- its first entries
pub take_map : {A B : Type 0} (g : A → B) (i : ℕ) (xs : List A) → take i (map g xs) ≡ map g (take i xs)
take_map g zero xs = refl
take_map g (suc i) [] = refl
take_map g (suc i) (x ∷ xs) = ap (λ t. g x ∷ t) (take_map g i xs)

-- and one of them
pub get_d_map : {A B : Type 0} (g : A → B) (xs : List A) (i : ℕ) (d : A) (e : B) → i < length xs → get_or (map g xs) i e ≡ g (get_or xs i d)
get_d_map g [] i d e l = absurd (not-suc-le-zero l)
get_d_map g (x ∷ xs) zero d e l = refl
get_d_map g (x ∷ xs) (suc i) d e l = get_d_map g xs i d e (le_of_suc-le-suc l)
