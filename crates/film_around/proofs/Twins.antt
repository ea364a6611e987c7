-- Counts that are copied behind those in front: the first entries stand twice, and what is written over the second of them leaves the first and what lies behind.
-- Assumes nothing.
use Prim.Native.Nat.{ℕ, ◌+◌, ◌-◌, ◌≤◌, ◌<◌}
use mathlib.Core.List.{List, ◌++◌, append_assoc}
use mathlib.Core.Path.{◌≡◌, sym, ap, ◌∙◌}
use lib.ListN.{length, take, drop, get_or, length-drop}
use lib.Seq.{take_at, drop_at, length-take-le, get_or-take, drop-drop}
use native.Mathlib.Omega.{arith}
use borrow.Rule.Slice.PartMut.{put_mid}
use Rattle.std.specs.List.{copy_within}
use Rattle.base_lists.specs.Lists.{over}
use Rattle.base_lists.proofs.Fills.{length_over}
use Rattle.base_lists.proofs.Maps.{over_part, onto_whole}

-- ---- a list written over from a place on

take_over : (d : List ℕ) (at : ℕ) (ys : List ℕ) → at ≤ length d → take at (over d at ys) ≡ take at d
unfolding over
take_over d at ys l = take_at (take at d) (ys ++ drop (at + length ys) d) at (length-take-le at d l)

drop_over : (d : List ℕ) (at : ℕ) (ys : List ℕ) → at ≤ length d → drop at (over d at ys) ≡ ys ++ drop (at + length ys) d
unfolding over
drop_over d at ys l = drop_at (take at d) (ys ++ drop (at + length ys) d) at (length-take-le at d l)

-- before the place it is as it was
pub front_over : (d : List ℕ) (at : ℕ) (ys : List ℕ) (k : ℕ) → at ≤ length d → k < at → get_or (over d at ys) k 0 ≡ get_or d k 0
front_over d at ys k l h =
    sym (get_or-take at (over d at ys) k 0 h) ∙ ap (λ z. get_or z k 0) (take_over d at ys l) ∙ get_or-take at d k 0 h

-- and behind what is written
behind_over : (d : List ℕ) (at : ℕ) (ys : List ℕ) (n : ℕ) → length ys ≡ n → at ≤ length d → drop (at + n) (over d at ys) ≡ drop (at + n) d
behind_over d at ys n e l =
    sym (drop-drop n at (over d at ys))
    ∙ ap (drop n) (drop_over d at ys l)
    ∙ drop_at ys (drop (at + length ys) d) n e
    ∙ ap (λ m. drop (at + m) d) e

-- ---- what `copy_within` leaves

pub within_over : (t : List ℕ) (low end at : ℕ) → low ≤ end → end ≤ length t → copy_within t low end at ≡ over t at (take (end - low) (drop low t))
unfolding over
within_over t low end at l h =
    append_assoc (take at t) (take (end - low) (drop low t)) _
    ∙ ap (λ n. take at t ++ (take (end - low) (drop low t) ++ drop (at + n) t)) (sym (length-take-le (end - low) (drop low t) (omega (arith, length-drop low t))))

pub within_twin : (t : List ℕ) (n : ℕ) → n + n ≤ length t → copy_within t 0 n n ≡ over t n (take n t)
within_twin t n l = let same : n - 0 ≡ n = omega arith in within_over t 0 n n (omega arith) (omega arith) ∙ ap (λ j. over t n (take j t)) same

-- ---- the second of them, lent

module _ (t : List ℕ) (b : ℕ) {t' : List ℕ} (l : b + b ≤ length t) (e : t' ≡ over t b (take b t)) where
  front_length : length (take b t) ≡ b
  front_length = length-take-le b t (omega arith)

  pub twin_length : length t' ≡ length t
  twin_length = ap length e ∙ length_over t b (take b t) (omega (arith, front_length))

  -- holds the first
  pub twin_part_lem : take (b + b - b) (drop b t') ≡ take b t
  twin_part_lem =
      let n : b + b - b ≡ b = omega arith in
      let at : drop b t' ≡ take b t ++ drop (b + length (take b t)) t = ap (drop b) e ∙ drop_over t b (take b t) (omega arith) in
      ap (λ m. take m (drop b t')) n ∙ ap (take b) at ∙ take_at (take b t) (drop (b + length (take b t)) t) b front_length

  -- what is written over it leaves the first, and what lies behind
  module _ (ds : List ℕ) (m : length ds ≡ b) where
    written : put_mid b (b + b - b) t' ds ≡ over t' b ds
    written =
        over_part t' ds b b (omega (arith, twin_length)) m
        (sym (onto_whole (take (b + b - b) (drop b t')) ds (omega (arith, ap length twin_part_lem, front_length, m))))

    pub twin_front : (k : ℕ) → k < b → get_or (put_mid b (b + b - b) t' ds) k 0 ≡ get_or t k 0
    twin_front k h =
        ap (λ z. get_or z k 0) written
        ∙ front_over t' b ds k (omega (arith, twin_length)) h
        ∙ ap (λ z. get_or z k 0) e
        ∙ front_over t b (take b t) k (omega arith) h

    pub twin_behind : drop (b + b) (put_mid b (b + b - b) t' ds) ≡ drop (b + b) t
    twin_behind =
        ap (drop (b + b)) written
        ∙ behind_over t' b ds b m (omega (arith, twin_length))
        ∙ ap (drop (b + b)) e
        ∙ behind_over t b (take b t) b front_length (omega arith)

    pub twin_size : length (put_mid b (b + b - b) t' ds) ≡ length t
    twin_size = ap length written ∙ length_over t' b ds (omega (arith, twin_length, m)) ∙ twin_length
