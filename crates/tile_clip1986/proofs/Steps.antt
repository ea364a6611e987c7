-- The search for P from C down: a step passes no level over, and ends at P.
-- Assumes nothing.
use Prim.Native.Nat.{ℕ, zero, suc, ◌+◌, ◌-◌, ◌*◌, ◌/◌, ◌≤◌, ◌<◌}
use mathlib.Core.Bool.{Bool, true, false, cond}
use mathlib.Core.List.{List, [], ◌∷◌}
use mathlib.Core.Logic.{◌⊎◌, inl, inr}
use mathlib.Core.Path.{◌≡◌, refl, sym, ap, ◌∙◌}
use lib.Dec.{leb}
use lib.ListN.{length, get_or, drop}
use lib.Seq.{drop-cons}
use native.Mathlib.Nat.{mul_comm, mul-add, mul-zero, mul-one, le_refl, le-div_iff_mul-le, div-lt_iff_lt-mul, not-suc-le-zero, le_of_suc-le-suc, suc-mul}
use native.Mathlib.Numerals.{add-one}
use native.Mathlib.Omega.{arith}
use borrow.Author.Tests.{le-leb, lt-leb}
use Rattle.base_lists.specs.Lists.{total}
use Rattle.base_lists.proofs.Orders.{lt_or_ge}
use Rattle.tile_clip.specs.Clip.{excess}
use Rattle.tile_clip.proofs.Shares.{excess_none, excess_bin, excess_next, excess_end, excess_most}
use Rattle.tile_clip1986.specs.Older.{levels, level_of, reaching, reach, OlderAsks, DescendAsks, Lowered}
use Rattle.tile_clip1986.proofs.Levels.{excess_all, level_is}

-- ---- how many bins reach a level

pub reach_next : (p : ℕ) (cs : List ℕ) (i : ℕ) → i < length cs → reach p (drop i cs) ≡ reaching p (get_or cs i 0) + reach p (drop (i + 1) cs)
unfolding reach
reach_next p cs i h = rw (add-one i, drop-cons cs i 0 h) refl

pub reach_end : (p : ℕ) (cs : List ℕ) (i : ℕ) → length cs ≤ i → reach p (drop i cs) ≡ 0
unfolding reach
reach_end p [] zero h = refl
reach_end p [] (suc i) h = refl
reach_end p (c ∷ cs) zero h = absurd (not-suc-le-zero h)
reach_end p (c ∷ cs) (suc i) h = reach_end p cs i (le_of_suc-le-suc h)

pub reaching_most : (p x : ℕ) → reaching p x ≤ 1
reaching_most p x = go (leb p x)
  where
    go : (b : Bool) → cond b 1 0 ≤ 1
    go true = omega arith
    go false = omega arith

pub reach_most : (p : ℕ) (cs : List ℕ) → reach p cs ≤ length cs
unfolding reach
reach_most p [] = le_refl 0
reach_most p (c ∷ cs) = omega (arith, reaching_most p c, reach_most p cs)

-- what both sums are from a place on, and at most
pub ruleset looking = (excess_next, excess_end, excess_most, reach_next, reach_end, reach_most)

-- ---- a step

-- a bin that reaches p stands as much more above a lower level as that is lower
bin_reach : (p q x : ℕ) → q ≤ p → x - p + (p - q) * reaching p x ≤ x - q
bin_reach p q x l = go (lt_or_ge x p)
  where
    go : (x < p) ⊎ (p ≤ x) → x - p + (p - q) * reaching p x ≤ x - q
    go (inl u) = rw (lt-leb p x u) (omega (arith, mul-zero (p - q)))
    go (inr u) = rw (le-leb p x u) (omega (arith, mul-one (p - q)))

excess_reach : (p q : ℕ) (cs : List ℕ) → q ≤ p → excess p cs + (p - q) * reach p cs ≤ excess q cs
unfolding reach
excess_reach p q [] l = omega (arith, excess_none p, excess_none q, mul-zero (p - q))
excess_reach p q (x ∷ cs) l = omega (arith, excess_bin p x cs, excess_bin q x cs, excess_reach p q cs l, bin_reach p q x l, mul-add (p - q) (reaching p x) (reach p cs))

module _ (c p : ℕ) (cs : List ℕ) (l : p ≤ c) (h : total cs ≤ c * length cs) (more : length cs * (c - p) < excess p cs) where
  abbrev pub gap : ℕ
  gap = excess p cs - length cs * (c - p)

  abbrev pub others : ℕ
  others = length cs - reach p cs

  split : (d : ℕ) → length cs * d ≡ others * d + reach p cs * d
  split d =
      let z : length cs ≡ others + reach p cs = omega (arith, reach_most p cs) in
      ap (λ k. k * d) z ∙ (mul_comm (others + reach p cs) d ∙ (mul-add d others (reach p cs) ∙ omega (arith, mul_comm d others, mul_comm d (reach p cs))))

  apart : (q : ℕ) → q ≤ p → length cs * (c - q) ≡ length cs * (c - p) + length cs * (p - q)
  apart q m = ap (λ k. length cs * k) (let z : c - q ≡ c - p + (p - q) = omega arith in z) ∙ mul-add (length cs) (c - p) (p - q)

  -- what is missing is no more than the other bins have down to 0
  pub gap_most : gap ≤ others * p
  gap_most =
      let x : excess p cs + (p - 0) * reach p cs ≤ excess 0 cs = excess_reach p 0 cs (omega arith) in
      let z : p - 0 ≡ p = omega arith in
      let y : (p - 0) * reach p cs ≡ reach p cs * p = ap (λ k. k * reach p cs) z ∙ mul_comm p (reach p cs) in
      let w : length cs * (c - 0) ≡ length cs * (c - p) + length cs * (p - 0) = apart 0 (omega arith) in
      let v : length cs * (p - 0) ≡ length cs * p = ap (λ k. length cs * k) z in
      let u : length cs * (c - 0) ≡ length cs * c = ap (λ k. length cs * k) (let t : c - 0 ≡ c = omega arith in t) in
      omega (arith, excess_all cs, mul_comm c (length cs), split p)

  -- so some bin does not reach the level
  pub others_some : 0 < others
  others_some = go (lt_or_ge 0 others)
    where
      go : (0 < others) ⊎ (others ≤ 0) → 0 < others
      go (inl u) = u
      go (inr u) = let z : others ≡ 0 = omega arith in let y : others * p ≡ 0 * p = ap (λ k. k * p) z in absurd (omega (arith, gap_most, mul_comm 0 p, mul-zero p))

  -- the step does not go below 0
  pub step_most : (gap + others - 1) / others ≤ p
  step_most =
      let small : (gap + others - 1) / others < p + 1 =
      (div-lt_iff_lt-mul {x = gap + others - 1} {y = p + 1} others_some).1 (omega (arith, gap_most, others_some, mul_comm (p + 1) others, mul-add others p 1, mul-one others)) in
      omega arith

  -- and passes no level over
  pub step_lowers : Lowered c cs p (p - (gap + others - 1) / others)
  step_lowers =
      record {
        most = omega arith;
        stays = λ s. absurd (let z : 0 < (gap + others - 1) / others = step_some in omega (arith, step_most));
        none = λ q a b. lt-leb (excess q cs) (length cs * (c - q)) (below q a b);
      }
    where
      step_some : 0 < (gap + others - 1) / others
      step_some = (le-div_iff_mul-le {x = 1} {y = gap + others - 1} others_some).1 (omega (arith, suc-mul 0 others, mul_comm 1 others, mul-one others))

      below : (q : ℕ) → p - (gap + others - 1) / others < q → q ≤ p → length cs * (c - q) < excess q cs
      below q a b =
          let d : ℕ = p - q in
          let near : (d + 1) * others ≤ gap + others - 1 = (le-div_iff_mul-le {x = d + 1} {y = gap + others - 1} others_some).0 (omega (arith, step_most)) in
          let e : (d + 1) * others ≡ others * d + others = mul_comm (d + 1) others ∙ (mul-add others d 1 ∙ omega (arith, mul-one others)) in
          let x : excess p cs + (p - q) * reach p cs ≤ excess q cs = excess_reach p q cs b in
          omega (arith, apart q b, split (p - q), mul_comm (p - q) (reach p cs), others_some)

-- the same of the numbers that the code has in hand
module _ {c p : ℕ} {cs : List ℕ} (asks : OlderAsks c cs) (l : p ≤ c) {o room b k : ℕ} (eo : o ≡ excess p cs) (er : room ≡ length cs * (c - p)) (eb : b ≡ length cs) (ek : k ≡ reach p cs) (more : room < o) where
  missing : length cs * (c - p) < excess p cs
  missing = rw (← er, ← eo) more

  pub descend_asks : DescendAsks p o room b k
  descend_asks =
      record {
        more = more;
        few_pixels = omega (arith, eo, excess_most p cs, asks.few_pixels);
        few_bins = omega (arith, eb, asks.few_bins);
        some = omega (arith, eb, ek, others_some c p cs l asks.holds missing);
        least = rw (eo, er, eb, ek) (step_most c p cs l asks.holds missing);
      }

  pub descended : {r : ℕ} → r ≡ p - (o - room + (b - k) - 1) / (b - k) → Lowered c cs p r
  descended e = rw (e, eo, er, eb, ek) (step_lowers c p cs l asks.holds missing)

-- p levels: it stays
pub lower_stays : {c p : ℕ} {cs : List ℕ} → excess p cs ≤ length cs * (c - p) → Lowered c cs p p
lower_stays {c} {p} {cs} e = record { most = le_refl p; stays = λ z. le-leb (excess p cs) (length cs * (c - p)) e; none = λ q a b. absurd (omega arith) }

-- ---- the search

-- no number above p up to C levels, and q is a step from p
pub record Sought (c : ℕ) (cs : List ℕ) (p q : ℕ) : Type 0 where
  pub most : p ≤ c
  pub above : (x : ℕ) → p < x → x ≤ c → levels c cs x ≡ false
  pub step : Lowered c cs p q

pub sought_first : {c q : ℕ} {cs : List ℕ} → Lowered c cs c q → Sought c cs c q
sought_first {c} s = record { most = le_refl c; above = λ x a b. absurd (omega arith); step = s }

pub sought_next : {c p q r : ℕ} {cs : List ℕ} → Sought c cs p q → Lowered c cs q r → Sought c cs q r
sought_next {c} {p} {q} {r} {cs} i s =
    record { most = omega (arith, i.most, i.step.most); above = λ x a b. at x a b (lt_or_ge p x); step = s }
  where
    at : (x : ℕ) → q < x → x ≤ c → (p < x) ⊎ (x ≤ p) → levels c cs x ≡ false
    at x a b (inl u) = i.above x u b
    at x a b (inr u) = i.step.none x a u

pub sought_end : {c p q : ℕ} {cs : List ℕ} → Sought c cs p q → p ≤ q → p ≡ level_of c cs
sought_end {c} {p} {q} {cs} i h = sym (level_is c p cs i.most (i.step.stays h) i.above)
