-- Laws of `mapped_of` and `mapping_of`: the mapping never falls, rises by at most L x R over N rounded up, stays within Min to Max and ends at Max.
-- Assumes nothing.
use Prim.Native.Nat.{ℕ, ◌+◌, ◌-◌, ◌*◌, ◌/◌, ◌≤◌, ◌<◌}
use mathlib.Core.Bool.{true}
use mathlib.Core.List.{List}
use mathlib.Core.Path.{◌≡◌, refl, ap, ◌∙◌}
use lib.ListN.{length, take, get_or}
use lib.Seq.{take-length}
use native.Mathlib.Nat.{mul-le-mul, mul-le-mul_right, mul-add, mul-one, mul_comm, mul-div_right, le-div_iff_mul-le, div-lt_iff_lt-mul, div-mul-le_self, lt-div-mul-add, div-le_of_le-mul, le_trans, add-mul}
use native.Mathlib.Omega.{arith}
use Rattle.base_lists.specs.Lists.{total, all}
use Rattle.base_lists.proofs.Tabs.{length_tab, get_or_tab}
use Rattle.base_lists.proofs.Tallies.{total_next, total_next_le, total_take_le, total_take_mono}
use Rattle.base_lists.proofs.Alls.{all_tab}
use Rattle.base_lists.proofs.Inverses.{ratio, by_ratio}
use Rattle.base_range.specs.Scan.{within}
use Rattle.tile_map.specs.Tile.{mapped_of, mapping_of, MapBinsAsks}
use Rattle.base_range.proofs.Spans.{within_both}

-- a quotient never falls as the dividend grows
pub div_mono : (a b n : ℕ) → 0 < n → a ≤ b → a / n ≤ b / n
div_mono a b n p h = (le-div_iff_mul-le {x = a / n} {y = b} p).1 (omega (arith, div-mul-le_self a n))

-- a part s of n, as a part of r
pub part_le : (s n r : ℕ) → s ≤ n → s * r / n ≤ r
part_le s n r h = div-le_of_le-mul n (mul-le-mul_right r h)

-- a quotient of a sum is at most the quotient of one part and the other's, rounded up
pub div_add_up : (a d n : ℕ) → 0 < n → (a + d) / n ≤ a / n + (d + n - 1) / n
div_add_up a d n p =
    let q : ℕ = a / n in
    let u : ℕ = (d + n - 1) / n in
    let below-a : a < q * n + n = lt-div-mul-add p in
    let below-d : d + n - 1 < u * n + n = lt-div-mul-add p in
    let room : (q + u + 1) * n ≡ q * n + u * n + 1 * n = add-mul (q + u) 1 n ∙ ap (λ t. t + 1 * n) (add-mul q u n) in
    let less : a + d < (q + u + 1) * n = omega arith in
    let small : (a + d) / n < q + u + 1 = (div-lt_iff_lt-mul {x = a + d} {y = q + u + 1} p).1 less in
    omega arith

-- ---- a factor in place of the division

-- a part s of n by the factor that stands for r / n
pub scale_part : (s n r : ℕ) → 0 < n → s ≤ n → n ≤ 4198400 → s * ratio 35184372088832 r n / 35184372088832 ≡ s * r / n
scale_part s n r p h m = by_ratio 35184372088832 s r n p (omega (arith, mul-le-mul {n₂ = 4198400} {m₂ = 4198400} (le_trans h m) m))

-- and its product stays in 64 bits
pub scale_room : (s n r : ℕ) → s ≤ n → n ≤ 4198400 → r ≤ 4095 → s * ratio 35184372088832 r n ≤ 144080003707965440
scale_room s n r h m k =
    let q : ℕ = r * 35184372088832 / n in
    let e : s * (q + 1) ≡ s * q + s * 1 = mul-add s q 1 in
    let a : s * q ≤ n * q = mul-le-mul_right q h in
    let b : q * n ≤ r * 35184372088832 = div-mul-le_self (r * 35184372088832) n in
    omega (arith, mul_comm n q, mul-one s)

-- ---- one mapped value

-- the sum up to bin k and with it
pub mapped_through : (lo hi : ℕ) (cs : List ℕ) (k : ℕ) {s n t : ℕ} → s ≡ total (take (k + 1) cs) → n ≡ t → lo + s * (hi - lo) / n ≡ mapped_of lo hi t cs k
unfolding mapped_of
mapped_through lo hi cs k e q = rw (e, q) refl

-- a turn of `map`: s is the running sum before bin k
module _ {cs : List ℕ} {n lo hi room k s : ℕ} (asks : MapBinsAsks cs n lo hi room) (e : s ≡ total (take k cs)) (l : k < length cs) where
  abbrev with_own : ℕ
  with_own = s + get_or cs k 0

  -- the sum with bin k's own count
  pub turn_sum : with_own ≡ total (take (k + 1) cs)
  turn_sum = omega (arith, total_next cs k l)

  -- is at most N
  pub turn_few : with_own ≤ n
  turn_few = omega (arith, turn_sum, total_take_le (k + 1) cs, asks.sum)

  -- its product with the factor stays in 64 bits
  pub turn_room : with_own * ratio 35184372088832 (hi - lo) n ≤ 144080003707965440
  turn_room = scale_room _ _ _ turn_few asks.few (omega (arith, asks.most))

  -- and gives the quotient
  turn_part : with_own * ratio 35184372088832 (hi - lo) n / 35184372088832 ≡ with_own * (hi - lo) / n
  turn_part = scale_part _ _ _ asks.some turn_few asks.few

  -- which is at most R
  pub turn_most : with_own * ratio 35184372088832 (hi - lo) n / 35184372088832 ≤ hi - lo
  turn_most = omega (arith, turn_part, part_le _ _ (hi - lo) turn_few)

  -- the mapped value of bin k
  pub turn_value : lo + with_own * ratio 35184372088832 (hi - lo) n / 35184372088832 ≡ mapped_of lo hi n cs k
  turn_value = ap (λ t. lo + t) turn_part ∙ mapped_through lo hi cs k turn_sum refl

-- never below Min
pub mapped_low : (lo hi n : ℕ) (cs : List ℕ) (k : ℕ) → lo ≤ mapped_of lo hi n cs k
unfolding mapped_of
mapped_low lo hi n cs k = omega arith

-- never above Max
pub mapped_high : (lo hi n : ℕ) (cs : List ℕ) (k : ℕ) → total cs ≤ n → lo ≤ hi → mapped_of lo hi n cs k ≤ hi
unfolding mapped_of
mapped_high lo hi n cs k h l =
    omega (arith, part_le (total (take (k + 1) cs)) n (hi - lo) (le_trans (total_take_le (k + 1) cs) h))

-- the mapping never falls
pub mapped_mono : (lo hi n : ℕ) (cs : List ℕ) → 0 < n → (k j : ℕ) → k ≤ j → mapped_of lo hi n cs k ≤ mapped_of lo hi n cs j
unfolding mapped_of
mapped_mono lo hi n cs p k j h =
    omega (
      arith,
      div_mono
          (total (take (k + 1) cs) * (hi - lo))
          (total (take (j + 1) cs) * (hi - lo))
          n
          p
          (mul-le-mul_right (hi - lo) (total_take_mono cs (k + 1) (j + 1) (omega arith))),
    )

-- from a bin to the next it rises by at most L x R over N, rounded up, where the next bin's count is not above L
pub mapped_rise : (lo hi n l : ℕ) (cs : List ℕ) → 0 < n → (k : ℕ) → get_or cs (k + 1) 0 ≤ l
    → mapped_of lo hi n cs (k + 1) ≤ mapped_of lo hi n cs k + (l * (hi - lo) + n - 1) / n
unfolding mapped_of
mapped_rise lo hi n l cs p k h =
    let r : ℕ = hi - lo in
    let s : ℕ = total (take (k + 1) cs) in
    let t : ℕ = total (take (k + 1 + 1) cs) in
    let step : t ≤ s + l = omega (arith, total_next_le cs (k + 1)) in
    let most : t * r ≤ s * r + l * r = omega (arith, mul-le-mul_right r step, add-mul s l r) in
    omega (arith, div_mono (t * r) (s * r + l * r) n p most, div_add_up (s * r) (l * r) n p)

-- and to the first bin from Min
pub mapped_first : (lo hi n l : ℕ) (cs : List ℕ) → 0 < n → get_or cs 0 0 ≤ l → mapped_of lo hi n cs 0 ≤ lo + (l * (hi - lo) + n - 1) / n
unfolding mapped_of total
mapped_first lo hi n l cs p h =
    let r : ℕ = hi - lo in
    let t : ℕ = total (take 1 cs) in
    let none : total (take 0 cs) ≡ 0 = refl in
    let step : t ≤ l = omega (arith, total_next_le cs 0) in
    let most : t * r ≤ l * r + n - 1 = omega (arith, mul-le-mul_right r step) in
    omega (arith, div_mono (t * r) (l * r + n - 1) n p most)

-- the last bin maps to Max
pub mapped_last : (lo hi n : ℕ) (cs : List ℕ) → 0 < n → total cs ≡ n → lo ≤ hi → 0 < length cs → mapped_of lo hi n cs (length cs - 1) ≡ hi
unfolding mapped_of
mapped_last lo hi n cs p e h l =
    let all : length cs - 1 + 1 ≡ length cs = omega arith in
    let sum : total (take (length cs - 1 + 1) cs) ≡ n = ap (λ k. total (take k cs)) all ∙ ap total (take-length cs) ∙ e in
    ap (λ s. lo + s * (hi - lo) / n) sum ∙ ap (λ t. lo + t) (mul-div_right (hi - lo) p) ∙ omega arith

-- ---- the mapping

-- a mapped value for each bin
pub length_mapping : (lo hi n : ℕ) (cs : List ℕ) → length (mapping_of lo hi n cs) ≡ length cs
unfolding mapping_of
length_mapping lo hi n cs = length_tab (length cs) _

pub get_or_mapping : (lo hi n : ℕ) (cs : List ℕ) (k : ℕ) → k < length cs → get_or (mapping_of lo hi n cs) k 0 ≡ mapped_of lo hi n cs k
unfolding mapping_of
get_or_mapping lo hi n cs k h = get_or_tab (length cs) (mapped_of lo hi n cs) k 0 h

-- each mapped value lies within Min to Max
pub mapping_within : (lo hi n : ℕ) (cs : List ℕ) → total cs ≤ n → lo ≤ hi → all (within lo hi) (mapping_of lo hi n cs) ≡ true
unfolding mapping_of
mapping_within lo hi n cs h l =
    all_tab
    (within lo hi)
    (length cs)
    (mapped_of lo hi n cs)
    (λ k m. within_both lo hi (mapped_of lo hi n cs k) (mapped_low lo hi n cs k) (mapped_high lo hi n cs k h l))
