-- Clipping where only some bins in a row hold anything: the excess, the even share and what is left of it are those of all bins.
-- Assumes nothing.
use Prim.Native.Nat.{ℕ, zero, suc, ◌+◌, ◌-◌, ◌*◌, ◌/◌, ◌≤◌, ◌<◌}
use mathlib.Core.List.{List, [], ◌∷◌, ◌++◌, map}
use mathlib.Core.Path.{◌≡◌, refl, sym, ap, ap₂, ◌∙◌}
use lib.ListN.{length, length-append, length-map, take}
use native.Mathlib.Nat.{div-le_self, div-mul-le_self, div-le_of_le-mul, mul_comm, mul-le-mul, add-mul}
use native.Mathlib.Omega.{arith}
use Rattle.std.proofs.Common.{Some, None}
use Rattle.base_lists.specs.Lists.{total, tab}
use Rattle.base_lists.proofs.Tabs.{length_tab, map_append}
use Rattle.base_lists.proofs.Sums.{total_append, total_tab, sum_const}
use Rattle.tile_clip.specs.declared.Handed.{Handed}
use Rattle.tile_clip.specs.Clip.{excess, share, shared, taken, left, starts, clipped}
use Rattle.tile_clip.specs.Asks.{PassAsks, Passed}
use Rattle.tile_clip.specs.Spans.{framed, TurnsAsks, TurnsLeft, SpanAsks, SpanLeft}
use Rattle.tile_clip.proofs.Shares.{shared_other, taken_other, excess_most, taken_all}

-- ---- all bins

excess_append : (l : ℕ) (xs ys : List ℕ) → excess l (xs ++ ys) ≡ excess l xs + excess l ys
unfolding excess
excess_append l [] ys = omega arith
excess_append l (x ∷ xs) ys = omega (arith, excess_append l xs ys)

-- empty bins have no excess
excess_empty : (l n : ℕ) → excess l (tab n (λ k. 0)) ≡ 0
unfolding excess tab
excess_empty l zero = refl
excess_empty l (suc n) = omega (arith, excess_append l (tab n (λ k. 0)) (0 ∷ []), excess_empty l n)

map_alike : (f : ℕ → ℕ) (c n : ℕ) → map f (tab n (λ k. c)) ≡ tab n (λ k. f c)
unfolding tab
map_alike f c zero = refl
map_alike f c (suc n) = map_append f (tab n (λ k. c)) (c ∷ []) ∙ ap (λ x. x ++ (f c ∷ [])) (map_alike f c n)

total_alike : (q n : ℕ) → total (tab n (λ k. q)) ≡ n * q
total_alike q n = total_tab n (λ k. q) ∙ sum_const n q

pub length_framed : (q b lo : ℕ) (cs : List ℕ) → lo + length cs ≤ b → length (framed q b lo cs) ≡ b
unfolding framed
length_framed q b lo cs h =
    omega (arith, length-append (tab lo (λ k. q)) (cs ++ tab (b - (lo + length cs)) (λ k. q)), length-append cs (tab (b - (lo + length cs)) (λ k. q)), length_tab lo (λ k. q), length_tab (b - (lo + length cs)) (λ k. q))

excess_framed : (l b lo : ℕ) (cs : List ℕ) → excess l (framed 0 b lo cs) ≡ excess l cs
unfolding framed
excess_framed l b lo cs =
    omega (arith, excess_append l (tab lo (λ k. 0)) (cs ++ tab (b - (lo + length cs)) (λ k. 0)), excess_append l cs (tab (b - (lo + length cs)) (λ k. 0)), excess_empty l lo, excess_empty l (b - (lo + length cs)))

map_framed : (f : ℕ → ℕ) (b lo : ℕ) (cs : List ℕ) → map f (framed 0 b lo cs) ≡ framed (f 0) b lo (map f cs)
unfolding framed
map_framed f b lo cs =
    map_append f (tab lo (λ k. 0)) (cs ++ tab (b - (lo + length cs)) (λ k. 0))
    ∙ ap₂ (λ x y. x ++ y) (map_alike f 0 lo)
    (map_append f cs (tab (b - (lo + length cs)) (λ k. 0))
    ∙ ap (λ x. map f cs ++ x) (map_alike f 0 (b - (lo + length cs)))
    ∙ ap (λ n. map f cs ++ tab (b - (lo + n)) (λ k. f 0)) (sym (length-map cs f)))

pub total_framed : (q b lo : ℕ) (cs : List ℕ) → lo + length cs ≤ b → total (framed q b lo cs) ≡ total cs + (b - length cs) * q
unfolding framed
total_framed q b lo cs h =
    let n = b - (lo + length cs) in
    let e : (b - length cs) * q ≡ (lo + n) * q = ap (λ x. x * q) (omega arith) in
    omega (arith, total_append (tab lo (λ k. q)) (cs ++ tab n (λ k. q)), total_append cs (tab n (λ k. q)), total_alike q lo, total_alike q n, e, add-mul lo n q)

-- ---- the call: e is the excess that the code worked out

module _ {l b lo : ℕ} {cs : List ℕ} (asks : SpanAsks l b lo cs) {e : ℕ} (is : e ≡ excess l cs) where
  pub share_few : e / b ≤ 4194304
  share_few = omega (arith, div-le_self e b, is, excess_most l cs, asks.few_pixels)

  pub share_small : e / b ≤ l
  share_small = div-le_of_le-mul b (omega (arith, is, asks.holds, excess_most l cs, mul_comm l b))

  pub share_product : lo * (e / b) ≤ 4096 * 4194304
  share_product = mul-le-mul {n₁ = lo} {n₂ = 4096} {m₂ = 4194304} (omega (arith, asks.within, asks.few_bins)) share_few

  -- what the bins of the list take, and the others
  all_take : total (map (taken l (e / b)) cs) + (b - length cs) * (e / b) ≤ e
  all_take =
      let n = length cs in
      let x : b * (e / b) ≡ (n + (b - n)) * (e / b) = ap (λ y. y * (e / b)) (omega (arith, asks.within)) in
      omega (arith, taken_all l (e / b) cs, add-mul n (b - n) (e / b), mul_comm (e / b) n, mul_comm (e / b) b, div-mul-le_self e b, x)

  pub span_pass : PassAsks l (e / b) (excess l cs) cs × (e / b ≤ 4194304) × (total cs ≤ 4194304)
  span_pass = (record { share_small = share_small; all_taken = omega (arith, all_take, is) }, share_few, asks.few_pixels)

  module _ {ds : List ℕ} {r : ℕ} (p : Passed l (e / b) (excess l cs) cs ds r) where
    pub empty_take : (b - length cs) * (e / b) ≤ r
    empty_take = omega (arith, all_take, p.rest, is)

    long : length ds ≡ length cs
    long = ap length p.bins ∙ length-map cs (shared l (e / b))

    pub span_turns : {m : ℕ} → e / b + m ≤ l → m < b → TurnsAsks l b lo m (e / b) (r - (b - length cs) * (e / b)) ds
    span_turns u v =
        record {
          few_left = omega (arith, p.rest, excess_most l cs, asks.few_pixels);
          few_bins = asks.few_bins;
          within = omega (arith, long, asks.within);
          under = u;
          fewer = v;
        }

    abbrev all : List ℕ
    all = framed 0 b lo cs

    share_is : share l all ≡ e / b
    unfolding share
    share_is = ap₂ (λ x y. x / y) (excess_framed l b lo cs ∙ sym is) (length_framed 0 b lo cs asks.within)

    shared_all : map (shared l (share l all)) all ≡ framed (e / b) b lo ds
    shared_all =
        ap (λ q. map (shared l q) all) share_is
        ∙ map_framed (shared l (e / b)) b lo cs
        ∙ ap₂ (λ q x. framed q b lo x) (shared_other l (e / b) 0 (omega (arith, share_small)) ∙ omega arith) (sym p.bins)

    taken_all_bins : total (map (taken l (share l all)) all) ≡ total (map (taken l (e / b)) cs) + (b - length cs) * (e / b)
    taken_all_bins =
        ap (λ q. total (map (taken l q) all)) share_is
        ∙ ap total (map_framed (taken l (e / b)) b lo cs ∙ ap (λ q. framed q b lo (map (taken l (e / b)) cs)) (taken_other l (e / b) 0 (omega (arith, share_small))))
        ∙ total_framed (e / b) b lo (map (taken l (e / b)) cs) (omega (arith, length-map cs (taken l (e / b)), asks.within))
        ∙ ap (λ n. total (map (taken l (e / b)) cs) + (b - n) * (e / b)) (length-map cs (taken l (e / b)))

    left_is : left l all ≡ r - (b - length cs) * (e / b)
    unfolding left
    left_is = omega (arith, taken_all_bins, excess_framed l b lo cs, p.rest)

    clipped_is : clipped l all ≡ starts ((r - (b - length cs) * (e / b)) * b) l 0 (framed (e / b) b lo ds) (r - (b - length cs) * (e / b))
    unfolding clipped
    clipped_is =
        ap₂ (λ n x. starts (left l all * n) l 0 x (left l all)) (length_framed 0 b lo cs asks.within) shared_all
        ∙ ap (λ n. starts (n * b) l 0 (framed (e / b) b lo ds) n) left_is

    pub span_left : {es : List ℕ} {h : Handed} → TurnsLeft l b lo (e / b) (r - (b - length cs) * (e / b)) ds es h → h.left ≡ 0 → SpanLeft l b lo cs es (Some (lo * (e / b) + h.below))
    span_left t z =
        record {
          size = t.size ∙ long;
          sums = λ j v. ap (λ x. total (take (lo + j) x)) clipped_is ∙ t.sums z j (omega (arith, long));
        }

    pub span_none : {es : List ℕ} {h : Handed} → TurnsLeft l b lo (e / b) (r - (b - length cs) * (e / b)) ds es h → SpanLeft l b lo cs es None
    span_none t = record { size = t.size ∙ long; sums = tt }
