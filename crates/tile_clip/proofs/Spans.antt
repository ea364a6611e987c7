-- The starts where only some bins in a row hold anything: the bins before them and behind them stay under the limit for as many starts as there is room
-- in each, so that what they take is a number of places.
-- Assumes nothing.
use Prim.Native.Nat.{ℕ, zero, suc, ◌+◌, ◌-◌, ◌*◌, ◌/◌, ◌≤◌, ◌<◌, max}
use mathlib.Core.List.{List, [], ◌∷◌, ◌++◌}
use mathlib.Core.Path.{◌≡◌, refl, sym, ap, ap₂, ◌∙◌}
use lib.ListN.{length, length-append, get_or, take}
use native.Mathlib.Nat.{le_of_suc-le-suc, not-suc-le-zero, le_refl, div-le_self, div-mul-le_self, lt-div-mul-add, mul_comm, mul-le-mul}
use native.Mathlib.Omega.{arith}
use borrow.Author.Tests.{lt-ltb}
use Rattle.base_lists.specs.Lists.{total, tab}
use Rattle.base_lists.proofs.Tabs.{length_tab, get_or_tab}
use Rattle.base_lists.proofs.Sums.{total_tab, sum_const}
use Rattle.tile_clip.specs.declared.Handed.{Handed}
use Rattle.tile_clip.specs.Clip.{Spread, walk, next_start_of, starts}
use Rattle.tile_clip.specs.Looks.{apart}
use Rattle.tile_clip.specs.Spans.{framed, step_of, on_to, part_walk, TurnAsks, Turned, TurnsAsks, TurnsLeft}
use Rattle.tile_clip.proofs.Walks.{walk_done, walk_rest, length_walk, total_walk}
use Rattle.tile_clip.proofs.Rounds.{starts_none, starts_one}
use Rattle.tile_clip.proofs.Parts.{along, walk_parts, open_rest, walk_once}

-- ---- one start

-- the places that a walk meets in n bins reach behind the last of them, by less than a step
pub apart_room : (step n : ℕ) → 0 < step → (n ≤ step * apart step n) × (step * apart step n < n + step)
apart_room step n p =
    let a : n + (step - 1) < (n + (step - 1)) / step * step + step = lt-div-mul-add p in
    let b = div-mul-le_self (n + (step - 1)) step in
    let c = mul_comm ((n + (step - 1)) / step) step in
    (omega (arith, a, c), omega (arith, b, c))

-- the step of a start
pub step_fits : (b left : ℕ) {s : ℕ} → b ≤ 4096 → s ≡ step_of b left → (0 < s) × (s ≤ 4096)
step_fits b left few e = (omega (arith, e), omega (arith, e, div-le_self b left))

-- the bins before the list take all that is left
pub turned_under : (l : ℕ) {b lo start left : ℕ} {cs : List ℕ} {s met : ℕ} → s ≡ step_of b left → met ≡ apart s (lo - start) → left ≤ met
    → Turned l b lo start left cs cs (record { left = 0; below = left })
turned_under l {b} {lo} {start} {left} {cs} {s} {met} e m u =
    let f : met ≡ apart (step_of b left) (lo - start) = m ∙ ap (λ x. apart x (lo - start)) e in
    let z : left - apart (step_of b left) (lo - start) ≡ 0 = omega (arith, f) in
    let w : part_walk l (step_of b left) lo start cs left ≡ record { counts = cs; rest = 0 } =
    ap (walk l (step_of b left) (on_to (step_of b left) start lo) cs) z ∙ walk_done l (step_of b left) (on_to (step_of b left) start lo) cs in
    record {
      under = omega (arith, f);
      bins = sym (ap (λ v. v.counts) w);
      rest = omega (arith, ap (λ v. v.rest) w);
    }

-- or they do not
pub turned_on : (l b lo start left : ℕ) (cs : List ℕ) {ds : List ℕ} {s met on rest above k : ℕ} → s ≡ step_of b left → met ≡ apart s (lo - start) → met < left
    → (ds ≡ (walk l s (start + s * met - lo) cs (left - met)).counts) × (rest ≡ (walk l s (start + s * met - lo) cs (left - met)).rest)
    → on ≡ apart s (length cs - (start + s * met - lo))
    → above ≡ apart s (b - (lo + length cs) - (start + s * met - lo + s * on - length cs)) → k ≡ rest - above
    → Turned l b lo start left cs ds (record { left = k; below = met })
turned_on l b lo start left cs {ds} {s} {met} {on} {rest} {above} {k} e m u d o a h =
    let f : met ≡ apart (step_of b left) (lo - start) = m ∙ ap (λ x. apart x (lo - start)) e in
    record {
      under = omega (arith, f);
      bins = d.0 ∙ ap (λ y. (walk l s (start + s * y - lo) cs (left - y)).counts) m ∙ ap (λ x. (part_walk l x lo start cs left).counts) e;
      rest = h ∙ ap₂ (λ x y. x - y) d.1 (a ∙ ap (λ y. apart s (b - (lo + length cs) - (start + s * met - lo + s * y - length cs))) o)
          ∙ ap (λ y. (walk l s (start + s * y - lo) cs (left - y)).rest - apart s (b - (lo + length cs) - (start + s * y - lo + s * apart s (length cs - (start + s * y - lo)) - length cs))) m
          ∙ ap (λ x. (part_walk l x lo start cs left).rest - apart x (b - (lo + length cs) - on_to x (on_to x start lo) (length cs))) e;
    }

-- how far the places reach that a walk meets in n bins from `at` on
pub reach : (s n at : ℕ) {m : ℕ} → 0 < s → m ≡ apart s (n - at) → (s * m < n + s) × (n ≤ at + s * m)
reach s n at {m} p e =
    let a = ap (λ x. s * x) e in
    let r = apart_room s (n - at) p in
    (omega (arith, a, r.1), omega (arith, a, r.0))

-- ---- a start over all bins

-- bins before the list and behind it that are under the limit, and the list between them
module _ (l b lo start r : ℕ) (front ds back : List ℕ) {h : Handed} {es : List ℕ}
    (asks : TurnAsks b lo start r ds)
    (long : length front ≡ lo) (behind : length back ≡ b - (lo + length ds))
    (before_open : (i : ℕ) → i < length front → get_or front i 0 < l) (behind_open : (i : ℕ) → i < length back → get_or back i 0 < l)
    (t : Turned l b lo start r ds es h) where
  abbrev s : ℕ
  s = step_of b r

  some_step : 0 < s
  some_step = omega arith

  abbrev g : ℕ
  g = on_to s (on_to s start lo) (length ds)

  abbrev part : Spread
  part = part_walk l s lo start ds r

  -- what the bins before the list leave
  pub front_left_lem : (walk l s start front r).rest ≡ r - apart s (lo - start)
  front_left_lem = open_rest l s start front r some_step before_open ∙ ap (λ n. r - apart s (n - start)) long

  -- and those behind it
  pub back_left : (walk l s g back part.rest).rest ≡ h.left
  back_left = open_rest l s g back part.rest some_step behind_open ∙ ap (λ n. part.rest - apart s (n - g)) behind ∙ sym t.rest

  -- the list and the bins behind it
  rest_walk : walk l s (on_to s start (length front)) (ds ++ back) (walk l s start front r).rest ≡ along part (walk l s g back part.rest)
  rest_walk = ap₂ (λ n x. walk l s (on_to s start n) (ds ++ back) x) long front_left_lem ∙ walk_parts l s (on_to s start lo) ds back (r - apart s (lo - start)) some_step

  -- the walk over all of them
  pub all_walk : walk l s start (front ++ (ds ++ back)) r ≡ record { counts = (walk l s start front r).counts ++ (es ++ (walk l s g back part.rest).counts); rest = h.left }
  all_walk =
      walk_parts l s start front (ds ++ back) r some_step
      ∙ ap (along (walk l s start front r)) rest_walk
      ∙ ap₂ (λ x y. record { counts = (walk l s start front r).counts ++ (x ++ (walk l s g back part.rest).counts); rest = y }) (sym t.bins) back_left

  -- what the bins before the list have now
  pub front_total : total (walk l s start front r).counts ≡ total front + h.below
  front_total = omega (arith, total_walk l s start front r, front_left_lem, t.under)

  pub handed_less : h.below + h.left ≤ r
  handed_less = omega (arith, t.under, t.rest, walk_rest l s (on_to s start lo) ds (r - apart s (lo - start)))

  pub all_long : length (front ++ (ds ++ back)) ≡ b
  all_long = omega (arith, length-append front (ds ++ back), length-append ds back, long, behind, asks.within)

-- ---- the starts

-- the bins before the list and behind it, of which each has gained one at most for each start, and what is still to be done
pub record Turning (l b lo q left : ℕ) (cs : List ℕ) (start r below : ℕ) (ds : List ℕ) : Type 0 where
  pub front : List ℕ
  pub back : List ℕ
  pub size : length ds ≡ length cs
  pub long : length front ≡ lo
  pub behind : length back ≡ b - (lo + length ds)
  pub spent : below + r ≤ left
  pub same : starts (left * b - start) l start (front ++ (ds ++ back)) r ≡ starts (left * b) l 0 (framed q b lo cs) left
  pub gained : total front ≡ lo * q + below
  pub before_low : (i : ℕ) → i < length front → get_or front i 0 ≤ q + start
  pub behind_low : (i : ℕ) → i < length back → get_or back i 0 ≤ q + start

pub turning_first : (l b lo q left : ℕ) (cs : List ℕ) → Turning l b lo q left cs 0 left 0 cs
unfolding framed
turning_first l b lo q left cs =
    let n = b - (lo + length cs) in
    let z : left * b - 0 ≡ left * b = omega arith in
    record {
      front = tab lo (λ k. q);
      back = tab n (λ k. q);
      size = refl;
      long = length_tab lo (λ k. q);
      behind = length_tab n (λ k. q);
      spent = omega arith;
      same = ap (λ k. starts k l 0 (tab lo (λ k. q) ++ (cs ++ tab n (λ k. q))) left) z;
      gained = omega (arith, total_tab lo (λ k. q), sum_const lo q);
      before_low = λ i h. omega (arith, get_or_tab lo (λ k. q) i 0 (omega (arith, h, length_tab lo (λ k. q))));
      behind_low = λ i h. omega (arith, get_or_tab n (λ k. q) i 0 (omega (arith, h, length_tab n (λ k. q))));
    }

pub turning_asks : {l b lo most q left : ℕ} {cs : List ℕ} {start r below : ℕ} {ds : List ℕ} → TurnsAsks l b lo most q left cs → Turning l b lo q left cs start r below ds → 0 < r → start < most
    → TurnAsks b lo start r ds
turning_asks a i p u = record { some = p; few_left = omega (arith, a.few_left, i.spent); few_bins = a.few_bins; within = omega (arith, a.within, i.size); bin = omega (arith, a.fewer) }

-- where a start's walk goes on behind the list
abbrev place_of : ℕ → ℕ → ℕ → ℕ → List ℕ → ℕ
place_of b lo start r ds = on_to (step_of b r) (on_to (step_of b r) start lo) (length ds)

pub turning_next : {l b lo most q left : ℕ} {cs : List ℕ} {start r below : ℕ} {ds es : List ℕ} {h : Handed} → TurnsAsks l b lo most q left cs → Turning l b lo q left cs start r below ds
    → 0 < r → start < most → Turned l b lo start r ds es h → Turning l b lo q left cs (start + 1) h.left (below + h.below) es
turning_next {l} {b} {lo} {most} {q} {left} {cs} {start} {r} {below} {ds} {es} {h} a i p u t =
    record {
      front = (walk l (step_of b r) start i.front r).counts;
      back = (walk l (step_of b r) (place_of b lo start r ds) i.back (part_walk l (step_of b r) lo start ds r).rest).counts;
      size = long_es ∙ i.size;
      long = length_walk l (step_of b r) start i.front r ∙ i.long;
      behind = length_walk l (step_of b r) (place_of b lo start r ds) i.back (part_walk l (step_of b r) lo start ds r).rest ∙ i.behind ∙ ap (λ n. b - (lo + n)) (sym long_es);
      spent = omega (arith, i.spent, handed_less l b lo start r i.front ds i.back asks i.long i.behind before_open behind_open t);
      same =
          sym
          (ap (λ k. starts k l start (i.front ++ (ds ++ i.back)) r) fuel
          ∙ starts_one (left * b - (start + 1)) l start (i.front ++ (ds ++ i.back)) r (step_of b r) _ h.left p (ap (λ n. max 1 (n / r)) (sym whole)) (all_walk l b lo start r i.front ds i.back asks i.long i.behind before_open behind_open t)
          ∙ ap (λ n. starts (left * b - (start + 1)) l n ((walk l (step_of b r) start i.front r).counts ++ (es ++ (walk l (step_of b r) (place_of b lo start r ds) i.back (part_walk l (step_of b r) lo start ds r).rest).counts)) h.left) next)
          ∙ i.same;
      gained = omega (arith, i.gained, front_total l b lo start r i.front ds i.back asks i.long i.behind before_open behind_open t);
      before_low = λ k v. omega (arith, walk_once l (step_of b r) start i.front r k, i.before_low k (omega (arith, v, length_walk l (step_of b r) start i.front r)));
      behind_low = λ k v. omega (arith, walk_once l (step_of b r) (place_of b lo start r ds) i.back (part_walk l (step_of b r) lo start ds r).rest k, i.behind_low k (omega (arith, v, length_walk l (step_of b r) (place_of b lo start r ds) i.back (part_walk l (step_of b r) lo start ds r).rest)));
    }
  where
    asks : TurnAsks b lo start r ds
    asks = turning_asks a i p u

    before_open : (k : ℕ) → k < length i.front → get_or i.front k 0 < l
    before_open k v = omega (arith, i.before_low k v, a.under)

    behind_open : (k : ℕ) → k < length i.back → get_or i.back k 0 < l
    behind_open k v = omega (arith, i.behind_low k v, a.under)

    whole : length (i.front ++ (ds ++ i.back)) ≡ b
    whole = all_long l b lo start r i.front ds i.back asks i.long i.behind before_open behind_open t

    long_es : length es ≡ length ds
    long_es = ap length t.bins ∙ length_walk l (step_of b r) (on_to (step_of b r) start lo) ds (r - apart (step_of b r) (lo - start))

    fuel : left * b - start ≡ suc (left * b - (start + 1))
    fuel =
        let e : 1 * b ≤ left * b = mul-le-mul {n₂ = left} {m₂ = b} (omega (arith, i.spent)) (le_refl b) in
        omega (arith, e, a.fewer)

    next : next_start_of (length (i.front ++ (ds ++ i.back))) start ≡ start + 1
    next = rw (lt-ltb (start + 1) (length (i.front ++ (ds ++ i.back))) (omega (arith, whole, a.fewer))) refl

-- the sum of the first of a list
sum_front : (ys zs : List ℕ) (j : ℕ) → j ≤ length ys → total (take j (ys ++ zs)) ≡ total (take j ys)
unfolding total
sum_front [] [] zero h = refl
sum_front [] (z ∷ zs) zero h = refl
sum_front [] zs (suc j) h = absurd (not-suc-le-zero h)
sum_front (y ∷ ys) zs zero h = refl
sum_front (y ∷ ys) zs (suc j) h = omega (arith, sum_front ys zs j (le_of_suc-le-suc h))

-- and of the bins before it
sum_parts : (xs ys zs : List ℕ) (j : ℕ) → j ≤ length ys → total (take (length xs + j) (xs ++ (ys ++ zs))) ≡ total xs + total (take j ys)
unfolding total
sum_parts [] ys zs j h =
    let e : 0 + j ≡ j = omega arith in
    let f : 0 + total (take j ys) ≡ total (take j ys) = omega arith in
    ap (λ n. total (take n (ys ++ zs))) e ∙ sum_front ys zs j h ∙ sym f
sum_parts (x ∷ xs) ys zs j h =
    let e : suc (length xs) + j ≡ suc (length xs + j) = omega arith in
    ap (λ n. total (take n (x ∷ (xs ++ (ys ++ zs))))) e ∙ omega (arith, sum_parts xs ys zs j h)

pub turning_end : {l b lo q left : ℕ} {cs : List ℕ} {start r below : ℕ} {ds : List ℕ} → Turning l b lo q left cs start r below ds
    → TurnsLeft l b lo q left cs ds (record { left = r; below = below })
turning_end {l} {b} {lo} {q} {left} {cs} {start} {r} {below} {ds} i =
    record {
      size = i.size;
      few = omega (arith, i.spent);
      sums = λ z j v.
          let w : starts (left * b) l 0 (framed q b lo cs) left ≡ i.front ++ (ds ++ i.back) =
          sym i.same ∙ ap (starts (left * b - start) l start (i.front ++ (ds ++ i.back))) z ∙ starts_none (left * b - start) l start (i.front ++ (ds ++ i.back)) in
          ap₂ (λ n x. total (take (n + j) x)) (sym i.long) w ∙ sum_parts i.front ds i.back j (omega (arith, i.size)) ∙ ap (λ x. x + total (take j ds)) i.gained;
    }
