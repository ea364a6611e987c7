-- What a walk looks at: bin by bin, over full bins, and in all starts together.
-- Assumes nothing.
use Prim.Native.Nat.{ℕ, zero, suc, ◌+◌, ◌-◌, ◌*◌, ◌/◌, ◌%◌, ◌≤◌, ◌<◌, max}
use mathlib.Core.Bool.{Bool, true, false}
use lib.Dec.{ltb}
use mathlib.Core.List.{List, [], ◌∷◌}
use mathlib.Core.Logic.{◌⊎◌, inl, inr}
use mathlib.Core.Path.{◌≡◌, refl, sym, ap, ◌∙◌}
use lib.Arith.{digits_div}
use lib.ListN.{length, get_or, set}
use native.Mathlib.Nat.{not-suc-le-zero, le_of_suc-le-suc, le_refl, div-eq_of_lt, add-div_right, div-le_self, div-add-mod', mod-lt, mod-le, suc-mul, zero-mul, mul-suc, mul-zero, mul-add, mul-one, mul-le-mul, le_of_lt}
use native.Mathlib.Omega.{arith}
use borrow.Author.Tests.{lt-ltb, le-ltb}
use Rattle.base_lists.proofs.Orders.{lt_or_ge}
use Rattle.tile_clip.specs.Clip.{walk, next_start_of}
use Rattle.tile_clip.specs.Looks.{looks_in, looks_from, up_to, apart, onward, skipped_of}
use Rattle.tile_clip.proofs.Walks.{walk_under, walk_over, length_walk}

-- ---- one walk, bin by bin

-- where nothing is left no bin is looked at
pub looks_done : (l step gap : ℕ) (cs : List ℕ) → looks_in l step gap cs 0 ≡ 0
unfolding looks_in
looks_done l step gap [] = refl
looks_done l step gap (c ∷ cs) = refl

-- a bin is passed over
looks_pass : (l step gap c : ℕ) (cs : List ℕ) (r : ℕ) → 0 < gap → looks_in l step gap (c ∷ cs) r ≡ looks_in l step (gap - 1) cs r
unfolding looks_in
looks_pass l step zero c cs r p = absurd (not-suc-le-zero p)
looks_pass l step (suc gap) c cs zero p = sym (looks_done l step (suc gap - 1) cs)
looks_pass l step (suc gap) c cs (suc r) p = let e : gap ≡ suc gap - 1 = omega arith in ap (λ k. looks_in l step k cs (suc r)) e

-- a look, and what follows it by the test of the limit
abbrev then : ℕ → ℕ → Bool → ℕ
then x y t = suc (elim t [ true ↦ x | false ↦ y ])

-- at a bin under the limit
looks_under : (l step c : ℕ) (cs : List ℕ) (r : ℕ) → c < l → looks_in l step 0 (c ∷ cs) (suc r) ≡ suc (looks_in l step (step - 1) cs r)
unfolding looks_in
looks_under l step c cs r u = ap (then (looks_in l step (step - 1) cs r) (looks_in l step (step - 1) cs (suc r))) (lt-ltb c l u)

-- at a full bin
looks_over : (l step c : ℕ) (cs : List ℕ) (r : ℕ) → l ≤ c → looks_in l step 0 (c ∷ cs) (suc r) ≡ suc (looks_in l step (step - 1) cs (suc r))
unfolding looks_in
looks_over l step c cs r u = ap (then (looks_in l step (step - 1) cs r) (looks_in l step (step - 1) cs (suc r))) (le-ltb c l u)

-- the bin at the walk's place is under the limit: one look, and those from the next place on, with one less left
pub looks_gain : (l step at : ℕ) (cs : List ℕ) (r : ℕ) → 0 < step → at < length cs → get_or cs at 0 < l
    → looks_in l step at cs (suc r) ≡ suc (looks_in l step (at + step) (set cs at (get_or cs at 0 + 1)) r)
looks_gain l step at [] r p h u = absurd (not-suc-le-zero h)
looks_gain l step zero (c ∷ cs) r p h u =
    let e : zero + step - 1 ≡ step - 1 = omega arith in
    looks_under l step c cs r u
    ∙ ap suc (sym (looks_pass l step (zero + step) (c + 1) cs r (omega arith) ∙ ap (λ k. looks_in l step k cs r) e))
looks_gain l step (suc at) (c ∷ cs) r p h u =
    let e : suc at + step - 1 ≡ at + step = omega arith in
    let f : suc at - 1 ≡ at = omega arith in
    looks_pass l step (suc at) c cs (suc r) (omega arith)
    ∙ (ap (λ k. looks_in l step k cs (suc r)) f
    ∙ (looks_gain l step at cs r p (le_of_suc-le-suc h) u
    ∙ ap suc (sym (looks_pass l step (suc at + step) c (set cs at (get_or cs at 0 + 1)) r (omega arith)
    ∙ ap (λ k. looks_in l step k (set cs at (get_or cs at 0 + 1)) r) e))))

-- the bin at the walk's place is full: one look, and those from the next place on
pub looks_skip : (l step at : ℕ) (cs : List ℕ) (r : ℕ) → 0 < step → at < length cs → l ≤ get_or cs at 0
    → looks_in l step at cs (suc r) ≡ suc (looks_in l step (at + step) cs (suc r))
looks_skip l step at [] r p h u = absurd (not-suc-le-zero h)
looks_skip l step zero (c ∷ cs) r p h u =
    let e : zero + step - 1 ≡ step - 1 = omega arith in
    looks_over l step c cs r u
    ∙ ap suc (sym (looks_pass l step (zero + step) c cs (suc r) (omega arith) ∙ ap (λ k. looks_in l step k cs (suc r)) e))
looks_skip l step (suc at) (c ∷ cs) r p h u =
    let e : suc at + step - 1 ≡ at + step = omega arith in
    let f : suc at - 1 ≡ at = omega arith in
    looks_pass l step (suc at) c cs (suc r) (omega arith)
    ∙ (ap (λ k. looks_in l step k cs (suc r)) f
    ∙ (looks_skip l step at cs r p (le_of_suc-le-suc h) u
    ∙ ap suc (sym (looks_pass l step (suc at + step) c cs (suc r) (omega arith) ∙ ap (λ k. looks_in l step k cs (suc r)) e))))

-- ---- one walk as a whole

-- a walk looks at no more bins than stand from its start on
looks_few : (l step gap : ℕ) (cs : List ℕ) (r : ℕ) → looks_in l step gap cs r ≤ length cs - gap
unfolding looks_in
looks_few l step gap [] r = omega arith
looks_few l step gap (c ∷ cs) zero = omega arith
looks_few l step (suc gap) (c ∷ cs) (suc r) = omega (arith, looks_few l step gap cs (suc r))
looks_few l step zero (c ∷ cs) (suc r) = go (ltb c l) (looks_few l step (step - 1) cs r) (looks_few l step (step - 1) cs (suc r))
  where
    go : (b : Bool) → looks_in l step (step - 1) cs r ≤ length cs - (step - 1) → looks_in l step (step - 1) cs (suc r) ≤ length cs - (step - 1)
        → suc (elim b [ true ↦ looks_in l step (step - 1) cs r | false ↦ looks_in l step (step - 1) cs (suc r) ]) ≤ suc (length cs) - zero
    go true p q = omega arith
    go false p q = omega arith

-- over plain numbers: one look more, a step on
pub apart_on : (n step : ℕ) → 0 < step → suc (apart step (n - (step - 1))) ≡ apart step (suc n - 0)
apart_on n step p = go (lt_or_ge n (step - 1))
  where
    go : (n < step - 1) ⊎ (step - 1 ≤ n) → suc ((n - (step - 1) + (step - 1)) / step) ≡ (suc n - 0 + (step - 1)) / step
    go (inl u) =
        let a : n - (step - 1) + (step - 1) ≡ step - 1 = omega arith in
        let b : suc n - 0 + (step - 1) ≡ n + step = omega arith in
        let c : (step - 1) / step ≡ 0 = div-eq_of_lt (omega arith) in
        let d : n / step ≡ 0 = div-eq_of_lt (omega arith) in
        rw (a, b) (omega (arith, c, d, add-div_right n p))
    go (inr u) =
        let a : n - (step - 1) + (step - 1) ≡ n = omega arith in
        let b : suc n - 0 + (step - 1) ≡ n + step = omega arith in
        rw (a, b) (omega (arith, add-div_right n p))

-- a walk over full bins looks at each step-th
pub looks_full : (l step gap : ℕ) (cs : List ℕ) (r : ℕ) → 0 < step → 0 < r → ((i : ℕ) → gap ≤ i → i < length cs → l ≤ get_or cs i 0)
    → looks_in l step gap cs r ≡ apart step (length cs - gap)
unfolding looks_in
looks_full l step gap [] r p q f =
    let a : 0 - gap + (step - 1) ≡ step - 1 = omega arith in
    sym (ap (λ k. k / step) a ∙ div-eq_of_lt (omega arith))
looks_full l step gap (c ∷ cs) zero p q f = absurd (not-suc-le-zero q)
looks_full l step (suc gap) (c ∷ cs) (suc r) p q f =
    let a : length cs - gap ≡ suc (length cs) - suc gap = omega arith in
    looks_full l step gap cs (suc r) p q (λ i h k. f (suc i) (omega arith) (omega arith)) ∙ ap (apart step) a
looks_full l step zero (c ∷ cs) (suc r) p q f =
    looks_over l step c cs r (f 0 (omega arith) (omega arith))
    ∙ (ap suc (looks_full l step (step - 1) cs (suc r) p q (λ i h k. f (suc i) (omega arith) (omega arith))) ∙ apart_on (length cs) step p)

-- a walk with step 1 that leaves something looks at every bin from its start on
pub looks_all : (l gap : ℕ) (cs : List ℕ) (r : ℕ) → 0 < (walk l 1 gap cs r).rest → looks_in l 1 gap cs r ≡ length cs - gap
unfolding looks_in walk
looks_all l gap [] r h = omega arith
looks_all l gap (c ∷ cs) zero h = absurd (not-suc-le-zero h)
looks_all l (suc gap) (c ∷ cs) (suc r) h = omega (arith, looks_all l gap cs (suc r) h)
looks_all l zero (c ∷ cs) (suc r) h = go (looks_all l 0 cs r) (looks_all l 0 cs (suc r)) (lt_or_ge c l)
  where
    go : (0 < (walk l 1 0 cs r).rest → looks_in l 1 0 cs r ≡ length cs - 0) → (0 < (walk l 1 0 cs (suc r)).rest → looks_in l 1 0 cs (suc r) ≡ length cs - 0)
        → (c < l) ⊎ (l ≤ c) → looks_in l 1 zero (c ∷ cs) (suc r) ≡ suc (length cs) - zero
    go p q (inl u) =
        let k : 0 < (walk l 1 0 cs r).rest = rw (walk_under l 1 c cs r u) at h in
        looks_under l 1 c cs r u ∙ omega (arith, p k)
    go p q (inr u) =
        let k : 0 < (walk l 1 0 cs (suc r)).rest = rw (walk_over l 1 c cs r u) at h in
        looks_over l 1 c cs r u ∙ omega (arith, q k)

-- ---- all starts

-- where nothing is left no start looks at a bin
pub looks_none_left : (k l s : ℕ) (cs : List ℕ) → looks_from k l s cs 0 ≡ 0
unfolding looks_from
looks_none_left zero l s cs = refl
looks_none_left (suc k) l s cs = refl

-- one start: its looks, and those behind it
pub looks_one : (k l s : ℕ) (cs : List ℕ) (r step : ℕ) (ds : List ℕ) (t : ℕ) → 0 < r → step ≡ max 1 (length cs / r)
    → walk l step s cs r ≡ record { counts = ds; rest = t }
    → looks_from (suc k) l s cs r ≡ looks_in l step s cs r + looks_from k l (next_start_of (length cs) s) ds t
unfolding looks_from
looks_one k l s cs zero step ds t p q e = absurd (not-suc-le-zero p)
looks_one k l s cs (suc r) step ds t p q e =
    ap (λ m. looks_in l m s cs (suc r) + looks_from k l (next_start_of (length cs) s) (walk l m s cs (suc r)).counts (walk l m s cs (suc r)).rest) (sym q)
    ∙ ap (λ w. looks_in l step s cs (suc r) + looks_from k l (next_start_of (length cs) s) w.counts w.rest) e

-- where no start may come there is no look
looks_zero : (k l : ℕ) (cs : List ℕ) (r : ℕ) → k ≤ 0 → (t : ℕ) → looks_from k l t cs r ≡ 0
unfolding looks_from
looks_zero zero l cs r z t = refl
looks_zero (suc k) l cs r z t = absurd (omega arith)

-- one start more, over plain numbers: `looks` of this start, `rest` behind it
round : (looks : ℕ) (rest : ℕ → ℕ) (k b s q m : ℕ) → s + m ≡ b → suc k ≤ m + q * b → looks ≤ b - s
    → ((t p o : ℕ) → t + o ≡ b → k ≤ o + p * b → rest t ≤ up_to o + p * up_to b) → (k ≤ 0 → (t : ℕ) → rest t ≡ 0)
    → looks + rest (next_start_of b s) ≤ up_to m + q * up_to b
unfolding up_to
round looks rest k b s zero zero e h a ih z = absurd (omega (arith, zero-mul b))
round looks rest k b s (suc q) zero e h a ih z =
    rw (le-ltb (s + 1) b (omega arith)) (omega (arith, ih 0 q b (omega arith) (omega (arith, suc-mul q b)), suc-mul q (up_to b)))
round looks rest k b s zero (suc zero) e h a ih z = rw (z (omega (arith, zero-mul b)) (next_start_of b s)) (omega arith)
round looks rest k b s (suc q) (suc zero) e h a ih z =
    rw (le-ltb (s + 1) b (omega arith)) (omega (arith, ih 0 q b (omega arith) (omega (arith, suc-mul q b)), suc-mul q (up_to b)))
round looks rest k b s q (suc (suc m)) e h a ih z =
    rw (lt-ltb (s + 1) b (omega arith)) (omega (arith, ih (s + 1) q (suc m) (omega arith) (omega arith)))

-- m starts from s = b - m on to the last bin, and q runs through all starts behind them
looks_rounds : (k l s : ℕ) (cs : List ℕ) (r q m : ℕ) → s + m ≡ length cs → k ≤ m + q * length cs → looks_from k l s cs r ≤ up_to m + q * up_to (length cs)
unfolding looks_from
looks_rounds zero l s cs r q m e h = omega arith
looks_rounds (suc k) l s cs zero q m e h = omega arith
looks_rounds (suc k) l s cs (suc r) q m e h =
    let w = walk l (max 1 (length cs / suc r)) s cs (suc r) in
    let n : length w.counts ≡ length cs = length_walk l (max 1 (length cs / suc r)) s cs (suc r) in
    let a : looks_in l (max 1 (length cs / suc r)) s cs (suc r) ≤ length cs - s = looks_few l (max 1 (length cs / suc r)) s cs (suc r) in
    let ih : (t p o : ℕ) → t + o ≡ length cs → k ≤ o + p * length cs → looks_from k l t w.counts w.rest ≤ up_to o + p * up_to (length cs) =
    λ t p o x y. rw n at (looks_rounds k l t w.counts w.rest p o (x ∙ sym n) (rw n y)) in
    round (looks_in l (max 1 (length cs / suc r)) s cs (suc r)) (λ t. looks_from k l t w.counts w.rest) k (length cs) s q m e h a ih (looks_zero k l w.counts w.rest)

-- "never more than r x B x (B + 1) / 2"
pub looks_most : (l : ℕ) (cs : List ℕ) (r : ℕ) → looks_from (r * length cs) l 0 cs r ≤ r * up_to (length cs)
unfolding looks_from
looks_most l cs zero = rw (zero-mul (length cs)) (omega arith)
looks_most l cs (suc r) = omega (arith, looks_rounds (suc r * length cs) l 0 cs (suc r) r (length cs) (omega arith) (omega (arith, suc-mul r (length cs))), suc-mul r (up_to (length cs)))

-- ---- numbers

-- twice 1 + 2 + .. + n is n x (n + 1)
pub up_to_twice : (n : ℕ) → 2 * up_to n ≡ n * (n + 1)
unfolding up_to
up_to_twice zero = refl
up_to_twice (suc n) = omega (arith, up_to_twice n, suc-mul n (suc n + 1), mul-add n (suc n) 1, mul-suc n n, mul-add n n 1, mul-one n)

-- so no tile takes more looks than this
pub looks_bound : (l : ℕ) (cs : List ℕ) (r : ℕ) → length cs ≤ 4096 → r ≤ 4194304 → looks_from (r * length cs) l 0 cs r ≤ 35192962023424
looks_bound l cs r few left =
    let more : length cs + 1 ≤ 4097 = omega arith in
    let a : length cs * (length cs + 1) ≤ 4096 * 4097 = mul-le-mul few more in
    let u : up_to (length cs) ≤ 8390656 = omega (arith, up_to_twice (length cs)) in
    let m : r * up_to (length cs) ≤ 4194304 * 8390656 = mul-le-mul left u in
    omega (arith, looks_most l cs r)

-- one bin more than a x step + b, of which each step-th is looked at
apart_more : (step a b : ℕ) → b < step → apart step (suc (a * step + b)) ≡ a + 1
apart_more step a b h =
    let e : suc (a * step + b) + (step - 1) ≡ suc a * step + b = omega (arith, suc-mul a step) in
    ap (λ k. k / step) e ∙ digits_div (suc a) h ∙ omega arith

-- b starts more than a x step
onward_row : (step a : ℕ) → onward step (a * step) ≡ step * up_to a → (b : ℕ) → b ≤ step → onward step (a * step + b) ≡ step * up_to a + b * (a + 1)
unfolding onward
onward_row step a e zero h =
    let z : a * step + 0 ≡ a * step = omega arith in
    ap (onward step) z ∙ omega (arith, e, zero-mul (a + 1))
onward_row step a e (suc b) h =
    let z : a * step + suc b ≡ suc (a * step + b) = omega arith in
    ap (onward step) z
    ∙ omega (arith, onward_row step a e b (omega arith), apart_more step a b h, suc-mul b (a + 1))

-- a x step starts
onward_rows : (step a : ℕ) → onward step (a * step) ≡ step * up_to a
unfolding onward up_to
onward_rows step zero = ap (onward step) (zero-mul step) ∙ sym (mul-zero step)
onward_rows step (suc a) =
    ap (onward step) (suc-mul a step)
    ∙ omega (arith, onward_row step a (onward_rows step a) step (le_refl step), mul-add step (up_to a) (suc a), mul-add step a 1, mul-suc step a, mul-one step)

-- a x step + b starts that find full bins only
pub onward_parts : (step a b : ℕ) → b ≤ step → onward step (a * step + b) ≡ step * up_to a + b * (a + 1)
onward_parts step a b h = onward_row step a (onward_rows step a) b h

-- ---- as the code works them out

-- no bin is behind the last
pub apart_none : (step b at : ℕ) → 0 < step → b ≤ at → 0 ≡ apart step (b - at)
apart_none step b at p h =
    let z : b - at + (step - 1) ≡ step - 1 = omega arith in
    sym (ap (λ k. k / step) z ∙ div-eq_of_lt (omega arith))

-- half of a x (a + 1)
up_to_half : (a : ℕ) → a * (a + 1) / 2 ≡ up_to a
up_to_half a = omega (arith, up_to_twice a)

-- the looks of n starts from the quotient and the remainder
pub onward_code : (step n : ℕ) → 0 < step → step * (n / step * (n / step + 1) / 2) + n % step * (n / step + 1) ≡ onward step n
onward_code step n p =
    ap (λ x. step * x + n % step * (n / step + 1)) (up_to_half (n / step))
    ∙ (sym (onward_parts step (n / step) (n % step) (le_of_lt (mod-lt n p))) ∙ ap (onward step) (div-add-mod' n step))

-- which are small
pub onward_room : (step n : ℕ) → step ≤ 4096 → n ≤ 4096
    → (n / step ≤ 4096) × (n / step * (n / step + 1) ≤ 16781312) × (step * (n / step * (n / step + 1) / 2) ≤ 34368126976) × (n % step * (n / step + 1) ≤ 16781312)
onward_room step n few most =
    let a : n / step ≤ 4096 = omega (arith, div-le_self n step) in
    let b : n % step ≤ 4096 = omega (arith, mod-le n step) in
    let more : n / step + 1 ≤ 4097 = omega arith in
    let square : n / step * (n / step + 1) ≤ 4096 * 4097 = mul-le-mul a more in
    let half : n / step * (n / step + 1) / 2 ≤ 8390656 = omega arith in
    let all : step * (n / step * (n / step + 1) / 2) ≤ 4096 * 8390656 = mul-le-mul few half in
    let rest : n % step * (n / step + 1) ≤ 4096 * 4097 = mul-le-mul b more in
    (a, omega arith, omega arith, omega arith)

-- where the next start finds a bin under the limit nothing is skipped
pub skipped_none : (b e s r : ℕ) → s + 1 < e → 0 ≡ skipped_of b e s r
skipped_none b e s r h = rw (lt-ltb (s + 1) e h) refl

-- else the starts up to the last bin
pub skipped_some : (b e s r : ℕ) {step n : ℕ} → e ≤ s + 1 → step ≡ max 1 (b / r) → n ≡ onward step (b - (s + 1)) → n ≡ skipped_of b e s r
skipped_some b e s r h q y = rw (le-ltb (s + 1) e h) (y ∙ ap (λ m. onward m (b - (s + 1))) q)
