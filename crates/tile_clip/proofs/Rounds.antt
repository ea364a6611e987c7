-- The loop of starts: how many starts are still due, and what a start leaves to do.
-- Assumes nothing.
use Prim.Native.Nat.{ℕ, zero, suc, ◌+◌, ◌-◌, ◌*◌, ◌/◌, ◌≤◌, ◌<◌, max}
use mathlib.Core.Bool.{cond}
use mathlib.Core.List.{List, [], ◌∷◌, ◌++◌}
use mathlib.Core.Logic.{◌⊎◌, inl, inr, ⊎_elim}
use mathlib.Core.Path.{◌≡◌, refl, sym, ap, ap₂, ◌∙◌}
use lib.Dec.{ltb}
use lib.ListN.{length, get_or, set, length-set}
use native.Mathlib.Nat.{le_of_suc-le-suc, not-suc-le-zero, le_refl, le_trans, suc-mul, mul-suc, one-mul, mul-zero, mul-le-mul_right}
use native.Mathlib.Omega.{arith}
use borrow.Author.Tests.{lt-ltb, le-ltb}
use Rattle.base_lists.specs.Lists.{total}
use Rattle.base_lists.proofs.Orders.{lt_or_ge}
use Rattle.base_lists.proofs.Totals.{turned, rested, length_turned, total_turned, turned_at, turned_next, turned_all}
use Rattle.tile_clip.specs.Clip.{walk, next_start_of, starts}
use Rattle.tile_clip.specs.Looks.{looks_in, looks_from}
use Rattle.tile_clip.proofs.Walks.{walk_done, walk_gain, walk_skip, length_walk, total_walk, walk_rest, walk_kept, walk_hands, walk_grows, walk_most}
use Rattle.tile_clip.proofs.Looked.{looks_done, looks_gain, looks_skip, looks_none_left, looks_one}

-- how many bins stand before the first one under the limit
unfoldable pub ahead : ℕ → List ℕ → ℕ
ahead l [] = 0
ahead l (c ∷ cs) = cond (ltb c l) 0 (suc (ahead l cs))

-- starts that are still due, at most: a round for each one that is left, and the bins before the first one under the limit
unfoldable pub due : ℕ → ℕ → List ℕ → ℕ → ℕ
due l s cs r = r * length cs + ahead l (turned s cs)

-- a list with room has a bin under the limit
ahead_lt : (l : ℕ) (cs : List ℕ) → total cs < l * length cs → ahead l cs < length cs
unfolding ahead total
ahead_lt l [] h = absurd (not-suc-le-zero (rw mul-zero at h))
ahead_lt l (c ∷ cs) h = go (ahead_lt l cs) (lt_or_ge c l)
  where
    go : (total cs < l * length cs → ahead l cs < length cs) → (c < l) ⊎ (l ≤ c) → cond (ltb c l) 0 (suc (ahead l cs)) < suc (length cs)
    go ih (inl u) = rw (lt-ltb c l u) (omega arith)
    go ih (inr u) = rw (le-ltb c l u) (omega (arith, ih (omega (arith, mul-suc l (length cs)))))

-- what stands behind the first bin under the limit does not count
ahead_append : (l : ℕ) (xs ys : List ℕ) → ahead l xs < length xs → ahead l (xs ++ ys) ≡ ahead l xs
unfolding ahead
ahead_append l [] ys h = absurd (not-suc-le-zero h)
ahead_append l (c ∷ cs) ys h = go (ahead_append l cs ys) (lt_or_ge c l) h
  where
    go : (ahead l cs < length cs → ahead l (cs ++ ys) ≡ ahead l cs) → (c < l) ⊎ (l ≤ c) → cond (ltb c l) 0 (suc (ahead l cs)) < suc (length cs)
        → cond (ltb c l) 0 (suc (ahead l (cs ++ ys))) ≡ cond (ltb c l) 0 (suc (ahead l cs))
    go ih (inl u) k = rw (lt-ltb c l u) refl
    go ih (inr u) k = rw (le-ltb c l u) (ap suc (ih (le_of_suc-le-suc (rw (le-ltb c l u) at k))))

-- a bin at the limit counts
ahead_over : (l c : ℕ) (cs : List ℕ) → l ≤ c → ahead l (c ∷ cs) ≡ suc (ahead l cs)
unfolding ahead
ahead_over l c cs u = rw (le-ltb c l u) refl

-- the same, of a turned list
ahead_room : (l s : ℕ) (cs : List ℕ) → total cs < l * length cs → ahead l (turned s cs) < length cs
ahead_room l s cs h = rw length_turned at (ahead_lt l (turned s cs) (rw (total_turned, length_turned) h))

-- a start whose own bin is at the limit brings the first one under the limit nearer by one
ahead_turn : (l s : ℕ) (cs : List ℕ) → s < length cs → l ≤ get_or cs s 0 → total cs < l * length cs
    → ahead l (turned s cs) ≡ suc (ahead l (turned (s + 1) cs))
ahead_turn l s cs h u room = e ∙ ap suc (sym f)
  where
    e : ahead l (turned s cs) ≡ suc (ahead l (rested s cs))
    e = ap (ahead l) (turned_at s cs h) ∙ ahead_over l (get_or cs s 0) (rested s cs) u

    n : suc (length (rested s cs)) ≡ length cs
    n = sym (ap length (turned_at s cs h)) ∙ length_turned s cs

    f : ahead l (turned (s + 1) cs) ≡ ahead l (rested s cs)
    f = ap (ahead l) (turned_next s cs h) ∙ ahead_append l (rested s cs) (get_or cs s 0 ∷ []) (omega (arith, e, n, ahead_room l s cs room))

-- the next start, turned: from 0 again behind the last
turned_start : (s : ℕ) (cs : List ℕ) → s < length cs → turned (next_start_of (length cs) s) cs ≡ turned (s + 1) cs
turned_start s cs h = go (lt_or_ge (s + 1) (length cs))
  where
    go : (s + 1 < length cs) ⊎ (length cs ≤ s + 1) → turned (next_start_of (length cs) s) cs ≡ turned (s + 1) cs
    go (inl u) = rw (lt-ltb (s + 1) (length cs) u) refl
    go (inr u) = rw (le-ltb (s + 1) (length cs) u) (sym (turned_all (s + 1) cs (omega arith)))

-- the next start is a bin
pub next_in : (b s : ℕ) → s < b → next_start_of b s < b
next_in b s h = go (lt_or_ge (s + 1) b)
  where
    go : (s + 1 < b) ⊎ (b ≤ s + 1) → next_start_of b s < b
    go (inl u) = rw (lt-ltb (s + 1) b u) u
    go (inr u) = rw (le-ltb (s + 1) b u) (omega arith)

-- each start leaves fewer due
pub due_less : (l s step : ℕ) (cs : List ℕ) (r : ℕ) (ds : List ℕ) (t : ℕ) → 0 < step → s < length cs → total cs + r ≤ l * length cs
    → walk l step s cs r ≡ record { counts = ds; rest = t } → 0 < t → due l (next_start_of (length cs) s) ds t < due l s cs r
unfolding due
due_less l s step cs r ds t p h room e q = go (lt_or_ge t r)
  where
    ec : (walk l step s cs r).counts ≡ ds
    ec = ap (λ w. w.counts) e

    er : (walk l step s cs r).rest ≡ t
    er = ap (λ w. w.rest) e

    n : length ds ≡ length cs
    n = ap length (sym ec) ∙ length_walk l step s cs r

    sum : total ds + t ≡ total cs + r
    sum = ap₂ (λ x y. total x + y) (sym ec) (sym er) ∙ total_walk l step s cs r

    fewer : t < r → t * length ds + ahead l (turned (next_start_of (length cs) s) ds) < r * length cs + ahead l (turned s cs)
    fewer u =
        let m : suc t * length cs ≤ r * length cs = mul-le-mul_right (length cs) u in
        let a : ahead l (turned (next_start_of (length cs) s) ds) < length ds = ahead_room l (next_start_of (length cs) s) ds (rw n (omega (arith, sum))) in
        let z : t * length ds ≡ t * length cs = ap (λ k. t * k) n in
        omega (arith, suc-mul t (length cs), n)

    full : r ≤ t → l ≤ get_or cs s 0
    full u = ⊎_elim (λ k. absurd (gains (r - 1) (omega (arith, er, walk_rest l step s cs r)) k)) (λ k. k) (lt_or_ge (get_or cs s 0) l)
      where
        gains : (m : ℕ) → r ≡ suc m → get_or cs s 0 < l → ⊥
        gains m z k =
            let w : (walk l step s cs (suc m)).rest ≤ m = walk_hands l step s cs m p h k in
            let v : (walk l step s cs r).rest ≤ m = rw z w in
            omega (arith, er)

    same : r ≤ t → t * length ds + ahead l (turned (next_start_of (length cs) s) ds) < r * length cs + ahead l (turned s cs)
    same u =
        let k : (walk l step s cs r).counts ≡ cs = walk_kept l step s cs r (rw er u) in
        let d : ds ≡ cs = sym ec ∙ k in
        let y : t ≡ r = omega (arith, er, walk_rest l step s cs r) in
        let a : ahead l (turned s cs) ≡ suc (ahead l (turned (s + 1) cs)) = ahead_turn l s cs h (full u) (omega arith) in
        rw (d, y, turned_start s cs h) (omega arith)

    go : (t < r) ⊎ (r ≤ t) → t * length ds + ahead l (turned (next_start_of (length cs) s) ds) < r * length cs + ahead l (turned s cs)
    go (inl u) = fewer u
    go (inr u) = same u

-- where something is left a round is due
due_many : (l s : ℕ) (cs : List ℕ) (r : ℕ) → 0 < r → due l s cs r < 0 + length cs → ⊥
unfolding due
due_many l s cs r p h = let m : 1 * length cs ≤ r * length cs = mul-le-mul_right (length cs) p in omega (arith, one-mul (length cs))

-- from any start r times B starts are enough
due_most : (l s : ℕ) (cs : List ℕ) (r : ℕ) → total cs + r ≤ l * length cs → 0 < r → due l s cs r < r * length cs + length cs
unfolding due
due_most l s cs r room p = omega (arith, ahead_room l s cs (omega arith))

-- ---- starts

-- where nothing is left no start changes anything
pub starts_none : (k l s : ℕ) (cs : List ℕ) → starts k l s cs 0 ≡ cs
unfolding starts
starts_none zero l s cs = refl
starts_none (suc k) l s cs = refl

-- one start: its walk, and the starts behind it
pub starts_one : (k l s : ℕ) (cs : List ℕ) (r step : ℕ) (ds : List ℕ) (t : ℕ) → 0 < r → step ≡ max 1 (length cs / r)
    → walk l step s cs r ≡ record { counts = ds; rest = t } → starts (suc k) l s cs r ≡ starts k l (next_start_of (length cs) s) ds t
unfolding starts
starts_one k l s cs zero step ds t p q e = absurd (not-suc-le-zero p)
starts_one k l s cs (suc r) step ds t p q e =
    ap (λ m. starts k l (next_start_of (length cs) s) (walk l m s cs (suc r)).counts (walk l m s cs (suc r)).rest) (sym q)
    ∙ ap (λ w. starts k l (next_start_of (length cs) s) w.counts w.rest) e

-- the starts, as a whole
pub length_starts : (k l s : ℕ) (cs : List ℕ) (r : ℕ) → length (starts k l s cs r) ≡ length cs
unfolding starts
length_starts zero l s cs r = refl
length_starts (suc k) l s cs zero = refl
length_starts (suc k) l s cs (suc r) =
    let m = max 1 (length cs / suc r) in
    let w = walk l m s cs (suc r) in
    length_starts k l (next_start_of (length cs) s) w.counts w.rest ∙ length_walk l m s cs (suc r)

-- starts bring no bin above the limit
pub starts_most : (k l s : ℕ) (cs : List ℕ) (r i : ℕ) → get_or cs i 0 ≤ l → get_or (starts k l s cs r) i 0 ≤ l
unfolding starts
starts_most zero l s cs r i h = h
starts_most (suc k) l s cs zero i h = h
starts_most (suc k) l s cs (suc r) i h =
    let m = max 1 (length cs / suc r) in
    let w = walk l m s cs (suc r) in
    starts_most k l (next_start_of (length cs) s) w.counts w.rest i (walk_most l m s cs (suc r) i h)

-- starts take nothing back
pub starts_grows : (k l s : ℕ) (cs : List ℕ) (r i : ℕ) → get_or cs i 0 ≤ get_or (starts k l s cs r) i 0
unfolding starts
starts_grows zero l s cs r i = le_refl (get_or cs i 0)
starts_grows (suc k) l s cs zero i = le_refl (get_or cs i 0)
starts_grows (suc k) l s cs (suc r) i =
    let m = max 1 (length cs / suc r) in
    let w = walk l m s cs (suc r) in
    le_trans (walk_grows l m s cs (suc r) i) (starts_grows k l (next_start_of (length cs) s) w.counts w.rest i)

-- starts enough hand out all that is left
total_starts : (k l s : ℕ) (cs : List ℕ) (r : ℕ) → s < length cs → total cs + r ≤ l * length cs → (0 < r → due l s cs r < k + length cs)
    → total (starts k l s cs r) ≡ total cs + r
unfolding starts
total_starts zero l s cs r h room enough = go (lt_or_ge 0 r)
  where
    go : (0 < r) ⊎ (r ≤ 0) → total cs ≡ total cs + r
    go (inl p) = absurd (due_many l s cs r p (enough p))
    go (inr z) = omega arith
total_starts (suc k) l s cs zero h room enough = omega arith
total_starts (suc k) l s cs (suc r) h room enough =
    let m = max 1 (length cs / suc r) in
    let w = walk l m s cs (suc r) in
    let u = next_start_of (length cs) s in
    let p : 0 < m = omega arith in
    let n : length w.counts ≡ length cs = length_walk l m s cs (suc r) in
    let t : total w.counts + w.rest ≡ total cs + suc r = total_walk l m s cs (suc r) in
    let e : 0 < w.rest → due l u w.counts w.rest < k + length w.counts =
    λ q. omega (arith, due_less l s m cs (suc r) w.counts w.rest p h room refl q, enough (omega arith)) in
    total_starts k l u w.counts w.rest (rw n (next_in (length cs) s h)) (rw n (omega arith)) e ∙ t

-- r times B starts are enough
pub total_all_starts : (l : ℕ) (cs : List ℕ) (r : ℕ) → 0 < length cs → total cs + r ≤ l * length cs
    → total (starts (r * length cs) l 0 cs r) ≡ total cs + r
total_all_starts l cs r h room = total_starts (r * length cs) l 0 cs r h room (due_most l 0 cs r room)

-- how many starts may still come is all one where they are enough, for the bins and for the looks
alike : (k j l s : ℕ) (cs : List ℕ) (r : ℕ) → s < length cs → total cs + r ≤ l * length cs → (0 < r → due l s cs r < k + length cs)
    → (0 < r → due l s cs r < j + length cs) → (starts k l s cs r ≡ starts j l s cs r) × (looks_from k l s cs r ≡ looks_from j l s cs r)
unfolding starts looks_from
alike zero j l s cs r h room e f = go (lt_or_ge 0 r)
  where
    go : (0 < r) ⊎ (r ≤ 0) → (cs ≡ starts j l s cs r) × (0 ≡ looks_from j l s cs r)
    go (inl p) = absurd (due_many l s cs r p (e p))
    go (inr z) =
        let q : r ≡ 0 = omega arith in
        (sym (ap (starts j l s cs) q ∙ starts_none j l s cs), sym (ap (looks_from j l s cs) q ∙ looks_none_left j l s cs))
alike (suc k) zero l s cs zero h room e f = (refl, refl)
alike (suc k) zero l s cs (suc r) h room e f = absurd (due_many l s cs (suc r) (omega arith) (f (omega arith)))
alike (suc k) (suc j) l s cs zero h room e f = (refl, refl)
alike (suc k) (suc j) l s cs (suc r) h room e f =
    let m = max 1 (length cs / suc r) in
    let w = walk l m s cs (suc r) in
    let n : length w.counts ≡ length cs = length_walk l m s cs (suc r) in
    let t : total w.counts + w.rest ≡ total cs + suc r = total_walk l m s cs (suc r) in
    let d : 0 < w.rest → due l (next_start_of (length cs) s) w.counts w.rest < due l s cs (suc r) =
    due_less l s m cs (suc r) w.counts w.rest (omega arith) h room refl in
    let a = alike k j l (next_start_of (length cs) s) w.counts w.rest (rw n (next_in (length cs) s h)) (rw n (omega arith))
    (λ q. omega (arith, d q, e (omega arith)))
    (λ q. omega (arith, d q, f (omega arith))) in
    (a.0, ap (λ x. looks_in l m s cs (suc r) + x) a.1)

-- ---- what the loop of starts keeps

-- what is still to be done from the start s on is all that is to be done, the looks taken and those still to come are all looks, and starts enough may still come
pub record Starting (l : ℕ) (all : List ℕ) (looks s : ℕ) (cs : List ℕ) (r taken : ℕ) : Type 0 where
  pub fuel : ℕ
  pub same : starts fuel l s cs r ≡ all
  pub looked : taken + looks_from fuel l s cs r ≡ looks
  pub enough : 0 < r → due l s cs r < fuel + length cs
  pub room : total cs + r ≤ l * length cs
  pub bin : s < length cs

-- what the walk of a start keeps: what is still to be done from the place `at` on is what was to be done at the start, for the bins and for the looks
pub record Walking (l step s : ℕ) (first : List ℕ) (before at : ℕ) (cs : List ℕ) (r taken₀ taken : ℕ) : Type 0 where
  pub same : walk l step at cs r ≡ walk l step s first before
  pub looked : taken + looks_in l step at cs r ≡ taken₀ + looks_in l step s first before
  pub some : 0 < r
  pub long : length cs ≡ length first

-- before the first start
pub starting_first : (l s : ℕ) (cs : List ℕ) (r taken : ℕ) → s < length cs → total cs + r ≤ l * length cs
    → Starting l (starts (r * length cs) l s cs r) (taken + looks_from (r * length cs) l s cs r) s cs r taken
starting_first l s cs r taken h room =
    record { fuel = r * length cs; same = refl; looked = refl; enough = due_most l s cs r room; room = room; bin = h }

-- wherever the starts stand, r times B more do what is to be done
pub starting_here : {l : ℕ} {all : List ℕ} {looks s : ℕ} {cs : List ℕ} {r taken : ℕ} → Starting l all looks s cs r taken
    → (starts (r * length cs) l s cs r ≡ all) × (taken + looks_from (r * length cs) l s cs r ≡ looks)
starting_here {l} {all} {looks} {s} {cs} {r} {taken} i =
    let a = alike (r * length cs) i.fuel l s cs r i.bin i.room (due_most l s cs r i.room) i.enough in
    (a.0 ∙ i.same, ap (λ x. taken + x) a.1 ∙ i.looked)

-- where nothing is left the starts are over
pub starting_end : {l : ℕ} {all : List ℕ} {looks s : ℕ} {cs : List ℕ} {r taken : ℕ} → Starting l all looks s cs r taken → r ≤ 0
    → (cs ≡ all) × (taken ≡ looks)
starting_end {l} {all} {looks} {s} {cs} {r} {taken} i z =
    let e : r ≡ 0 = omega arith in
    let n : looks_from i.fuel l s cs r ≡ 0 = ap (looks_from i.fuel l s cs) e ∙ looks_none_left i.fuel l s cs in
    (sym (ap (starts i.fuel l s cs) e ∙ starts_none i.fuel l s cs) ∙ i.same, omega (arith, n, i.looked))

-- where something is left a start may still come
some_fuel : {l : ℕ} {all : List ℕ} {looks s : ℕ} {cs : List ℕ} {r taken : ℕ} (i : Starting l all looks s cs r taken) → 0 < r → i.fuel ≡ suc (i.fuel - 1)
unfolding due
some_fuel {l} {all} {looks} {s} {cs} {r} i p =
    let m : 1 * length cs ≤ r * length cs = mul-le-mul_right (length cs) p in
    omega (arith, i.enough p, one-mul (length cs))

-- the looks of a start, and those behind it
start_looked : {l : ℕ} {all : List ℕ} {looks s : ℕ} {cs : List ℕ} {r taken : ℕ} (step : ℕ) {ds : List ℕ} {t : ℕ} (i : Starting l all looks s cs r taken)
    → 0 < r → step ≡ max 1 (length cs / r) → walk l step s cs r ≡ record { counts = ds; rest = t }
    → taken + looks_in l step s cs r + looks_from (i.fuel - 1) l (next_start_of (length cs) s) ds t ≡ looks
start_looked {l} {all} {looks} {s} {cs} {r} {taken} step {ds} {t} i p q e =
    let f : looks_from i.fuel l s cs r ≡ looks_in l step s cs r + looks_from (i.fuel - 1) l (next_start_of (length cs) s) ds t =
    ap (λ k. looks_from k l s cs r) (some_fuel i p) ∙ looks_one (i.fuel - 1) l s cs r step ds t p q e in
    omega (arith, f, i.looked)

-- so many are taken when its walk is over, as the code has it
pub start_looks : {l : ℕ} {all : List ℕ} {looks s : ℕ} {cs : List ℕ} {r taken step : ℕ} (b : ℕ) → Starting l all looks s cs r taken
    → b ≡ length cs → 0 < r → step ≡ max 1 (b / r) → taken + looks_in l step s cs r ≤ looks
start_looks {r = r} {step = step} b i n p q = omega (arith, start_looked step i p (q ∙ ap (λ k. max 1 (k / r)) n) refl)

-- a start whose walk ends with something left
pub starting_next : {l : ℕ} {all : List ℕ} {looks s : ℕ} {cs : List ℕ} {r taken : ℕ} (step : ℕ) {ds : List ℕ} {t : ℕ} → Starting l all looks s cs r taken
    → 0 < r → 0 < step → step ≡ max 1 (length cs / r) → walk l step s cs r ≡ record { counts = ds; rest = t } → 0 < t
    → Starting l all looks (next_start_of (length cs) s) ds t (taken + looks_in l step s cs r)
starting_next {l} {all} {looks} {s} {cs} {r} {taken} step {ds} {t} i p o q e z =
    record {
      fuel = i.fuel - 1;
      same =
          sym (starts_one (i.fuel - 1) l s cs r step ds t p q e) ∙ (ap (λ k. starts k l s cs r) (sym (some_fuel i p)) ∙ i.same);
      looked = start_looked step i p q e;
      enough = λ y. omega (arith, i.enough p, some_fuel i p, due_less l s step cs r ds t o i.bin i.room e z, n);
      room = rw n (omega (arith, sum, i.room));
      bin = rw n (next_in (length cs) s i.bin);
    }
  where
    n : length ds ≡ length cs
    n = ap (λ w. length w.counts) (sym e) ∙ length_walk l step s cs r

    sum : total ds + t ≡ total cs + r
    sum = ap (λ w. total w.counts + w.rest) (sym e) ∙ total_walk l step s cs r

-- a start whose walk ends with nothing left
starting_stop : {l : ℕ} {all : List ℕ} {looks s : ℕ} {cs : List ℕ} {r taken : ℕ} (step : ℕ) {ds : List ℕ} → Starting l all looks s cs r taken → 0 < r
    → step ≡ max 1 (length cs / r) → walk l step s cs r ≡ record { counts = ds; rest = 0 } → (ds ≡ all) × (taken + looks_in l step s cs r ≡ looks)
starting_stop {l} {all} {looks} {s} {cs} {r} {taken} step {ds} i p q e = (
  sym (starts_one (i.fuel - 1) l s cs r step ds 0 p q e ∙ starts_none (i.fuel - 1) l (next_start_of (length cs) s) ds)
      ∙ (ap (λ k. starts k l s cs r) (sym (some_fuel i p)) ∙ i.same),
  omega (arith, start_looked step i p q e, looks_none_left (i.fuel - 1) l (next_start_of (length cs) s) ds),
)

-- the walk of a start hands out the last one, as the code has it: the number of bins and the looks are numbers of their own
pub turn_stop : {l : ℕ} {all : List ℕ} {looks s : ℕ} {cs : List ℕ} {r taken : ℕ} {step : ℕ} {ds : List ℕ} {n : ℕ} (b : ℕ) → Starting l all looks s cs r taken
    → b ≡ length cs → 0 < r → step ≡ max 1 (b / r) → walk l step s cs r ≡ record { counts = ds; rest = 0 } → n ≡ taken + looks_in l step s cs r
    → (ds ≡ all) × (n ≡ looks)
turn_stop {r = r} {step = step} b i n p q e y = let x = starting_stop step i p (q ∙ ap (λ k. max 1 (k / r)) n) e in (x.0, y ∙ x.1)

-- ---- what the walk of a start keeps

-- before the first bin
pub walking_first : (l step s : ℕ) (cs : List ℕ) (r taken : ℕ) → 0 < r → Walking l step s cs r s cs r taken taken
walking_first l step s cs r taken p = record { same = refl; looked = refl; some = p; long = refl }

-- the bin at the place is under the limit
walk_took : {l step s : ℕ} {first : List ℕ} {before at : ℕ} {cs : List ℕ} {r taken₀ taken : ℕ} → Walking l step s first before at cs r taken₀ taken → 0 < step
    → at < length cs → get_or cs at 0 < l → walk l step (at + step) (set cs at (get_or cs at 0 + 1)) (r - 1) ≡ walk l step s first before
walk_took {l} {step} {s} {first} {before} {at} {cs} {r} i o h u =
    let e : r ≡ suc (r - 1) = omega (arith, i.some) in
    sym (ap (walk l step at cs) e ∙ walk_gain l step at cs (r - 1) o h u) ∙ i.same

-- and was looked at
looks_took : {l step s : ℕ} {first : List ℕ} {before at : ℕ} {cs : List ℕ} {r taken₀ taken : ℕ} → Walking l step s first before at cs r taken₀ taken → 0 < step
    → at < length cs → get_or cs at 0 < l
    → taken + 1 + looks_in l step (at + step) (set cs at (get_or cs at 0 + 1)) (r - 1) ≡ taken₀ + looks_in l step s first before
looks_took {l} {step} {s} {first} {before} {at} {cs} {r} i o h u =
    let e : r ≡ suc (r - 1) = omega (arith, i.some) in
    let f : looks_in l step at cs r ≡ suc (looks_in l step (at + step) (set cs at (get_or cs at 0 + 1)) (r - 1)) =
    ap (looks_in l step at cs) e ∙ looks_gain l step at cs (r - 1) o h u in
    omega (arith, f, i.looked)

-- a bin gained one
pub walking_gain : {l step s : ℕ} {first : List ℕ} {before at : ℕ} {cs : List ℕ} {r taken₀ taken : ℕ} {ds : List ℕ} {t n : ℕ}
    → Walking l step s first before at cs r taken₀ taken → 0 < step → at < length cs → get_or cs at 0 < l → ds ≡ set cs at (get_or cs at 0 + 1) → t ≡ r - 1 → 0 < t
    → n ≡ taken + 1 → Walking l step s first before (at + step) ds t taken₀ n
walking_gain {l} {step} {s} {first} {before} {at} {cs} {r} {taken₀} {taken} {ds} {t} {n} i o h u d e z y =
    record {
      same = ap₂ (walk l step (at + step)) d e ∙ walk_took i o h u;
      looked = omega (arith, ap₂ (looks_in l step (at + step)) d e, looks_took i o h u);
      some = z;
      long = ap length d ∙ (length-set cs at (get_or cs at 0 + 1) ∙ i.long);
    }

-- a bin at the limit was looked at
pub walking_skip : {l step s : ℕ} {first : List ℕ} {before at : ℕ} {cs : List ℕ} {r taken₀ taken : ℕ} {ds : List ℕ} {t n : ℕ}
    → Walking l step s first before at cs r taken₀ taken → 0 < step → at < length cs → l ≤ get_or cs at 0 → ds ≡ cs → t ≡ r
    → n ≡ taken + 1 → Walking l step s first before (at + step) ds t taken₀ n
walking_skip {l} {step} {s} {first} {before} {at} {cs} {r} {taken₀} {taken} {ds} {t} {n} i o h u d e y =
    let f : r ≡ suc (r - 1) = omega (arith, i.some) in
    let g : walk l step at cs r ≡ walk l step (at + step) cs r =
    ap (walk l step at cs) f ∙ (walk_skip l step at cs (r - 1) o h u ∙ ap (walk l step (at + step) cs) (sym f)) in
    let k : looks_in l step at cs r ≡ suc (looks_in l step (at + step) cs r) =
    ap (looks_in l step at cs) f ∙ (looks_skip l step at cs (r - 1) o h u ∙ ap (λ x. suc (looks_in l step (at + step) cs x)) (sym f)) in
    record {
      same = ap₂ (walk l step (at + step)) d e ∙ (sym g ∙ i.same);
      looked = omega (arith, ap₂ (looks_in l step (at + step)) d e, k, i.looked);
      some = omega (arith, i.some);
      long = ap length d ∙ i.long;
    }

-- the walk is over the moment nothing is left
pub walking_stop : {l step s : ℕ} {first : List ℕ} {before at : ℕ} {cs : List ℕ} {r taken₀ taken : ℕ} → Walking l step s first before at cs r taken₀ taken → 0 < step
    → at < length cs → get_or cs at 0 < l → r - 1 ≡ 0 → walk l step s first before ≡ record { counts = set cs at (get_or cs at 0 + 1); rest = 0 }
walking_stop {l} {step} {s} {first} {before} {at} {cs} {r} i o h u z =
    sym (walk_took i o h u)
    ∙ (ap (walk l step (at + step) (set cs at (get_or cs at 0 + 1))) z ∙ walk_done l step (at + step) (set cs at (get_or cs at 0 + 1)))

-- and its last look is taken
pub looking_stop : {l step s : ℕ} {first : List ℕ} {before at : ℕ} {cs : List ℕ} {r taken₀ taken : ℕ} → Walking l step s first before at cs r taken₀ taken → 0 < step
    → at < length cs → get_or cs at 0 < l → r - 1 ≡ 0 → taken + 1 ≡ taken₀ + looks_in l step s first before
looking_stop {l} {step} {s} {first} {before} {at} {cs} {r} i o h u z =
    let n : looks_in l step (at + step) (set cs at (get_or cs at 0 + 1)) (r - 1) ≡ 0 =
    ap (looks_in l step (at + step) (set cs at (get_or cs at 0 + 1))) z ∙ looks_done l step (at + step) (set cs at (get_or cs at 0 + 1)) in
    omega (arith, n, looks_took i o h u)
