-- Full bins at the end: no walk changes anything behind the last bin under the limit, and no start from there on does.
-- Assumes nothing.
use Prim.Native.Nat.{ℕ, zero, suc, ◌+◌, ◌-◌, ◌/◌, ◌≤◌, ◌<◌, max}
use mathlib.Core.List.{List}
use mathlib.Core.Logic.{◌⊎◌, inl, inr}
use mathlib.Core.Path.{◌≡◌, refl, sym, ap, subst, subst₂, ◌∙◌}
use lib.ListN.{length, length-set, get_or, set}
use lib.Seq.{get_or-set_other}
use native.Mathlib.Omega.{arith}
use borrow.Author.Tests.{lt-ltb, le-ltb}
use Rattle.base_lists.proofs.Orders.{lt_or_ge}
use Rattle.tile_clip.specs.Clip.{walk, next_start_of}
use Rattle.tile_clip.specs.Looks.{looks_in, apart, onward, skipped_of}
use Rattle.tile_clip.specs.Asks.{Shut}
use Rattle.tile_clip.proofs.Walks.{walk_full}
use Rattle.tile_clip.proofs.Looked.{looks_full}
use Rattle.tile_clip.proofs.Rounds.{due, due_less, Starting, Walking, starting_next}

-- ---- the next start

-- a start u with counts ds, t left and n looks taken may come behind the start s with counts cs and r left: what is still to be done is the same, and fewer are due
pub record Onward (l : ℕ) (all : List ℕ) (looks s : ℕ) (cs : List ℕ) (r u : ℕ) (ds : List ℕ) (t n : ℕ) : Type 0 where
  pub start : Starting l all looks u ds t n
  pub fewer : due l u ds t < due l s cs r

-- a start whose walk ends with something left, and the next one of all bins
onward_next : {l : ℕ} {all : List ℕ} {looks s : ℕ} {cs : List ℕ} {r taken : ℕ} (step : ℕ) {ds : List ℕ} {t : ℕ} → Starting l all looks s cs r taken
    → 0 < r → 0 < step → step ≡ max 1 (length cs / r) → walk l step s cs r ≡ record { counts = ds; rest = t } → 0 < t
    → Onward l all looks s cs r (next_start_of (length cs) s) ds t (taken + looks_in l step s cs r)
onward_next {l} {s = s} {cs = cs} {r = r} step {ds} {t} i p o q w z =
    record { start = starting_next step i p o q w z; fewer = due_less l s step cs r ds t o i.bin i.room w z }

-- where all bins behind v are full, the starts behind v leave everything to bin 0, and take their looks
onward_zero : (d v : ℕ) {l : ℕ} {all : List ℕ} {looks s : ℕ} {cs : List ℕ} {r : ℕ} {ds : List ℕ} {t n : ℕ} → v + suc d ≡ length ds → 0 < t
    → ((i : ℕ) → v < i → i < length ds → l ≤ get_or ds i 0) → Onward l all looks s cs r (next_start_of (length ds) v) ds t n
    → Onward l all looks s cs r 0 ds t (n + onward (max 1 (length ds / t)) d)
unfolding onward
onward_zero zero v {l} {all} {looks} {s} {cs} {r} {ds} {t} {n} e p f i =
    let z : next_start_of (length ds) v ≡ 0 = rw (le-ltb (v + 1) (length ds) (omega arith)) refl in
    let y : n ≡ n + 0 = omega arith in
    subst₂ (λ k x. Onward l all looks s cs r k ds t x) z y i
onward_zero (suc d) v {l} {all} {looks} {s} {cs} {r} {ds} {t} {n} e p f i =
    let z : next_start_of (length ds) v ≡ suc v = rw (lt-ltb (v + 1) (length ds) (omega arith)) (omega arith) in
    let a : Onward l all looks s cs r (suc v) ds t n = subst (λ k. Onward l all looks s cs r k ds t n) z i in
    let m = max 1 (length ds / t) in
    let b = onward_next m a.start p (omega arith) refl (walk_full l m (suc v) ds t f) p in
    let g : length ds - suc v ≡ suc d = omega arith in
    let k : looks_in l m (suc v) ds t ≡ apart m (suc d) = looks_full l m (suc v) ds t (omega arith) p f ∙ ap (apart m) g in
    let x : n + looks_in l m (suc v) ds t + onward m d ≡ n + (onward m d + apart m (suc d)) = omega (arith, k) in
    subst (Onward l all looks s cs r 0 ds t) x
    (onward_zero d (suc v) (omega arith) p (λ j h k. f j (omega arith) k) (record { start = b.start; fewer = omega (arith, a.fewer, b.fewer) }))

-- a start, and then the next one of those before the end, as the code has it: the number of bins, the next start and the looks are numbers of their own
pub onward_open : {l : ℕ} {all : List ℕ} {looks s : ℕ} {cs : List ℕ} {r taken : ℕ} {step : ℕ} {ds : List ℕ} {t : ℕ} (b e u n : ℕ)
    → Starting l all looks s cs r taken → b ≡ length cs → length ds ≡ length cs → 0 < r → 0 < step → step ≡ max 1 (b / r)
    → walk l step s cs r ≡ record { counts = ds; rest = t } → 0 < t → Shut l e ds → u ≡ next_start_of e s
    → n ≡ taken + looks_in l step s cs r + skipped_of b e s t
    → Onward l all looks s cs r u ds t n
onward_open {l} {all} {looks} {s} {cs} {r} {taken} {step} {ds} {t} b e u n i q m p o st w z h v y =
    subst₂ (λ k x. Onward l all looks s cs r k ds t x) (sym v) (sym y) (go (lt_or_ge (s + 1) e))
  where
    so : ℕ
    so = taken + looks_in l step s cs r

    a : Onward l all looks s cs r (next_start_of (length ds) s) ds t so
    a = rw m (onward_next step i p o (st ∙ ap (λ k. max 1 (k / r)) q) w z)

    go : (s + 1 < e) ⊎ (e ≤ s + 1) → Onward l all looks s cs r (next_start_of e s) ds t (so + skipped_of b e s t)
    go (inl x) =
        let f : next_start_of (length ds) s ≡ next_start_of e s = rw (lt-ltb (s + 1) (length ds) (omega (arith, h.within)), lt-ltb (s + 1) e x) refl in
        let k : so ≡ so + skipped_of b e s t = rw (lt-ltb (s + 1) e x) (omega arith) in
        subst₂ (λ k x. Onward l all looks s cs r k ds t x) f k a
    go (inr x) =
        let g : 0 ≡ next_start_of e s = rw (le-ltb (s + 1) e x) refl in
        let d : length ds ≡ b = m ∙ sym q in
        let k : so + onward (max 1 (length ds / t)) (length ds - (s + 1)) ≡ so + skipped_of b e s t = rw (le-ltb (s + 1) e x, d) refl in
        subst₂ (λ k x. Onward l all looks s cs r k ds t x) g k
        (onward_zero (length ds - (s + 1)) s (omega (arith, i.bin)) z (λ k hk hl. h.full k (omega arith) hl) a)

-- ---- the end

-- the walk is over behind the last bin under the limit
pub walking_shut : {l step s : ℕ} {first : List ℕ} {before at : ℕ} {cs : List ℕ} {r taken₀ taken e : ℕ} → Walking l step s first before at cs r taken₀ taken → Shut l e cs
    → e ≤ at → walk l step s first before ≡ record { counts = cs; rest = r }
walking_shut {l} {step} {s} {first} {before} {at} {cs} {r} i h k = sym i.same ∙ walk_full l step at cs r (λ j a b. h.full j (omega arith) b)

-- and looks at the full bins from there on, as the code has it
pub looking_shut : {l step s : ℕ} {first : List ℕ} {before at : ℕ} {cs : List ℕ} {r taken₀ taken e : ℕ} (b n : ℕ) → Walking l step s first before at cs r taken₀ taken
    → 0 < step → b ≡ length cs → Shut l e cs → e ≤ at → n ≡ taken + apart step (b - at) → n ≡ taken₀ + looks_in l step s first before
looking_shut {l} {step} {s} {first} {before} {at} {cs} {r} {taken₀} {taken} b n i o q h k y =
    let f : looks_in l step at cs r ≡ apart step (b - at) = looks_full l step at cs r o i.some (λ j a c. h.full j (omega arith) c) ∙ ap (λ x. apart step (x - at)) (sym q) in
    y ∙ (ap (λ x. taken + x) (sym f) ∙ i.looked)

-- a start whose walk came to the end, and then the next one: n looks of the walk are at bins from there on, and m are those of the starts that are skipped
pub onward_walked : {l : ℕ} {all : List ℕ} {looks s : ℕ} {cs : List ℕ} {r taken : ℕ} {step at : ℕ} {ds : List ℕ} {t k e f n m u : ℕ} (b : ℕ)
    → Starting l all looks s cs r taken → Walking l step s cs r at ds t taken k → b ≡ length cs → 0 < r → 0 < step → step ≡ max 1 (b / r)
    → Shut l e ds → e ≤ at → n ≡ apart step (b - at) → Shut l f ds → m ≡ skipped_of b f s t → u ≡ next_start_of f s → Onward l all looks s cs r u ds t (k + n + m)
onward_walked {k = k} {f = f} {n = n} {m = m} {u = u} b i w q p o st h past en g em v =
    let x = looking_shut b (k + n) w o (q ∙ sym w.long) h past (ap (λ y. k + y) en) in
    onward_open b f u (k + n + m) i q w.long p o st (walking_shut w h past) w.some g v (omega (arith, x, em))

-- at first it is the end of the bins
pub shut_first : (l : ℕ) (cs : List ℕ) → Shut l (length cs) cs
shut_first l cs = record { full = λ i h k. absurd (omega arith); within = omega arith }

-- a full bin before the end
pub shut_less : {l e : ℕ} {cs : List ℕ} → Shut l e cs → l ≤ get_or cs (e - 1) 0 → Shut l (e - 1) cs
shut_less {l} {e} {cs} h u = record { full = full; within = omega (arith, h.within) }
  where
    full : (i : ℕ) → e - 1 ≤ i → i < length cs → l ≤ get_or cs i 0
    full i a b = go (lt_or_ge i e)
      where
        go : (i < e) ⊎ (e ≤ i) → l ≤ get_or cs i 0
        go (inl x) = let z : i ≡ e - 1 = omega arith in rw z u
        go (inr x) = h.full i x b

-- a bin before the end gained one
pub shut_set : {l e : ℕ} {cs ds : List ℕ} (at v : ℕ) → Shut l e cs → at < e → ds ≡ set cs at v → Shut l e ds
shut_set {l} {e} {cs} {ds} at v h p d =
    let n : length ds ≡ length cs = ap length d ∙ length-set cs at v in
    record {
      full =
          λ i a b.
          let o : get_or ds i 0 ≡ get_or cs i 0 = ap (λ x. get_or x i 0) d ∙ get_or-set_other cs at i v 0 (λ z. absurd (omega arith)) in
          rw o (h.full i a (omega arith));
      within = omega (arith, h.within);
    }

-- bins that stay keep their end
pub shut_same : {l e : ℕ} {cs ds : List ℕ} → Shut l e cs → ds ≡ cs → Shut l e ds
shut_same {l} {e} h d = subst (Shut l e) (sym d) h
