-- A start that finds more left than there are bins: its step is 1 and nothing runs out on the way, so that its walk is one pass.
-- Assumes nothing.
use Prim.Native.Nat.{ℕ, zero, suc, ◌+◌, ◌-◌, ◌/◌, ◌≤◌, ◌<◌, max}
use mathlib.Core.List.{List, [], ◌∷◌, ◌++◌, map}
use mathlib.Core.Logic.{◌⊎◌, inl, inr}
use mathlib.Core.Path.{◌≡◌, refl, sym, ap, ap₂, ◌∙◌}
use lib.ListN.{length, length-take, length-drop, get_or, take, drop}
use lib.Seq.{length-take-le, get_or-drop}
use native.Mathlib.Nat.{not-suc-le-zero, le_of_suc-le-suc, div-eq_of_lt}
use native.Mathlib.Omega.{arith}
use borrow.Author.Tests.{lt-ltb, le-ltb}
use borrow.Rule.Slice.PartMut.{put_mid, put_same}
use Rattle.base_lists.specs.Lists.{total}
use Rattle.base_lists.proofs.Orders.{lt_or_ge}
use Rattle.tile_clip.specs.Clip.{behind, walk, next_start_of}
use Rattle.tile_clip.specs.Looks.{looks_in, skipped_of}
use Rattle.tile_clip.specs.Asks.{Shut, gain, gained, Raised}
use Rattle.tile_clip.proofs.Walks.{walk_pass, walk_under, walk_over, walk_full, length_walk, walk_grows}
use Rattle.tile_clip.proofs.Looked.{looks_all}
use Rattle.tile_clip.proofs.Rounds.{Starting}
use Rattle.tile_clip.proofs.Ends.{Onward, onward_open}

-- ---- one bin

-- a bin under the limit gains one
pub gain_under : (l c : ℕ) → c < l → gain l c ≡ 1
gain_under l c h = rw (lt-ltb c l h) refl

-- a bin at the limit gains nothing
pub gain_over : (l c : ℕ) → l ≤ c → gain l c ≡ 0
gain_over l c h = rw (le-ltb c l h) refl

-- a bin gains one at most
pub gain_most : (l c : ℕ) → gain l c ≤ 1
gain_most l c = go (lt_or_ge c l)
  where
    go : (c < l) ⊎ (l ≤ c) → gain l c ≤ 1
    go (inl h) = rw (gain_under l c h) (omega arith)
    go (inr h) = rw (gain_over l c h) (omega arith)

-- a bin that gains stays within the limit
pub gained_most : (l c : ℕ) → gained l c ≤ max c l
gained_most l c = go (lt_or_ge c l)
  where
    go : (c < l) ⊎ (l ≤ c) → gained l c ≤ max c l
    go (inl h) = rw (gain_under l c h) (omega arith)
    go (inr h) = rw (gain_over l c h) (omega arith)

-- no more gain than there are bins
pub gains_most : (l : ℕ) (cs : List ℕ) → total (map (gain l) cs) ≤ length cs
unfolding total
gains_most l [] = omega arith
gains_most l (c ∷ cs) = omega (arith, gains_most l cs, gain_most l c)

-- ---- the walk

-- with step 1 each bin under the limit gains one; the bins behind are full
walk_each : (l : ℕ) (xs ys : List ℕ) (r : ℕ) → length xs < r → ((i : ℕ) → i < length ys → l ≤ get_or ys i 0)
    → walk l 1 0 (xs ++ ys) r ≡ record { counts = map (gained l) xs ++ ys; rest = r - total (map (gain l) xs) }
unfolding total
walk_each l [] ys r h full =
    let z : r ≡ r - 0 = omega arith in
    walk_full l 1 0 ys r (λ i a b. full i b) ∙ ap (λ t. record { counts = ys; rest = t }) z
walk_each l (x ∷ xs) ys zero h full = absurd (not-suc-le-zero h)
walk_each l (x ∷ xs) ys (suc r) h full =
    go (walk_each l xs ys r (le_of_suc-le-suc h) full) (walk_each l xs ys (suc r) (omega arith) full) (lt_or_ge x l)
  where
    go : walk l 1 0 (xs ++ ys) r ≡ record { counts = map (gained l) xs ++ ys; rest = r - total (map (gain l) xs) }
        → walk l 1 0 (xs ++ ys) (suc r) ≡ record { counts = map (gained l) xs ++ ys; rest = suc r - total (map (gain l) xs) } → (x < l) ⊎ (l ≤ x)
        → walk l 1 0 (x ∷ (xs ++ ys)) (suc r)
        ≡ record { counts = gained l x ∷ (map (gained l) xs ++ ys); rest = suc r - (gain l x + total (map (gain l) xs)) }
    go p q (inl u) =
        let z : r - total (map (gain l) xs) ≡ suc r - (1 + total (map (gain l) xs)) = omega arith in
        rw (gain_under l x u)
        (walk_under l 1 x (xs ++ ys) r u
        ∙ (ap (behind (x + 1)) p ∙ ap (λ t. record { counts = (x + 1) ∷ (map (gained l) xs ++ ys); rest = t }) z))
    go p q (inr u) =
        let z : suc r - total (map (gain l) xs) ≡ suc r - (0 + total (map (gain l) xs)) = omega arith in
        let y : x ≡ x + 0 = omega arith in
        rw (gain_over l x u)
        (walk_over l 1 x (xs ++ ys) r u
        ∙ (ap (behind x) q ∙ ap₂ (λ c t. record { counts = c ∷ (map (gained l) xs ++ ys); rest = t }) y z))

-- the same behind bins that are passed over
walk_behind : (l : ℕ) (ws xs ys : List ℕ) (r : ℕ) → length xs < r → ((i : ℕ) → i < length ys → l ≤ get_or ys i 0)
    → walk l 1 (length ws) (ws ++ (xs ++ ys)) r ≡ record { counts = ws ++ (map (gained l) xs ++ ys); rest = r - total (map (gain l) xs) }
walk_behind l [] xs ys r h full = walk_each l xs ys r h full
walk_behind l (w ∷ ws) xs ys r h full =
    let e : suc (length ws) - 1 ≡ length ws = omega arith in
    walk_pass l 1 (suc (length ws)) w (ws ++ (xs ++ ys)) r (omega arith)
    ∙ (ap (λ k. behind w (walk l 1 k (ws ++ (xs ++ ys)) r)) e ∙ ap (behind w) (walk_behind l ws xs ys r h full))

-- the walk of a start that finds more left than there are bins, as the code has it: a pass over the bins from the start to the end
pub walk_whole : (l s e : ℕ) (cs : List ℕ) (r : ℕ) {ys : List ℕ} {n : ℕ} → s ≤ e → Shut l e cs → length cs < r
    → Raised l (take (e - s) (drop s cs)) ys n → walk l 1 s cs r ≡ record { counts = put_mid s (e - s) cs ys; rest = r - n }
walk_whole l s e cs r {ys} {n} h shut many p =
    ap₂ (λ k t. walk l 1 k t r) (sym front) (sym (put_same s (e - s) cs))
    ∙ (walk_behind l (take s cs) (take (e - s) (drop s cs)) (drop (e - s) (drop s cs)) r few full
    ∙ ap₂ (λ t k. record { counts = take s cs ++ (t ++ drop (e - s) (drop s cs)); rest = r - k }) (sym p.bins) (sym p.gains))
  where
    front : length (take s cs) ≡ s
    front = length-take-le s cs (omega (arith, shut.within))

    few : length (take (e - s) (drop s cs)) < r
    few = omega (arith, shut.within, length-take-le (e - s) (drop s cs) (rw length-drop (omega (arith, shut.within))))

    full : (i : ℕ) → i < length (drop (e - s) (drop s cs)) → l ≤ get_or (drop (e - s) (drop s cs)) i 0
    full i k =
        let m : length (drop (e - s) (drop s cs)) ≡ length cs - s - (e - s) = rw (length-drop, length-drop) refl in
        let q : get_or (drop (e - s) (drop s cs)) i 0 ≡ get_or cs (s + (e - s + i)) 0 = get_or-drop (e - s) (drop s cs) i 0 ∙ get_or-drop s cs (e - s + i) 0 in
        rw q (shut.full (s + (e - s + i)) (omega arith) (omega arith))

-- it hands out no more than there are bins
pub raised_most : {l s e : ℕ} {cs ys : List ℕ} {n : ℕ} → s ≤ e → Shut l e cs → Raised l (take (e - s) (drop s cs)) ys n → n ≤ length cs
raised_most {l} {s} {e} {cs} h shut p =
    omega (arith, p.gains, gains_most l (take (e - s) (drop s cs)), length-take (e - s) (drop s cs), length-drop s cs)

-- full bins stay full
pub shut_whole : {l s e : ℕ} {cs ys : List ℕ} {n : ℕ} → s ≤ e → Shut l e cs → Raised l (take (e - s) (drop s cs)) ys n
    → Shut l e (put_mid s (e - s) cs ys)
shut_whole {l} {s} {e} {cs} {ys} h shut p =
    record { full = λ i a b. omega (arith, grows i, shut.full i a (omega (arith, long))); within = omega (arith, shut.within, long) }
  where
    w : (walk l 1 s cs (suc (length cs))).counts ≡ put_mid s (e - s) cs ys
    w = ap (λ x. x.counts) (walk_whole l s e cs (suc (length cs)) h shut (omega arith) p)

    long : length (put_mid s (e - s) cs ys) ≡ length cs
    long = ap length (sym w) ∙ length_walk l 1 s cs (suc (length cs))

    grows : (i : ℕ) → get_or cs i 0 ≤ get_or (put_mid s (e - s) cs ys) i 0
    grows i = rw w at (walk_grows l 1 s cs (suc (length cs)) i)

-- and the next start, as the code has it: m are the looks of the starts that are skipped
pub onward_whole : {l : ℕ} {all : List ℕ} {looks s : ℕ} {cs : List ℕ} {r taken e : ℕ} {ys : List ℕ} {n f m u : ℕ} (b : ℕ) → Starting l all looks s cs r taken
    → b ≡ length cs → b < r → s ≤ e → Shut l e cs → Raised l (take (e - s) (drop s cs)) ys n → Shut l f (put_mid s (e - s) cs ys) → m ≡ skipped_of b f s (r - n)
    → u ≡ next_start_of f s → Onward l all looks s cs r u (put_mid s (e - s) cs ys) (r - n) (taken + (b - s + m))
onward_whole {l} {all} {looks} {s} {cs} {r} {taken} {e} {ys} {n} {f} {m} {u} b i q many h shut p ends y v =
    onward_open b f u (taken + (b - s + m)) i q long (omega arith) (omega arith) step w some ends v sum
  where
    w : walk l 1 s cs r ≡ record { counts = put_mid s (e - s) cs ys; rest = r - n }
    w = walk_whole l s e cs r h shut (omega arith) p

    some : 0 < r - n
    some = omega (arith, raised_most h shut p)

    long : length (put_mid s (e - s) cs ys) ≡ length cs
    long = ap (λ x. length x.counts) (sym w) ∙ length_walk l 1 s cs r

    step : 1 ≡ max 1 (b / r)
    step = rw (div-eq_of_lt many) refl

    rest : (walk l 1 s cs r).rest ≡ r - n
    rest = ap (λ x. x.rest) w

    each : looks_in l 1 s cs r ≡ length cs - s
    each = looks_all l s cs r (rw rest some)

    sum : taken + (b - s + m) ≡ taken + looks_in l 1 s cs r + skipped_of b f s (r - n)
    sum = omega (arith, y, each, q)

-- the next start is none behind the end
pub next_most : (e s : ℕ) → next_start_of e s ≤ e
next_most e s = go (lt_or_ge (s + 1) e)
  where
    go : (s + 1 < e) ⊎ (e ≤ s + 1) → next_start_of e s ≤ e
    go (inl u) = rw (lt-ltb (s + 1) e u) (omega arith)
    go (inr u) = rw (le-ltb (s + 1) e u) (omega arith)
