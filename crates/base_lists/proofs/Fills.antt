-- Laws of `filled`, `onto`, `over`, `joined` and `blocks`: slices that are filled from the front, or in the middle.
-- Assumes nothing.
use Prim.Native.Nat.{ℕ, zero, suc, ◌+◌, ◌*◌, ◌≤◌, ◌<◌}
use mathlib.Core.List.{List, [], ◌∷◌, ◌++◌}
use mathlib.Core.Path.{◌≡◌, refl, sym, ap, ap₂, ◌∙◌}
use Rattle.std.proofs.Math.ListN.{replicate}
use Rattle.std.proofs.lemmas.List.{replicate_more}
use lib.ListN.{length, take, drop, get_or, set, length-append, length-drop}
use lib.Seq.{set_at, drop-cons, append_snoc, drop_at, take_at, length-take-le}
use native.Mathlib.Nat.{suc-mul, zero-mul, zero-add}
use native.Mathlib.Omega.{arith}
use native.Mathlib.Numerals.{add-one}
use Rattle.base_lists.specs.Lists.{tab, joined, filled, onto, over, blocks}
use Rattle.base_lists.proofs.Tabs.{length_tab, tab_suc, tab_all}

-- ---- filled

pub filled_none : (f : ℕ → ℕ) (d : List ℕ) → d ≡ filled f d 0
unfolding filled tab
filled_none f d = refl

pub filled_more : (f : ℕ → ℕ) (d : List ℕ) (n : ℕ) → n < length d → set (filled f d n) n (f n) ≡ filled f d (n + 1)
unfolding filled
filled_more f d n h =
    rw (drop-cons d n 0 h, set_at (tab n f) (get_or d n 0) (drop (suc n) d) (f n) n (length_tab n f), tab_suc n f, append_snoc, add-one n) refl

-- a turn of the loop that fills: one more entry is f's
pub filled_step : (f : ℕ → ℕ) (d : List ℕ) {s : List ℕ} {n v : ℕ} → s ≡ filled f d n → n < length d → v ≡ f n → set s n v ≡ filled f d (n + 1)
filled_step f d {s} {n} {v} e h q = ap₂ (λ t x. set t n x) e q ∙ filled_more f d n h

-- its end
pub filled_end : (f : ℕ → ℕ) (d : List ℕ) {s : List ℕ} {i n : ℕ} → s ≡ filled f d i → i ≤ n → n ≤ i → s ≡ filled f d n
filled_end f d {s} {i} {n} e h l = let q : i ≡ n = omega arith in e ∙ ap (filled f d) q

pub length_filled : (f : ℕ → ℕ) (d : List ℕ) (n : ℕ) → n ≤ length d → length (filled f d n) ≡ length d
unfolding filled
length_filled f d n h = rw (length-append, length_tab, length-drop) (omega arith)

pub filled_onto : (f : ℕ → ℕ) (d : List ℕ) (n : ℕ) → filled f d n ≡ onto d (tab n f)
unfolding filled onto
filled_onto f d n = rw length_tab refl

-- a slice filled with another's entries
pub filled_copy : (s d : List ℕ) → filled (λ k. get_or s k 0) d (length s) ≡ onto d s
unfolding filled onto
filled_copy s d = rw (tab_all s 0) refl

-- one value n times
pub tab_same : (n : ℕ) (x : ℕ) → replicate n x ≡ tab n (λ i. x)
unfolding tab
tab_same zero x = refl
tab_same (suc n) x = ap (λ i. replicate i x) (sym (add-one n)) ∙ (sym (replicate_more n x) ∙ ap (λ t. t ++ (x ∷ [])) (tab_same n x))

-- the front filled with one value
pub filled_same : (x : ℕ) (d : List ℕ) {s : List ℕ} {n m : ℕ} → s ≡ replicate m x → m ≡ n → s ++ drop n d ≡ filled (λ k. x) d n
unfolding filled
filled_same x d {s} {n} {m} e q = ap (λ t. t ++ drop n d) (e ∙ (ap (λ k. replicate k x) q ∙ tab_same n x))

-- ---- onto

pub length_onto : (d ys : List ℕ) → length ys ≤ length d → length (onto d ys) ≡ length d
unfolding onto
length_onto d ys h = rw (length-append, length-drop) (omega arith)

-- the front of `onto d ys` is ys
pub take_onto : (d ys : List ℕ) (n : ℕ) → length ys ≡ n → take n (onto d ys) ≡ ys
unfolding onto
take_onto d ys n e = take_at ys (drop (length ys) d) n e

-- what lies behind stays
pub drop_onto : (d ys : List ℕ) (n : ℕ) → length ys ≡ n → drop n (onto d ys) ≡ drop n d
unfolding onto
drop_onto d ys n e = drop_at ys (drop (length ys) d) n e ∙ ap (λ k. drop k d) e

-- ---- over

pub over_zero : (d ys : List ℕ) → over d 0 ys ≡ onto d ys
unfolding over onto
over_zero d ys = rw zero-add refl

pub length_over : (d : List ℕ) (at : ℕ) (ys : List ℕ) → at + length ys ≤ length d → length (over d at ys) ≡ length d
unfolding over
length_over d at ys h = rw (length-append, length-append, length-drop, length-take-le at d (omega arith)) (omega arith)

-- ---- joined and blocks

pub joined_suc : (n : ℕ) (f : ℕ → List ℕ) → joined (n + 1) f ≡ joined n f ++ f n
unfolding joined
joined_suc n f = rw add-one refl

pub length_joined : (k n : ℕ) (f : ℕ → List ℕ) → ((i : ℕ) → i < n → length (f i) ≡ k) → length (joined n f) ≡ n * k
unfolding joined
length_joined k zero f h = sym (zero-mul k)
length_joined k (suc n) f h = rw (length-append, length_joined k n f (λ i l. h i (omega arith)), h n (omega arith), suc-mul) refl

pub joined_cong : (n : ℕ) {f g : ℕ → List ℕ} → ((i : ℕ) → i < n → f i ≡ g i) → joined n f ≡ joined n g
unfolding joined
joined_cong zero h = refl
joined_cong (suc n) h = ap₂ (λ a b. a ++ b) (joined_cong n (λ i l. h i (omega arith))) (h n (omega arith))

pub blocks_none : (k : ℕ) (f : ℕ → List ℕ) (d : List ℕ) → d ≡ blocks k f d 0
unfolding blocks joined
blocks_none k f d = rw zero-mul refl
