-- Laws of `joined` and `blocks`, lists made of blocks of k entries.
-- Assumes nothing.
use Prim.Native.Nat.{ℕ, zero, suc, ◌+◌, ◌-◌, ◌*◌, ◌≤◌, ◌<◌}
use mathlib.Core.List.{List, [], ◌∷◌, ◌++◌, append_assoc}
use mathlib.Core.Logic.{⊎_elim}
use mathlib.Core.Path.{◌≡◌, refl, sym, ap, ap₂, ◌∙◌}
use lib.Arith.{digits_lt}
use lib.ListN.{length, take, drop, get_or, length-append, length-drop, get_or-append}
use lib.Seq.{take_at, drop_at, drop-drop, get_or-append-add}
use native.Mathlib.Nat.{suc-mul, add-mul, one-mul, eq-or-lt_of_le, le_of_suc-le-suc, not-suc-le-zero, mul-le-mul_right}
use native.Mathlib.Omega.{arith}
use borrow.Rule.Slice.PartMut.{put_mid}
use Rattle.base_lists.specs.Lists.{tab, joined, blocks, onto, over}
use Rattle.base_lists.proofs.Fills.{joined_suc, length_joined}

-- ---- joined

-- entry i of block t stands at t * k + i
pub get_or_joined : (k n : ℕ) (f : ℕ → List ℕ) → ((j : ℕ) → j < n → length (f j) ≡ k) → (t i d : ℕ) → t < n → i < k → get_or (joined n f) (t * k + i) d ≡ get_or (f t) i d
unfolding joined
get_or_joined k zero f h t i d l b = absurd (not-suc-le-zero l)
get_or_joined k (suc n) f h t i d l b = ⊎_elim last (λ m. before m (get_or_joined k n f (λ j q. h j (omega arith)) t i d m b)) (eq-or-lt_of_le (le_of_suc-le-suc l))
  where
    front : length (joined n f) ≡ n * k
    front = length_joined k n f (λ j q. h j (omega arith))

    last : t ≡ n → get_or (joined n f ++ f n) (t * k + i) d ≡ get_or (f t) i d
    last e = ap (λ p. get_or (joined n f ++ f n) (p + i) d) (ap (λ s. s * k) e ∙ sym front) ∙ (get_or-append-add (joined n f) (f n) i d ∙ ap (λ s. get_or (f s) i d) (sym e))

    before : t < n → get_or (joined n f) (t * k + i) d ≡ get_or (f t) i d → get_or (joined n f ++ f n) (t * k + i) d ≡ get_or (f t) i d
    before m e = get_or-append (joined n f) (f n) d (t * k + i) (rw front (digits_lt m b)) ∙ e

-- blocks of one entry each are the list of these entries
pub joined_ones : (n : ℕ) (f : ℕ → ℕ) → joined n (λ i. f i ∷ []) ≡ tab n f
unfolding joined tab
joined_ones zero f = refl
joined_ones (suc n) f = ap (λ t. t ++ (f n ∷ [])) (joined_ones n f)

-- ---- blocks

pub length_blocks : (k : ℕ) (f : ℕ → List ℕ) (d : List ℕ) (n : ℕ) → ((i : ℕ) → i < n → length (f i) ≡ k) → n * k ≤ length d → length (blocks k f d n) ≡ length d
unfolding blocks
length_blocks k f d n h l = rw (length-append, length_joined k n f h, length-drop) (omega arith)

-- the front of n blocks
pub take_blocks : (k : ℕ) (f : ℕ → List ℕ) (d : List ℕ) (n : ℕ) → ((i : ℕ) → i < n → length (f i) ≡ k) → take (n * k) (blocks k f d n) ≡ joined n f
unfolding blocks
take_blocks k f d n h = take_at (joined n f) (drop (n * k) d) (n * k) (length_joined k n f h)

-- what lies behind the blocks stays
pub drop_blocks : (k : ℕ) (f : ℕ → List ℕ) (d : List ℕ) (n : ℕ) → ((i : ℕ) → i < n → length (f i) ≡ k) → drop (n * k) (blocks k f d n) ≡ drop (n * k) d
unfolding blocks
drop_blocks k f d n h = drop_at (joined n f) (drop (n * k) d) (n * k) (length_joined k n f h)

-- the blocks are laid down from the front
pub blocks_onto : (k : ℕ) (f : ℕ → List ℕ) (d : List ℕ) (n : ℕ) → ((i : ℕ) → i < n → length (f i) ≡ k) → blocks k f d n ≡ onto d (joined n f)
unfolding blocks onto
blocks_onto k f d n h = rw (length_joined k n f h) refl

-- one block more, list by list
pub blocks_more : (k : ℕ) (f : ℕ → List ℕ) (d : List ℕ) (t : ℕ) → joined t f ++ (f t ++ drop (t * k + k) d) ≡ blocks k f d (t + 1)
unfolding blocks
blocks_more k f d t = rw (joined_suc t f, add-mul, one-mul, append_assoc) refl

-- one block more, where the part from t * k on is replaced by ys
pub blocks_put : (k : ℕ) (f : ℕ → List ℕ) (d : List ℕ) (t : ℕ) → ((i : ℕ) → i < t → length (f i) ≡ k)
    → take (t * k) (blocks k f d t) ++ (f t ++ drop k (drop (t * k) (blocks k f d t))) ≡ blocks k f d (t + 1)
blocks_put k f d t h = rw (take_blocks k f d t h, drop_blocks k f d t h, drop-drop) (blocks_more k f d t)

-- a turn of the loop that lends block t, from a = t * k to e = a + k, and gets ys back: one more block is f's
pub blocks_part : (k : ℕ) (f : ℕ → List ℕ) (d : List ℕ) {m ys : List ℕ} {t a e : ℕ} → ((i : ℕ) → i < t → length (f i) ≡ k) → a ≡ t * k → e ≡ a + k → m ≡ blocks k f d t → ys ≡ f t → put_mid a (e - a) m ys ≡ blocks k f d (t + 1)
blocks_part k f d {m} {ys} {t} {a} {e} h p q r s =
    let w : e - a ≡ k = omega arith in
    ap₂ (λ x y. take x m ++ (ys ++ drop y (drop x m))) p w ∙ (ap₂ (λ x y. take (t * k) x ++ (y ++ drop k (drop (t * k) x))) r s ∙ blocks_put k f d t h)

-- the same with the numbers written out
pub blocks_step : (k : ℕ) (f : ℕ → List ℕ) (d : List ℕ) {m ys : List ℕ} {t : ℕ} → ((i : ℕ) → i < t → length (f i) ≡ k) → m ≡ blocks k f d t → ys ≡ f t → put_mid (t * k) (t * k + k - t * k) m ys ≡ blocks k f d (t + 1)
blocks_step k f d h r s = blocks_part k f d h refl refl r s

-- a turn of the loop that writes block t over what stands there
pub blocks_over : (k : ℕ) (f : ℕ → List ℕ) (d : List ℕ) {m n : List ℕ} (t : ℕ) → ((i : ℕ) → i < t + 1 → length (f i) ≡ k) → m ≡ blocks k f d t → n ≡ over m (t * k) (f t) → n ≡ blocks k f d (t + 1)
unfolding over
blocks_over k f d {m} {n} t h r s =
    s ∙ rw (r, h t (omega arith), ← drop-drop k (t * k) (blocks k f d t)) (blocks_put k f d t (λ i l. h i (omega arith)))

-- its end
pub blocks_end : (k : ℕ) (f : ℕ → List ℕ) (d : List ℕ) {m : List ℕ} {t n : ℕ} → m ≡ blocks k f d t → t ≤ n → n ≤ t → m ≡ blocks k f d n
blocks_end k f d {m} {t} {n} r h l = let q : t ≡ n = omega arith in r ∙ ap (blocks k f d) q

-- block t lies within a list that has room for n blocks
pub block_fits : (k n : ℕ) {t len : ℕ} → t < n → n * k ≤ len → t * k + k ≤ len
block_fits k n {t} {len} l r =
    let s : t * k + k ≡ suc t * k = sym (suc-mul t k) in
    let m : suc t * k ≤ n * k = mul-le-mul_right k l in
    omega arith
