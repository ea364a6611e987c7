-- Laws of entries: of a part and of a block of a slice, of a slice that is filled from the front, and of lists that agree in front.
-- Assumes nothing.
use Prim.Native.Nat.{ℕ, zero, suc, ◌+◌, ◌-◌, ◌*◌, ◌≤◌, ◌<◌, min}
use mathlib.Core.List.{List, [], ◌∷◌, ◌++◌, append-nil}
use mathlib.Core.Logic.{⊎_elim}
use mathlib.Core.Path.{◌≡◌, refl, sym, ap, ◌∙◌}
use lib.Arith.{digits_lt}
use lib.Dec.{ltb}
use lib.ListN.{length, take, drop, get_or, length-append, length-take, length-drop, get_or-append}
use lib.Seq.{get_or-append-add, get_or-drop, get_or-take, drop-length, length-take-le, take-nil, take-take, ext_get_or}
use native.Mathlib.Nat.{suc-add, zero-add}
use native.Mathlib.Omega.{arith}
use borrow.Author.Tests.{lt-ltb, le-ltb}
use Rattle.base_lists.specs.Lists.{tab, joined, onto, filled, blocks}
use Rattle.base_lists.proofs.Orders.{lt_or_ge}
use Rattle.base_lists.proofs.Tabs.{length_tab}
use Rattle.base_lists.proofs.Fills.{length_joined, filled_end}
use Rattle.base_lists.proofs.Blocks.{get_or_joined, block_fits}

-- an entry of a part, the n entries from a on
pub get_d_part : (s : List ℕ) (n a : ℕ) {i : ℕ} → i < n → get_or (take n (drop a s)) i 0 ≡ get_or s (a + i) 0
get_d_part s n a {i} h = get_or-take n (drop a s) i 0 h ∙ get_or-drop a s i 0

-- a part is as long as it was cut
pub length_part : (s : List ℕ) (n a : ℕ) → a + n ≤ length s → length (take n (drop a s)) ≡ n
length_part s n a h = length-take-le n (drop a s) (rw length-drop (omega arith))

-- block t of k entries, as the part from t * k on
abbrev pub block : List ℕ → ℕ → ℕ → List ℕ
block s t k = take (t * k + k - t * k) (drop (t * k) s)

-- its entries
pub get_or_block : (s : List ℕ) (t k i : ℕ) → i < k → get_or (block s t k) i 0 ≡ get_or s (t * k + i) 0
get_or_block s t k i h = get_d_part s (t * k + k - t * k) (t * k) (omega arith)

-- its length
pub length_block : (s : List ℕ) (t k : ℕ) → t * k + k ≤ length s → length (block s t k) ≡ k
length_block s t k h = let size : t * k + k - t * k ≡ k = omega arith in length_part s (t * k + k - t * k) (t * k) (omega arith) ∙ size

-- it is the k entries from t * k on
pub block_cut : (s : List ℕ) (t k : ℕ) → block s t k ≡ take k (drop (t * k) s)
block_cut s t k = let size : t * k + k - t * k ≡ k = omega arith in ap (λ n. take n (drop (t * k) s)) size

-- of blocks that are laid down from the front, block t is the t-th
pub block_joined : (k n : ℕ) (f : ℕ → List ℕ) (d : List ℕ) → ((i : ℕ) → i < n → length (f i) ≡ k) → {t : ℕ} → t < n → take k (drop (t * k) (onto d (joined n f))) ≡ f t
unfolding onto
block_joined k n f d h {t} l =
    let s : List ℕ = joined n f ++ drop (length (joined n f)) d in
    let front : length (joined n f) ≡ n * k = length_joined k n f h in
    let size : length s ≡ length (joined n f) + length (drop (length (joined n f)) d) = length-append (joined n f) (drop (length (joined n f)) d) in
    let room : n * k ≤ length s = omega arith in
    let long : length (take k (drop (t * k) s)) ≡ k = length_part s k (t * k) (block_fits k n l room) in
    ext_get_or 0 (take k (drop (t * k) s)) (f t) (long ∙ sym (h t l))
    (λ i b.
    let c : i < k = omega arith in
    get_d_part s k (t * k) c ∙ get_or-append (joined n f) (drop (length (joined n f)) d) 0 (t * k + i) (rw front (digits_lt l c)) ∙ get_or_joined k n f h t i 0 l c)

-- the n entries from a on are among the first a + n
part_front : (s : List ℕ) (a n : ℕ) → take n (drop a s) ≡ drop a (take (a + n) s)
part_front s zero n = ap (λ k. take k s) (sym (zero-add n))
part_front [] (suc a) n = take-nil n ∙ sym (ap (drop (suc a)) (take-nil (suc a + n)))
part_front (x ∷ s) (suc a) n = part_front s a n ∙ ap (λ k. drop (suc a) (take k (x ∷ s))) (sym (suc-add a n))

-- lists that are the same up to n blocks of k entries have the same blocks there
pub block_front : (k n : ℕ) (a b : List ℕ) → take (n * k) a ≡ take (n * k) b → {t : ℕ} → t < n → take k (drop (t * k) a) ≡ take k (drop (t * k) b)
block_front k n a b e {t} l = cut a ∙ ap (λ s. drop (t * k) (take (t * k + k) s)) e ∙ sym (cut b)
  where
    cut : (s : List ℕ) → take k (drop (t * k) s) ≡ drop (t * k) (take (t * k + k) (take (n * k) s))
    cut s = part_front s (t * k) k ∙ ap (drop (t * k)) (sym (take-take (t * k + k) (n * k) s (block_fits k n l (omega arith))))

-- an entry behind those that were filled is as it was
pub get_or_behind : (f : ℕ → ℕ) (d : List ℕ) (n i : ℕ) → n ≤ i → get_or (filled f d n) i 0 ≡ get_or d i 0
unfolding filled
get_or_behind f d n i h =
    let at : i ≡ length (tab n f) + (i - n) = omega (arith, length_tab n f) in
    let back : n + (i - n) ≡ i = omega arith in
    ap (λ k. get_or (tab n f ++ drop n d) k 0) at
    ∙ get_or-append-add (tab n f) (drop n d) (i - n) 0
    ∙ get_or-drop n d (i - n) 0
    ∙ ap (λ k. get_or d k 0) back

-- lists that are the same up to n have the same entries there
pub get_d_front : (n : ℕ) (a b : List ℕ) → take n a ≡ take n b → (i : ℕ) → i < n → get_or a i 0 ≡ get_or b i 0
get_d_front n a b e i h = sym (get_or-take n a i 0 h) ∙ ap (λ t. get_or t i 0) e ∙ get_or-take n b i 0 h

-- lists that are the same up to n are shorter than n alike
pub front_short : (n : ℕ) (a b : List ℕ) → take n a ≡ take n b → ltb (length a) n ≡ ltb (length b) n
front_short n a b e = ⊎_elim short long (lt_or_ge (length a) n)
  where
    sizes : min n (length a) ≡ min n (length b)
    sizes = sym (length-take n a) ∙ ap length e ∙ length-take n b

    short : length a < n → ltb (length a) n ≡ ltb (length b) n
    short l = lt-ltb (length a) n l ∙ sym (lt-ltb (length b) n (omega (arith, sizes)))

    long : n ≤ length a → ltb (length a) n ≡ ltb (length b) n
    long l = le-ltb (length a) n l ∙ sym (le-ltb (length b) n (omega (arith, sizes)))

-- a slice that is filled to its end holds nothing else
pub filled_whole : (f : ℕ → ℕ) (d : List ℕ) → filled f d (length d) ≡ tab (length d) f
unfolding filled
filled_whole f d = rw (drop-length d, append-nil) refl

-- a list whose n entries are all replaced, at the end of the loop that replaces them
pub filled_all : (f : ℕ → ℕ) (d : List ℕ) {s : List ℕ} {i n : ℕ} → length d ≡ n → s ≡ filled f d i → i ≤ n → n ≤ i → s ≡ tab n f
filled_all f d q e l k = filled_end f d e l k ∙ ap (filled f d) (sym q) ∙ filled_whole f d ∙ ap (λ m. tab m f) q

-- nor does a slice that is filled with blocks to its end
pub blocks_whole : (k : ℕ) (f : ℕ → List ℕ) (d : List ℕ) (n : ℕ) → length d ≡ n * k → blocks k f d n ≡ joined n f
unfolding blocks
blocks_whole k f d n e = rw (← e, drop-length d, append-nil) refl
