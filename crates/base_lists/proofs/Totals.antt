-- Laws of a list that is read from a place on: what is mapped in place, and a list turned so that a place comes first.
-- Assumes nothing.
use Prim.Native.Nat.{ℕ, zero, suc, ◌+◌, ◌≤◌, ◌<◌}
use mathlib.Core.List.{List, [], ◌∷◌, ◌++◌, map, append_assoc, append-nil}
use mathlib.Core.Path.{◌≡◌, refl, sym, ap, ◌∙◌}
use lib.ListN.{length, take, drop, get_or, set, length-append, length-drop, length-take, take-append-drop}
use lib.Seq.{drop-cons, take-suc-set, drop-set-lt, append_snoc, take-length, drop-length, take-suc}
use native.Mathlib.Nat.{not-suc-le-zero, le_of_suc-le-suc}
use native.Mathlib.Omega.{arith}
use native.Mathlib.Numerals.{add-one}
use Rattle.base_lists.specs.Lists.{total}
use Rattle.base_lists.proofs.Sums.{total_append}

-- one entry more is mapped in place
pub map_next : (f : ℕ → ℕ) (cs : List ℕ) (i : ℕ) → i < length cs
    → take (i + 1) (set cs i (f (get_or cs i 0))) ++ map f (drop (i + 1) (set cs i (f (get_or cs i 0)))) ≡ take i cs ++ map f (drop i cs)
map_next f cs i h =
    rw (add-one i, take-suc-set cs i (f (get_or cs i 0)) h, drop-set-lt (suc i) cs i (f (get_or cs i 0)) (omega arith), drop-cons cs i 0 h)
    (append_snoc (take i cs) (f (get_or cs i 0)) (map f (drop (suc i) cs)))

-- all entries are mapped
pub map_end : (f : ℕ → ℕ) (cs : List ℕ) (i : ℕ) → length cs ≤ i → i ≤ length cs → take i cs ++ map f (drop i cs) ≡ cs
map_end f cs i h l = let e : i ≡ length cs = omega arith in rw (e, take-length cs, drop-length cs) (append-nil cs)

-- an entry of a mapped list
pub get_or_map_lt : (f : ℕ → ℕ) (cs : List ℕ) (i : ℕ) → i < length cs → get_or (map f cs) i 0 ≡ f (get_or cs i 0)
get_or_map_lt f [] i h = absurd (not-suc-le-zero h)
get_or_map_lt f (c ∷ cs) zero h = refl
get_or_map_lt f (c ∷ cs) (suc i) h = get_or_map_lt f cs i (le_of_suc-le-suc h)

-- a list mapped to numbers of at most k
pub get_or_map_le : (f : ℕ → ℕ) (k : ℕ) → ((c : ℕ) → f c ≤ k) → (cs : List ℕ) (i : ℕ) → get_or (map f cs) i 0 ≤ k
get_or_map_le f k h [] i = omega arith
get_or_map_le f k h (c ∷ cs) zero = h c
get_or_map_le f k h (c ∷ cs) (suc i) = get_or_map_le f k h cs i

-- the list from place s on, and then its front
unfoldable pub turned : ℕ → List ℕ → List ℕ
turned s cs = drop s cs ++ take s cs

-- turning keeps the length
pub length_turned : (s : ℕ) (cs : List ℕ) → length (turned s cs) ≡ length cs
unfolding turned
length_turned s cs = rw (length-append, length-drop, length-take) (omega arith)

-- turning keeps the total
pub total_turned : (s : ℕ) (cs : List ℕ) → total (turned s cs) ≡ total cs
unfolding turned
total_turned s cs = total_append (drop s cs) (take s cs) ∙ (flip ∙ (sym (total_append (take s cs) (drop s cs)) ∙ ap total (take-append-drop s cs)))
  where
    flip : total (drop s cs) + total (take s cs) ≡ total (take s cs) + total (drop s cs)
    flip = omega arith

-- what stands behind the place s in a turned list
pub rested : ℕ → List ℕ → List ℕ
rested s cs = drop (suc s) cs ++ take s cs

-- the place comes first
pub turned_at : (s : ℕ) (cs : List ℕ) → s < length cs → turned s cs ≡ get_or cs s 0 ∷ rested s cs
unfolding turned rested
turned_at s cs h = rw (drop-cons cs s 0 h) refl

-- turned by one more, the place comes last
pub turned_next : (s : ℕ) (cs : List ℕ) → s < length cs → turned (s + 1) cs ≡ rested s cs ++ (get_or cs s 0 ∷ [])
unfolding turned rested
turned_next s cs h = rw (add-one s, take-suc cs s 0 h) (sym (append_assoc (drop (suc s) cs) (take s cs) (get_or cs s 0 ∷ [])))

-- a list turned by its length is the list turned by nothing
pub turned_all : (n : ℕ) (cs : List ℕ) → n ≡ length cs → turned n cs ≡ turned 0 cs
unfolding turned
turned_all n cs e = rw (e, drop-length cs, take-length cs) (sym (append-nil cs))
