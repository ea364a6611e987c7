-- Entries that move down, the lowest first: what was written is behind no entry that is still to be read.
-- Assumes nothing.
use Prim.Native.Nat.{ℕ, ◌+◌, ◌-◌, ◌≤◌}
use mathlib.Core.List.{List, ◌++◌, append_assoc}
use mathlib.Core.Path.{◌≡◌, refl, sym, ap, ap₂, ◌∙◌}
use native.Mathlib.Omega.{arith}
use lib.ListN.{length, take, drop, length-drop}
use lib.Seq.{length-take-le, take-add, drop-drop}
use Rattle.std.specs.List.{copy_within}
use Rattle.base_lists.specs.Lists.{over}
use Rattle.base_lists.proofs.Fills.{length_over}
use Rattle.base_lists.proofs.Overs.{over_nil, over_over}
use Rattle.base_lists.proofs.Parts.{over_front, over_here, over_rest, over_later}
use Rattle.film_sets.specs.Sets.{moved_down}

-- what `copy_within` moves
within_moved : (s : List ℕ) (i e to : ℕ) → i ≤ e → e ≤ length s → copy_within s i e to ≡ moved_down s to i e
unfolding moved_down over
within_moved s i e to l h =
    append_assoc (take to s) (take (e - i) (drop i s)) _
    ∙ ap (λ n. take to s ++ (take (e - i) (drop i s) ++ drop (to + n) s)) (sym (length-take-le (e - i) (drop i s) (omega (arith, length-drop i s))))

-- ---- more of them behind those that were moved

-- none moved
pub moved_none : (m : List ℕ) (to from : ℕ) → m ≡ moved_down m to from from
unfolding moved_down
moved_none m to from =
    let n : from - from ≡ 0 = omega arith in
    sym (ap (λ k. over m to (take k (drop from m))) n ∙ over_nil m to)

-- entries that were moved down, and then those behind them to where these end, are all moved down: what was written lies before every entry that is still to be read
pub moved_on : (m : List ℕ) (to from end : ℕ) {s t : List ℕ} {i : ℕ} → s ≡ moved_down m to from i → to ≤ from → from ≤ i → i ≤ end → end ≤ length m
    → t ≡ moved_down s (to + (i - from)) i end → t ≡ moved_down m to from end
unfolding moved_down
moved_on m to from end {s} {t} {i} e d f l h moved =
    moved
    ∙ ap₂ (λ a z. over a (to + (i - from)) z) e read
    ∙ ap (λ n. over (over m to ys) (to + n) (take (end - i) (drop i m))) (sym long)
    ∙ over_over m ys (take (end - i) (drop i m)) to (omega arith)
    ∙ ap (over m to) (sym more)
  where
    ys : List ℕ
    ys = take (i - from) (drop from m)

    long : length ys ≡ i - from
    long = length-take-le (i - from) (drop from m) (omega (arith, length-drop from m))

    read : take (end - i) (drop i s) ≡ take (end - i) (drop i m)
    read = ap (λ z. take (end - i) (drop i z)) e ∙ ap (take (end - i)) (over_later m ys to i (omega (arith, long)) (omega arith))

    more : take (end - from) (drop from m) ≡ ys ++ take (end - i) (drop i m)
    more =
        let n : end - from ≡ i - from + (end - i) = omega arith in
        let q : from + (i - from) ≡ i = omega arith in
        ap (λ j. take j (drop from m)) n
        ∙ take-add (i - from) (end - i) (drop from m)
        ∙ ap (λ z. ys ++ take (end - i) z) (drop-drop (i - from) from m ∙ ap (λ j. drop j m) q)

-- a block more, or what is left
pub moved_more : (m : List ℕ) (to from end : ℕ) {s t : List ℕ} {i : ℕ} → s ≡ moved_down m to from i → to ≤ from → from ≤ i → i ≤ end → end ≤ length m → length s ≡ length m
    → t ≡ copy_within s i end (to + (i - from)) → t ≡ moved_down m to from end
moved_more m to from end {s} {t} {i} e d f l h long moved =
    moved_on m to from end e d f l h (moved ∙ within_moved s i end (to + (i - from)) l (omega (arith, long)))

-- the length stays
pub length_moved : (m : List ℕ) (to from end : ℕ) {s : List ℕ} → s ≡ moved_down m to from end → to ≤ from → from ≤ end → end ≤ length m → length s ≡ length m
unfolding moved_down
length_moved m to from end {s} e d f h =
    let n = length-take-le (end - from) (drop from m) (omega (arith, length-drop from m)) in
    ap length e ∙ length_over m to (take (end - from) (drop from m)) (omega (arith, n))

-- ---- what callers may know of it

-- the entries from b up to e, written over those from a on
pub moved_over : (m : List ℕ) (a b e : ℕ) → moved_down m a b e ≡ over m a (take (e - b) (drop b m))
unfolding moved_down
moved_over m a b e = refl

module _ (m : List ℕ) (a b e : ℕ) (down : a ≤ b) (some : b ≤ e) (fits : e ≤ length m) where
  abbrev ys : List ℕ
  ys = take (e - b) (drop b m)

  long : length ys ≡ e - b
  long = length-take-le (e - b) (drop b m) (omega (arith, length-drop b m))

  -- the entries before a stay
  pub down_front : take a (moved_down m a b e) ≡ take a m
  down_front = ap (take a) (moved_over m a b e) ∙ over_front m ys a a (omega arith) (omega arith)

  -- those from b up to e now begin at a
  pub down_here : take (e - b) (drop a (moved_down m a b e)) ≡ take (e - b) (drop b m)
  down_here =
      ap (λ z. take (e - b) (drop a z)) (moved_over m a b e)
      ∙ ap (λ k. take k (drop a (over m a ys))) (sym long)
      ∙ over_here m ys a (omega arith)

  -- and all behind them stay
  pub down_rest : drop (a + (e - b)) (moved_down m a b e) ≡ drop (a + (e - b)) m
  down_rest =
      ap (drop (a + (e - b))) (moved_over m a b e)
      ∙ ap (λ k. drop (a + k) (over m a ys)) (sym long)
      ∙ over_rest m ys a (omega arith)
      ∙ ap (λ k. drop (a + k) m) long
