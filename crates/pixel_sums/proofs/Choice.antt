-- The least and the greatest bin of a run, whether a table of the bins between them pays, and how many sums move then.
-- Assumes nothing.
use Prim.Native.Nat.{ℕ, zero, suc, ◌+◌, ◌*◌, ◌/◌, ◌≤◌, ◌<◌, min, max}
use mathlib.Core.Bool.{Bool, true, false, cond, ◌&&◌}
use mathlib.Core.List.{List}
use mathlib.Core.Path.{◌≡◌, refl, sym, ap, ap₂, ◌∙◌}
use lib.Dec.{ltb, leb}
use lib.ListN.{length, get_or}
use borrow.Author.Tests.{ltb-true, ltb-false, leb-true}
use native.Mathlib.Numerals.{add-one}
use native.Mathlib.Omega.{arith}
use Rattle.base_lists.proofs.Tabs.{and_left, and_right}
use Rattle.pixel_sums.proofs.Steps.{moved_few}
use Rattle.pixel_table.specs.Table.{Within}
use Rattle.pixel_sums.specs.Sums.{moved_to, moved_in, least_to, greatest_to, least_of, greatest_of, pays_for, sums_moved}

-- ---- the least and the greatest

module _ (ks : List ℕ) where
  -- of no bins
  pub least_none : 65535 ≡ least_to ks 0
  unfolding least_to
  least_none = refl

  pub greatest_none : 0 ≡ greatest_to ks 0
  unfolding greatest_to
  greatest_none = refl

  -- of one bin more
  pub least_next : (i : ℕ) {a b : ℕ} → a ≡ least_to ks i → b ≡ min a (get_or ks i 0) → b ≡ least_to ks (i + 1)
  unfolding least_to
  least_next i e q = q ∙ ap (λ t. min t (get_or ks i 0)) e ∙ rw add-one refl

  pub greatest_next : (i : ℕ) {a b : ℕ} → a ≡ greatest_to ks i → b ≡ max a (get_or ks i 0) → b ≡ greatest_to ks (i + 1)
  unfolding greatest_to
  greatest_next i e q = q ∙ ap (λ t. max t (get_or ks i 0)) e ∙ rw add-one refl

  -- none of the bins is below the least
  least_below : (n i : ℕ) → i < n → least_to ks n ≤ get_or ks i 0
  unfolding least_to
  least_below zero i h = absurd (omega arith)
  least_below (suc n) i h = go (ltb i n) refl (least_below n i)
    where
      go : (t : Bool) → ltb i n ≡ t → (i < n → least_to ks n ≤ get_or ks i 0) → min (least_to ks n) (get_or ks n 0) ≤ get_or ks i 0
      go true p f = omega (arith, f (ltb-true i n p))
      go false p f =
          let z : i ≡ n = omega (arith, ltb-false i n p) in
          omega (arith, ap (λ t. get_or ks t 0) z)

  -- or above the greatest
  greatest_above : (n i : ℕ) → i < n → get_or ks i 0 ≤ greatest_to ks n
  unfolding greatest_to
  greatest_above zero i h = absurd (omega arith)
  greatest_above (suc n) i h = go (ltb i n) refl (greatest_above n i)
    where
      go : (t : Bool) → ltb i n ≡ t → (i < n → get_or ks i 0 ≤ greatest_to ks n) → get_or ks i 0 ≤ max (greatest_to ks n) (get_or ks n 0)
      go true p f = omega (arith, f (ltb-true i n p))
      go false p f =
          let z : i ≡ n = omega (arith, ltb-false i n p) in
          omega (arith, ap (λ t. get_or ks t 0) z)

  -- which is below what all are below
  greatest_under : (n m : ℕ) → 0 < m → ((i : ℕ) → i < n → get_or ks i 0 < m) → greatest_to ks n < m
  unfolding greatest_to
  greatest_under zero m s h = s
  greatest_under (suc n) m s h = omega (arith, greatest_under n m s (λ i l. h i (omega arith)), h n (omega arith))

-- ---- whether a table pays

module _ (low top wide room : ℕ) where
  -- where one pays its bins are in order, and there is room for them
  pays_told : pays_for low top wide room ≡ true → (low ≤ top) × (2 * top ≤ room)
  unfolding pays_for
  pays_told e =
      let fits : leb top (room / 2) ≡ true = and_right (leb top (low + wide)) (leb top (room / 2)) (and_right (leb low top) (leb top (low + wide) && leb top (room / 2)) e) in
      (leb-true low top (and_left (leb low top) (leb top (low + wide) && leb top (room / 2)) e), omega (arith, leb-true top (room / 2) fits))

-- ---- what follows for a run

module _ (room : ℕ) (ks : List ℕ) {low high : ℕ} (l : low ≡ least_of ks) (h : high ≡ greatest_of ks) {t : Bool} (p : t ≡ pays_for low (high + 1) (length ks) room) where
  -- a table that pays has an entry for each of its bins
  pub pays_within : {n : ℕ} → t ≡ true → 0 < n → ((i : ℕ) → i < length ks → get_or ks i 0 < n) → Within low (high + 1) n room ks
  pays_within {n} q some bins =
      let told : (low ≤ high + 1) × (2 * (high + 1) ≤ room) = pays_told low (high + 1) (length ks) room (sym p ∙ q) in
      record {
        order = told.0;
        under = omega (arith, h, greatest_under ks (length ks) n some bins);
        fits = told.1;
        bins = λ i m. (omega (arith, l, least_below ks (length ks) i m), omega (arith, h, greatest_above ks (length ks) i m));
      }

  choice : t ≡ pays_for (least_of ks) (greatest_of ks + 1) (length ks) room
  choice = p ∙ ap₂ (λ x y. pays_for x (y + 1) (length ks) room) l h

  -- from it all sums move
  pub moved_all : {r : ℕ} → t ≡ true → r ≡ length ks → r ≡ sums_moved room ks
  unfolding sums_moved
  moved_all q e = e ∙ ap (λ b. cond b (length ks) (moved_in ks)) (sym q ∙ choice)

  -- else those of pixels that have the bin before them
  pub moved_like : {r : ℕ} → t ≡ false → r ≡ moved_in ks → r ≡ sums_moved room ks
  unfolding sums_moved
  moved_like q e = e ∙ ap (λ b. cond b (length ks) (moved_in ks)) (sym q ∙ choice)

-- no more than there are pixels
pub sums_few : (room : ℕ) (ks : List ℕ) → sums_moved room ks ≤ length ks
unfolding sums_moved moved_in
sums_few room ks = go (pays_for (least_of ks) (greatest_of ks + 1) (length ks) room)
  where
    go : (t : Bool) → cond t (length ks) (moved_to ks (length ks)) ≤ length ks
    go true = omega arith
    go false = moved_few ks (length ks)
