-- A run pixel by pixel: the sum of each pixel, weighed or moved, and how many moved.
-- Assumes nothing.
use Prim.Native.Nat.{ℕ, zero, suc, ◌+◌, ◌-◌, ◌*◌, ◌/◌, ◌%◌, ◌≤◌, ◌<◌}
use mathlib.Core.Bool.{Bool, true, false, cond}
use mathlib.Core.List.{List}
use mathlib.Core.Path.{◌≡◌, refl, sym, ap, ap₂, ◌∙◌}
use lib.Dec.{eqb}
use lib.ListN.{length, get_or, set}
use borrow.Author.Tests.{eq-eqb, ne_eqb}
use native.Mathlib.Nat.{mul-add, mul_left_comm, mul-le-mul}
use native.Mathlib.Numerals.{add-one}
use native.Mathlib.Omega.{arith}
use Rattle.base_lists.specs.Lists.{filled}
use Rattle.base_lists.proofs.Fills.{filled_step, filled_end}
use Rattle.base_lists.proofs.Windows.{get_or_behind, filled_whole}
use Rattle.pixel_place.specs.declared.Place.{Place}
use Rattle.pixel_place.specs.Blend.{pair_of, Sound, moved}
use Rattle.pixel_place.proofs.Laws.{moved_sound, weigh_most, pair_most, side_small, sides_weighed, sides_most, sides_grey}
use Rattle.pixel_place.proofs.Moves.{left_holds, sum_moves, sides_are}
use Rattle.pixel_sums.specs.declared.Sum.{Sum}
use Rattle.pixel_table.specs.Table.{blended_at, blended_run, side_at, RunAsks}
use Rattle.pixel_sums.specs.Sums.{like_before, moved_to, moved_in, Stands, PixelAsks}

-- ---- one pixel

-- a product with two numbers in one is two products in one
spread : (w x y : ℕ) → w * (x + 4294967296 * y) ≡ w * x + 4294967296 * (w * y)
spread w x y = mul-add w x (4294967296 * y) ∙ ap (λ t. w * x + t) (mul_left_comm w 4294967296 y)

-- the pairs of both sides in one number
pub pairs_room : {row : Place} {a b c d : ℕ} → Sound 16 2048 row → a ≤ 4095 → b ≤ 4095 → c ≤ 4095 → d ≤ 4095
    → (row.lowerweight * (a + 4294967296 * b) ≡ row.lowerweight * a + 4294967296 * (row.lowerweight * b))
    × (row.upperweight * (c + 4294967296 * d) ≡ row.upperweight * c + 4294967296 * (row.upperweight * d))
    × (pair_of row a c ≤ 2048 * 4095) × (pair_of row b d ≤ 2048 * 4095)
pairs_room {row} {a} {b} {c} {d} sound ha hb hc hd = (spread row.lowerweight a b, spread row.upperweight c d, weigh_most sound ha hc, weigh_most sound hb hd)

module _ {column row : Place} {a b c d : List ℕ} {n i k : ℕ} (asks : PixelAsks column row a b c d n i k) where
  -- the place of pixel i is sound
  pub pixel_sound : Sound 16 2048 (moved column i)
  pixel_sound = moved_sound i asks.column (omega (arith, asks.room))

  -- its mapped values
  pub pixel_values : (get_or a k 0 ≤ 4095) × (get_or b k 0 ≤ 4095) × (get_or c k 0 ≤ 4095) × (get_or d k 0 ≤ 4095)
  pixel_values = asks.tiles.most k asks.bin

  -- its pairs are no larger than pairs are
  left_fits : side_at row a c k ≤ row.span * 4095
  left_fits = pair_most asks.row pixel_values.0 pixel_values.2

  right_fits : side_at row b d k ≤ row.span * 4095
  right_fits = pair_most asks.row pixel_values.1 pixel_values.3

  pub left_small : {v : ℕ} → v ≡ side_at row a c k → v ≤ 2048 * 4095
  left_small e = omega (arith, e, side_small asks.row left_fits)

  pub right_small : {v : ℕ} → v ≡ side_at row b d k → v ≤ 2048 * 4095
  right_small e = omega (arith, e, side_small asks.row right_fits)

  -- from both pairs in one number
  pub pairs_left : {r : ℕ} → r ≡ side_at row a c k + 4294967296 * side_at row b d k → r % 4294967296 ≡ side_at row a c k
  pairs_left e = omega (arith, e, left_small refl)

  pub pairs_right : {r : ℕ} → r ≡ side_at row a c k + 4294967296 * side_at row b d k → r / 4294967296 ≡ side_at row b d k
  pairs_right e = omega (arith, e, left_small refl)

  -- its sum is no larger than what is divided may be
  pub pixel_fits : {v : ℕ} → v ≡ pair_of (moved column i) (side_at row a c k) (side_at row b d k) → v ≤ column.span * row.span * 4095
  pixel_fits e = rw e (sides_weighed pixel_sound asks.row left_fits right_fits)

  -- the grey of that sum
  pub pixel_grey : {s v : ℕ} → s ≡ pair_of (moved column i) (side_at row a c k) (side_at row b d k) → v ≡ s / (column.span * row.span) → v ≡ blended_at column row a b c d i k
  pixel_grey e q = sides_are (moved column i) row (side_at row a c k) (side_at row b d k) e q ∙ sides_grey (moved column i) row (get_or a k 0) (get_or b k 0) (get_or c k 0) (get_or d k 0)

  pub pixel_small : {s v : ℕ} → s ≡ pair_of (moved column i) (side_at row a c k) (side_at row b d k) → v ≡ s / (column.span * row.span) → v ≤ 4095
  pixel_small e q = omega (arith, sides_are (moved column i) row (side_at row a c k) (side_at row b d k) e q, sides_most pixel_sound asks.row left_fits right_fits)

  -- the sum of the pixel before, of the same bin
  module _ {s : Sum} (some : 0 < i) (h : Stands column row a b c d (i - 1) k s) where
    abbrev before : ℕ
    before = i - 1

    before_sound : Sound 16 2048 (moved column before)
    before_sound = moved_sound before asks.column (omega (arith, asks.room))

    before_fits : s.sum ≤ column.span * row.span * 4095
    before_fits = rw h.sum (sides_weighed before_sound asks.row left_fits right_fits)

    -- with the right pair it stays in 64 bits
    pub step_room : s.sum + s.right < 18446744073709551616
    step_room = omega (arith, before_fits, mul-le-mul asks.column.bound asks.row.bound, right_small h.right)

    -- the left pair is in it
    pub step_holds : s.left ≤ s.sum
    step_holds = rw (h.left, h.sum) (left_holds (moved column before) (side_at row a c k) (side_at row b d k) (omega (arith, asks.room)))

    -- one column on
    pub step_is : s.sum + s.right - s.left ≡ pair_of (moved column i) (side_at row a c k) (side_at row b d k)
    step_is =
        let next : before + 1 ≡ i = omega arith in
        rw (h.left, h.right, h.sum) (sum_moves column (side_at row a c k) (side_at row b d k) before (omega (arith, asks.room)) ∙ ap (λ j. pair_of (moved column j) (side_at row a c k) (side_at row b d k)) next)

-- a sum from its place and its pairs
pub weighed_is : {p o : Place} {l m r n s : ℕ} → p ≡ o → l ≡ m → r ≡ n → s ≡ pair_of p l r → s ≡ pair_of o m n
weighed_is e f g h = h ∙ rw (e, f, g) refl

-- where the bin is the one before, one sum more has moved
pub one_moved : {k m : ℕ} (n : ℕ) → k ≡ m → n + 1 ≡ n + cond (eqb k m) 1 0
one_moved {k} {m} n e = rw (eq-eqb k m e) refl

-- and else none
pub none_moved : {k m : ℕ} (n : ℕ) → (k ≡ m → ⊥) → n ≡ n + cond (eqb k m) 1 0
none_moved {k} {m} n e = rw (ne_eqb k m e) (omega arith)

-- ---- a run

-- the grey of the run's pixel i
abbrev pub blended : Place → Place → List ℕ → List ℕ → List ℕ → List ℕ → List ℕ → ℕ → ℕ
blended column row a b c d ks i = blended_at column row a b c d i (get_or ks i 0)

-- a run has few pixels
pub run_few : {column row : Place} {a b c d : List ℕ} {n : ℕ} {ks : List ℕ} → RunAsks column row a b c d n ks → length ks ≤ 2048
run_few asks = omega (arith, asks.room, asks.column.weights, asks.column.bound)

-- what stands before pixel i: nothing before the first, the sum of the pixel before any other, and how many have moved
pub record Before (column row : Place) (a b c d ks : List ℕ) (i : ℕ) (s : Sum) : Type 0 where
  pub none : i ≡ 0 → s.bin ≡ 65535
  pub stands : (j : ℕ) → j + 1 ≡ i → Stands column row a b c d j (get_or ks j 0) s
  pub count : s.moved ≡ moved_to ks i

-- the first pixel has none before it
like_none : (ks : List ℕ) → like_before ks 0 ≡ false
unfolding like_before
like_none ks = refl

like_one : (ks : List ℕ) (m : ℕ) {k s : ℕ} → k ≡ get_or ks (suc m) 0 → s ≡ get_or ks m 0 → eqb k s ≡ like_before ks (suc m)
unfolding like_before
like_one ks m p q = ap₂ eqb p q

moved_none : (ks : List ℕ) → moved_to ks 0 ≡ 0
unfolding moved_to
moved_none ks = refl

moved_suc : (ks : List ℕ) (n : ℕ) → moved_to ks (n + 1) ≡ moved_to ks n + cond (like_before ks n) 1 0
unfolding moved_to
moved_suc ks n = rw add-one refl

-- no more have moved than pixels passed
pub moved_few : (ks : List ℕ) (n : ℕ) → moved_to ks n ≤ n
unfolding moved_to
moved_few ks zero = omega arith
moved_few ks (suc n) = go (like_before ks n) (moved_few ks n)
  where
    go : (t : Bool) → moved_to ks n ≤ n → moved_to ks n + cond t 1 0 ≤ suc n
    go true h = omega (arith, h)
    go false h = omega (arith, h)

module _ {column row : Place} {a b c d : List ℕ} {n : ℕ} {ks : List ℕ} (asks : RunAsks column row a b c d n ks) {i : ℕ} (h : i < length ks)
    {px : List ℕ} (e : px ≡ filled (blended column row a b c d ks) ks i) {s : Sum} (before : Before column row a b c d ks i s) where
  -- the bin as it was read
  pub bin_read : get_or px i 0 ≡ get_or ks i 0
  bin_read = ap (λ t. get_or t i 0) e ∙ get_or_behind (blended column row a b c d ks) ks i i (omega arith)

  -- what pixel i asks
  pub pixel_asks : PixelAsks column row a b c d n i (get_or px i 0)
  pixel_asks =
      record {
        tiles = asks.tiles;
        column = asks.column;
        row = asks.row;
        bin = rw bin_read (asks.bins i h);
        few = asks.few;
        room = omega (arith, asks.room);
      }

  -- as few sums have moved
  pub before_few : s.moved ≤ i
  before_few = rw before.count (moved_few ks i)

  -- where its bin is the one before, that pixel's sum stands
  pub before_stands : get_or px i 0 ≡ s.bin → (0 < i) × Stands column row a b c d (i - 1) (get_or px i 0) s
  before_stands q = go i refl
    where
      small : get_or px i 0 < 4096
      small = omega (arith, pixel_asks.bin, asks.few)

      go : (m : ℕ) → i ≡ m → (0 < i) × Stands column row a b c d (i - 1) (get_or px i 0) s
      go zero z = absurd (omega (arith, small, q, before.none z))
      go (suc m) z =
          let was : Stands column row a b c d (i - 1) (get_or ks (i - 1) 0) s = before.stands (i - 1) (omega arith) in
          let same : get_or ks (i - 1) 0 ≡ get_or px i 0 = sym was.bin ∙ sym q in
          (omega arith, rw (sym same) was)

  -- whether it is
  like_before_lem : eqb (get_or px i 0) s.bin ≡ like_before ks i
  like_before_lem = go i refl
    where
      small : get_or px i 0 < 4096
      small = omega (arith, pixel_asks.bin, asks.few)

      go : (m : ℕ) → i ≡ m → eqb (get_or px i 0) s.bin ≡ like_before ks i
      go zero z = ne_eqb (get_or px i 0) s.bin (λ q. omega (arith, small, q, before.none z)) ∙ sym (ap (like_before ks) z ∙ like_none ks)
      go (suc m) z = like_one ks m (bin_read ∙ ap (λ j. get_or ks j 0) z) (before.stands m (omega (arith, z))).bin ∙ ap (like_before ks) (sym z)

  module _ {r : Sum} (stands : Stands column row a b c d i (get_or px i 0) r) (count : r.moved ≡ s.moved + cond (eqb (get_or px i 0) s.bin) 1 0) where
    -- what stands before the next pixel
    pub before_next : Before column row a b c d ks (i + 1) r
    before_next =
        record {
          none = λ z. absurd (omega arith);
          stands = λ j z. let q : j ≡ i = omega arith in rw q (rw (← bin_read) stands);
          count = count ∙ ap₂ (λ x t. x + cond t 1 0) before.count like_before_lem ∙ sym (moved_suc ks i);
        }

    module _ {v : ℕ} (q : v ≡ r.sum / (column.span * row.span)) where
      -- the grey is small
      pub grey_small : v ≤ 4095
      grey_small = pixel_small pixel_asks stands.sum q

      -- one pixel more
      pub grey_next : set px i v ≡ filled (blended column row a b c d ks) ks (i + 1)
      grey_next = filled_step (blended column row a b c d ks) ks e h (pixel_grey pixel_asks stands.sum q ∙ ap (blended_at column row a b c d i) bin_read)

-- nothing stands before the first pixel
pub before_first : (column row : Place) (a b c d ks : List ℕ) {s : Sum} → s.bin ≡ 65535 → s.moved ≡ 0 → Before column row a b c d ks 0 s
before_first column row a b c d ks h m = record { none = λ z. h; stands = λ j z. absurd (omega arith); count = m ∙ sym (moved_none ks) }

module _ (column row : Place) (a b c d ks : List ℕ) {i : ℕ} (l : i ≤ length ks) (k : length ks ≤ i) where
  -- the whole run
  pub blended_end : {px : List ℕ} → px ≡ filled (blended column row a b c d ks) ks i → px ≡ blended_run column row a b c d ks
  unfolding blended_run
  blended_end e = filled_end (blended column row a b c d ks) ks e l k ∙ filled_whole (blended column row a b c d ks) ks

  -- and how many moved
  pub moved_end : {s : Sum} → Before column row a b c d ks i s → s.moved ≡ moved_in ks
  unfolding moved_in
  moved_end before = let q : i ≡ length ks = omega arith in before.count ∙ ap (moved_to ks) q
