-- Laws of the table: its entries, that a sum moved from the centre is the weighted sum of its place, and that nothing leaves 64 bits.
-- Assumes nothing.
use Prim.Native.Nat.{ℕ, ◌+◌, ◌-◌, ◌*◌, ◌/◌, ◌%◌, ◌≤◌, ◌<◌}
use mathlib.Core.Bool.{cond}
use mathlib.Core.List.{List}
use mathlib.Core.Path.{◌≡◌, refl, sym, ap, ap₂, ◌∙◌}
use lib.Dec.{eqb}
use lib.ListN.{length, get_or, set}
use borrow.Author.Tests.{eq-eqb, ne_eqb}
use native.Mathlib.Nat.{mul_comm, mul_assoc, mul-add, add-mul, mul_left_comm, one-mul, mul-le-mul, mul-le-mul_left, mul-le-mul_right, div-mul-le_self}
use native.Mathlib.Omega.{arith}
use Rattle.pixel_place.specs.declared.Place.{Place}
use Rattle.pixel_place.specs.Blend.{pair_of, Sound}
use Rattle.pixel_place.proofs.Laws.{pair_most}
use Rattle.pixel_table.proofs.Patches.{patch_next, patch_end, patch_same}
use Rattle.pixel_table.specs.Table.{patch_of, side_at, start_sum, step_of, entry_of, Tiles, Scaled}

-- ---- entries

module _ (by : ℕ) (column row : Place) (a b c d : List ℕ) (k v : ℕ) where
  -- entry 2k is the start of bin k
  pub entry_start : entry_of by column row a b c d (2 * k) v ≡ start_sum by column (side_at row a c k)
  unfolding entry_of
  entry_start =
      let e : 2 * k % 2 ≡ 0 = omega arith in
      let h : 2 * k / 2 ≡ k = omega arith in
      rw (eq-eqb (2 * k % 2) 0 e, h) refl

  -- entry 2k + 1 its step
  pub entry_step : entry_of by column row a b c d (2 * k + 1) v ≡ step_of by row (side_at row a c k) (side_at row b d k)
  unfolding entry_of
  entry_step =
      let e : (2 * k + 1) % 2 ≡ 0 → ⊥ = λ z. omega (arith, z) in
      let h : (2 * k + 1) / 2 ≡ k = omega arith in
      rw (ne_eqb ((2 * k + 1) % 2) 0 e, h) refl

-- ---- products with the factor

-- a weighted value times the factor
weight_scaled : (by w v : ℕ) → w * by * v ≡ by * (w * v)
weight_scaled by w v = ap (λ t. t * v) (mul_comm w by) ∙ mul_assoc by w v

-- a pair of such
pub pair_scaled : (by : ℕ) (row : Place) (x y : ℕ) → row.lowerweight * by * x + row.upperweight * by * y ≡ by * pair_of row x y
pair_scaled by row x y =
    ap₂ (λ s t. s + t) (weight_scaled by row.lowerweight x) (weight_scaled by row.upperweight y)
    ∙ sym (mul-add by (row.lowerweight * x) (row.upperweight * y))

-- the difference, kept above 0
step_scaled : (by l r m : ℕ) → l ≤ m → by * r + by * m - by * l ≡ by * (r + m - l)
step_scaled by l r m h =
    let whole : r + m - l + l ≡ r + m = omega arith in
    omega (arith, mul-add by (r + m - l) l, ap (λ t. by * t) whole, mul-add by r m)

-- ---- what `fill` asks and comes to

module _ {by : ℕ} {column row : Place} (sc : Scaled by column row) where
  -- the largest pair times the factor
  pub largest_room : by * (row.span * 4095) ≤ by * (column.span * (row.span * 4095))
  largest_room = mul-le-mul_left by (omega (arith, mul-le-mul_right (row.span * 4095) sc.column.some, one-mul (row.span * 4095)))

  -- as the code multiplies it
  pub most_room : row.span * 4095 * by < 4611686018427387904
  most_room = omega (arith, largest_room, mul_comm (row.span * 4095) by, sc.room)

  -- a weight times the factor
  weight_room : {w : ℕ} → w ≤ row.span → w * by < 4611686018427387904
  weight_room {w} h =
      let small : w ≤ row.span * 4095 = omega arith in
      omega (arith, mul-le-mul_right by small, most_room)

  pub upper_room : row.lowerweight * by < 4611686018427387904
  upper_room = weight_room (omega (arith, sc.row.weights))

  pub lower_room : row.upperweight * by < 4611686018427387904
  lower_room = weight_room (omega (arith, sc.row.weights))

  module _ {x y : ℕ} (hx : x ≤ 4095) (hy : y ≤ 4095) where
    pub pair_fits : pair_of row x y ≤ row.span * 4095
    pair_fits = pair_most sc.row hx hy

    -- a pair times the factor
    pub pair_room : row.lowerweight * by * x + row.upperweight * by * y < 4611686018427387904
    pair_room = omega (arith, pair_scaled by row x y, mul-le-mul_left by pair_fits, largest_room, sc.room)

    -- it is no larger than the largest
    pub pair_under : {v : ℕ} → v ≡ row.lowerweight * by * x + row.upperweight * by * y → v ≤ row.span * 4095 * by
    pair_under e = omega (arith, e, pair_scaled by row x y, mul-le-mul_left by pair_fits, mul_comm (row.span * 4095) by)

    -- and the sum at the centre
    pub start_is : {v : ℕ} → v ≡ row.lowerweight * by * x + row.upperweight * by * y → column.span * v ≡ start_sum by column (pair_of row x y)
    start_is e = ap (λ t. column.span * t) (e ∙ pair_scaled by row x y) ∙ mul_left_comm column.span by (pair_of row x y)

    pub start_room : {v : ℕ} → v ≡ row.lowerweight * by * x + row.upperweight * by * y → column.span * v < 4611686018427387904
    start_room {v} e =
        omega (arith, start_is e, mul-le-mul_left by (mul-le-mul_left column.span pair_fits), sc.room)

    -- and what it moves by
    pub step_is : (w z : ℕ) {u v : ℕ} → v ≡ row.lowerweight * by * x + row.upperweight * by * y → u ≡ row.lowerweight * by * w + row.upperweight * by * z
        → u + row.span * 4095 * by - v ≡ step_of by row (pair_of row x y) (pair_of row w z)
    step_is w z e f =
        ap₂ (λ s t. s + row.span * 4095 * by - t) (f ∙ pair_scaled by row w z) (e ∙ pair_scaled by row x y)
        ∙ ap (λ t. by * pair_of row w z + t - by * pair_of row x y) (mul_comm (row.span * 4095) by)
        ∙ step_scaled by (pair_of row x y) (pair_of row w z) (row.span * 4095) pair_fits

-- entry n as the loop makes it, from the numbers that it is handed
unfoldable pub raw_of : ℕ → ℕ → ℕ → ℕ → List ℕ → List ℕ → List ℕ → List ℕ → ℕ → ℕ → ℕ
raw_of span upper lower most a b c d n v =
    cond (eqb (n % 2) 0)
    (span * (upper * get_or a (n / 2) 0 + lower * get_or c (n / 2) 0))
    (upper * get_or b (n / 2) 0 + lower * get_or d (n / 2) 0 + most - (upper * get_or a (n / 2) 0 + lower * get_or c (n / 2) 0))

module _ (span upper lower most : ℕ) (a b c d : List ℕ) (k v : ℕ) where
  raw_start : raw_of span upper lower most a b c d (2 * k) v ≡ span * (upper * get_or a k 0 + lower * get_or c k 0)
  unfolding raw_of
  raw_start =
      let e : 2 * k % 2 ≡ 0 = omega arith in
      let h : 2 * k / 2 ≡ k = omega arith in
      rw (eq-eqb (2 * k % 2) 0 e, h) refl

  raw_step : raw_of span upper lower most a b c d (2 * k + 1) v ≡ upper * get_or b k 0 + lower * get_or d k 0 + most - (upper * get_or a k 0 + lower * get_or c k 0)
  unfolding raw_of
  raw_step =
      let e : (2 * k + 1) % 2 ≡ 0 → ⊥ = λ z. omega (arith, z) in
      let h : (2 * k + 1) / 2 ≡ k = omega arith in
      rw (ne_eqb ((2 * k + 1) % 2) 0 e, h) refl

-- two entries more
pub fill_next : (span upper lower most : ℕ) (a b c d t : List ℕ) (at k : ℕ) {px : List ℕ} {l r : ℕ} → px ≡ patch_of (raw_of span upper lower most a b c d) t at (2 * k)
    → at ≤ 2 * k → 2 * k + 1 < length t → l ≡ upper * get_or a k 0 + lower * get_or c k 0 → r ≡ upper * get_or b k 0 + lower * get_or d k 0
    → set (set px (2 * k) (span * l)) (2 * k + 1) (r + most - l) ≡ patch_of (raw_of span upper lower most a b c d) t at (2 * (k + 1))
fill_next span upper lower most a b c d t at k {px} {l} {r} e m h hl hr =
    patch_end f t at (2 * k + 1 + 1)
    (patch_next f t at (2 * k + 1)
    (patch_next f t at (2 * k) e m (omega arith) (ap (λ z. span * z) hl ∙ sym (raw_start span upper lower most a b c d k (get_or px (2 * k) 0)))) (omega arith) h
    (ap₂ (λ y z. y + most - z) hr hl ∙ sym (raw_step span upper lower most a b c d k (get_or (set px (2 * k) (span * l)) (2 * k + 1) 0))))
    (omega arith) (omega arith)
  where
    f : ℕ → ℕ → ℕ
    f = raw_of span upper lower most a b c d

-- what the loop makes is the table
module _ {by : ℕ} {column row : Place} (sc : Scaled by column row) {a b c d : List ℕ} {n : ℕ} (tiles : Tiles a b c d n) where
  raw_is : (i v : ℕ) → i < 2 * n → raw_of column.span (row.lowerweight * by) (row.upperweight * by) (row.span * 4095 * by) a b c d i v ≡ entry_of by column row a b c d i v
  unfolding raw_of entry_of
  raw_is i v h =
      let k : i / 2 < n = omega arith in
      ap₂ (cond (eqb (i % 2) 0))
      (start_is sc (tiles.most (i / 2) k).0 (tiles.most (i / 2) k).2 refl)
      (step_is sc (tiles.most (i / 2) k).0 (tiles.most (i / 2) k).2 (get_or b (i / 2) 0) (get_or d (i / 2) 0) refl refl)

  pub fill_end : (t : List ℕ) (low : ℕ) {top k : ℕ} {px : List ℕ} → px ≡ patch_of (raw_of column.span (row.lowerweight * by) (row.upperweight * by) (row.span * 4095 * by) a b c d) t (2 * low) (2 * k)
      → k ≤ top → top ≤ k → top ≤ n → px ≡ patch_of (entry_of by column row a b c d) t (2 * low) (2 * top)
  fill_end t low {top} {k} e l h m =
      patch_end _ t (2 * low) (2 * k) e (omega arith) (omega arith)
      ∙ patch_same _ (entry_of by column row a b c d) t (λ i p q. raw_is i (get_or t i 0) (omega arith))

-- ---- a sum moved from the centre

-- moved x times, it is the weighted sum x columns on, and what kept the step above 0
pub sum_moved : (by s x l r m : ℕ) → x ≤ s → l ≤ m → by * (s * l) + x * (by * (r + m - l)) ≡ by * ((s - x) * l + x * r) + x * (m * by)
sum_moved by s x l r m h k =
    let whole : s - x + x ≡ s = omega arith in
    let back : r + m - l + l ≡ r + m = omega arith in
    let split : s * l ≡ (s - x) * l + x * l = ap (λ t. t * l) (sym whole) ∙ add-mul (s - x) x l in
    let steps : x * (r + m - l) + x * l ≡ x * r + x * m = sym (mul-add x (r + m - l) l) ∙ ap (λ t. x * t) back ∙ mul-add x r m in
    let all : by * (x * (r + m - l)) + by * (x * l) ≡ by * (x * r) + by * (x * m) =
    sym (mul-add by (x * (r + m - l)) (x * l)) ∙ ap (λ t. by * t) steps ∙ mul-add by (x * r) (x * m) in
    let off : x * (m * by) ≡ by * (x * m) = sym (mul_assoc x m by) ∙ mul_comm (x * m) by in
    omega (
      arith,
      ap (λ t. by * t) split ∙ mul-add by ((s - x) * l) (x * l),
      mul_left_comm x by (r + m - l),
      all,
      off,
      mul-add by ((s - x) * l) (x * r),
    )

-- the factor of spans of at most 2^19 keeps every weighted sum below 2^62
pub factor_scaled : {column row : Place} → Sound 16 2048 column → Sound 16 2048 row → column.span * row.span ≤ 524288 → Scaled (1125899906842624 / (column.span * row.span) + 1) column row
factor_scaled {column} {row} i j h =
    let d : ℕ = column.span * row.span in
    let near : (1125899906842624 / d + 1) * d ≤ 1125899907366912 = rw (add-mul (1125899906842624 / d) 1 d) (omega (arith, div-mul-le_self 1125899906842624 d, one-mul d)) in
    let same : (1125899906842624 / d + 1) * (column.span * (row.span * 4095)) ≡ (1125899906842624 / d + 1) * d * 4095 =
    ap (λ t. (1125899906842624 / d + 1) * t) (sym (mul_assoc column.span row.span 4095)) ∙ sym (mul_assoc (1125899906842624 / d + 1) d 4095) in
    record { column = i; row = j; room = omega (arith, same, near) }

-- and none keeps them smaller still
pub none_scaled : {column row : Place} → Sound 16 2048 column → Sound 16 2048 row → Scaled 1 column row
none_scaled {column} {row} i j =
    record { column = i; row = j; room = omega (arith, one-mul (column.span * (row.span * 4095)), mul-le-mul i.bound (mul-le-mul_right 4095 j.bound)) }
