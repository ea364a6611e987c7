-- Laws of sound places and of the grey: what callers use, so that nobody opens `grey_of`.
-- Assumes nothing.
use Prim.Native.Nat.{ℕ, ◌+◌, ◌-◌, ◌*◌, ◌/◌, ◌≤◌, ◌<◌}
use mathlib.Core.Path.{◌≡◌, refl, sym, ap, ap₂, ◌∙◌}
use borrow.Author.Tests.{lt-ltb, le-ltb}
use native.Mathlib.Nat.{mul_comm, mul_assoc, add-mul, zero-mul, mul-le-mul_left, mul-le-mul_right, le-div_iff_mul-le, mul-div_cancel_left, mul-pos, div-le_of_le-mul, le_refl, div-mul-le_self, one-mul, mul-le-mul, mul-add, mul_left_comm}
use native.Mathlib.Omega.{arith}
use Rattle.pixel_place.specs.declared.Place.{Place}
use Rattle.pixel_place.specs.Blend.{weighed_of, grey_of, pair_of, sides_of, Sound, inverse_of, Inverse, moved}
use Rattle.base_lists.proofs.Inverses.{by_inverse}

-- ---- the grey

-- weights p and q that add up to s, and values of at least l: so is their weighted sum, times s
pub mean_least : (p q s a b l : ℕ) → p + q ≡ s → l ≤ a → l ≤ b → s * l ≤ p * a + q * b
mean_least p q s a b l e h k = rw (← e, add-mul p q l) (omega (arith, mul-le-mul_left p h, mul-le-mul_left q k))

-- the same from above
pub mean_most : (p q s a b m : ℕ) → p + q ≡ s → a ≤ m → b ≤ m → p * a + q * b ≤ s * m
mean_most p q s a b m e h k = rw (← e, add-mul p q m) (omega (arith, mul-le-mul_left p h, mul-le-mul_left q k))

-- a sound place's weighted sum of two values of at most `hi`: what keeps the sums in 64 bits
pub weigh_most : {grid most : ℕ} {p : Place} {a b hi : ℕ} → Sound grid most p → a ≤ hi → b ≤ hi → p.lowerweight * a + p.upperweight * b ≤ most * hi
weigh_most {grid} {most} {p} {a} {b} {hi} i h k =
    omega (arith, mean_most p.lowerweight p.upperweight p.span a b hi i.weights h k, mul-le-mul_right hi i.bound)

-- what the grey divides by, regrouped
spans_times : (c r l : ℕ) → r * (c * l) ≡ c * r * l
spans_times c r l = sym (mul_assoc r c l) ∙ ap (λ n. n * l) (mul_comm r c)

-- the weighed sum of four values of at most `hi`, against what it is divided by
pub weighed_most : {grid most grid' most' : ℕ} {column row : Place} {hi a b c d : ℕ} → Sound grid most column → Sound grid' most' row
    → a ≤ hi → b ≤ hi → c ≤ hi → d ≤ hi → weighed_of column row a b c d ≤ column.span * row.span * hi
weighed_most {column = column} {row = row} {hi = hi} {a = a} {b = b} {c = c} {d = d} i j ha hb hc hd =
    rw (← spans_times column.span row.span hi)
    (mean_most row.lowerweight row.upperweight row.span _ _ (column.span * hi) j.weights
    (mean_most column.lowerweight column.upperweight column.span a b hi i.weights ha hb)
    (mean_most column.lowerweight column.upperweight column.span c d hi i.weights hc hd))

module _ {grid most grid' most' : ℕ} {column row : Place} (i : Sound grid most column) (j : Sound grid' most' row) where
  -- what the grey divides by is above 0
  pub spans_some : 0 < column.span * row.span
  spans_some = mul-pos i.some j.some

  -- the grey is never below the least of the four values
  pub grey_least : {lo a b c d : ℕ} → lo ≤ a → lo ≤ b → lo ≤ c → lo ≤ d → lo ≤ grey_of column row a b c d
  unfolding grey_of
  grey_least {lo} {a} {b} {c} {d} ha hb hc hd =
      (le-div_iff_mul-le spans_some).1
      (rw (mul_comm lo (column.span * row.span), ← spans_times column.span row.span lo)
      (mean_least row.lowerweight row.upperweight row.span _ _ (column.span * lo) j.weights
      (mean_least column.lowerweight column.upperweight column.span a b lo i.weights ha hb)
      (mean_least column.lowerweight column.upperweight column.span c d lo i.weights hc hd)))

  -- nor above the greatest
  pub grey_most : {hi a b c d : ℕ} → a ≤ hi → b ≤ hi → c ≤ hi → d ≤ hi → grey_of column row a b c d ≤ hi
  unfolding grey_of
  grey_most ha hb hc hd = div-le_of_le-mul (column.span * row.span) (weighed_most i j ha hb hc hd)

  -- so it stays within any bounds that hold all four
  pub grey_within :
      {lo hi a b c d : ℕ}
      → (lo ≤ a) × (a ≤ hi)
      → (lo ≤ b) × (b ≤ hi)
      → (lo ≤ c) × (c ≤ hi)
      → (lo ≤ d) × (d ≤ hi)
      → (lo ≤ grey_of column row a b c d) × (grey_of column row a b c d ≤ hi)
  grey_within ha hb hc hd = (grey_least ha.0 hb.0 hc.0 hd.0, grey_most ha.1 hb.1 hc.1 hd.1)

  -- "both sides of that pair are the same tile": four times the same value gives that value
  pub grey_same : (a : ℕ) → grey_of column row a a a a ≡ a
  grey_same a =
      let l : a ≤ grey_of column row a a a a = grey_least (le_refl a) (le_refl a) (le_refl a) (le_refl a) in
      let m : grey_of column row a a a a ≤ a = grey_most (le_refl a) (le_refl a) (le_refl a) (le_refl a) in
      omega arith

  -- "used alone": where the upper tiles have no weight the grey is the upper left value
  pub grey_alone : (a b c d : ℕ) → column.upperweight ≡ 0 → row.upperweight ≡ 0 → grey_of column row a b c d ≡ a
  unfolding grey_of
  grey_alone a b c d p q =
      let s : column.lowerweight ≡ column.span = omega (arith, i.weights) in
      let t : row.lowerweight ≡ row.span = omega (arith, j.weights) in
      let f : column.span * a + 0 * b ≡ column.span * a = omega (arith, zero-mul b) in
      let g : row.span * (column.span * a) + 0 * (column.span * c + 0 * d) ≡ column.span * row.span * a =
      omega (arith, zero-mul (column.span * c + 0 * d), spans_times column.span row.span a) in
      rw (p, q, s, t, f, g) (mul-div_cancel_left a spans_some)

-- a sound place is sound under wider bounds
pub sound_wider : {grid most grid' most' : ℕ} {p : Place} → Sound grid most p → grid ≤ grid' → most ≤ most' → Sound grid' most' p
sound_wider i g m = record { weights = i.weights; some = i.some; bound = omega arith; lower = omega arith; upper = omega arith }

-- ---- a factor in place of the division

-- the weighed sum times the factor stays in 64 bits
pub factor_room : (n d f : ℕ) → n ≤ d * 4095 → 0 < f → Inverse d f → n * f ≤ 4095 * 4503599628419072
factor_room n d f h k i =
    let e : f ≡ 4503599627370496 / d + 1 = i.inverse k in
    let s : d ≤ 1048576 = i.small k in
    let u : (4503599627370496 / d + 1) * d ≤ 4503599628419072 = rw (add-mul (4503599627370496 / d) 1 d) (omega (arith, div-mul-le_self 4503599627370496 d, one-mul d)) in
    let v : n * f ≤ d * 4095 * f = mul-le-mul_right f h in
    let w : d * 4095 * f ≡ 4095 * (f * d) = ap (λ t. t * f) (mul_comm d 4095) ∙ mul_assoc 4095 d f ∙ ap (λ t. 4095 * t) (mul_comm d f) in
    let y : f * d ≤ 4503599628419072 = rw e u in
    omega arith

-- and gives the quotient
pub factor_divides : (n d f : ℕ) → n ≤ d * 4095 → 0 < d → 0 < f → Inverse d f → n * f / 4503599627370496 ≡ n / d
factor_divides n d f h l k i =
    let s : d ≤ 1048576 = i.small k in
    let v : n * d ≤ d * 4095 * d = mul-le-mul_right d h in
    let w : d * 4095 * d ≡ 4095 * (d * d) = ap (λ t. t * d) (mul_comm d 4095) ∙ mul_assoc 4095 d d in
    let y : d * d ≤ 1048576 * 1048576 = mul-le-mul s s in
    ap (λ t. n * t / 4503599627370496) (i.inverse k) ∙ by_inverse 4503599627370496 n d l (omega arith)

-- ---- by columns first

-- a pair of values of at most `hi`
pub pair_most : {grid most : ℕ} {p : Place} {a b hi : ℕ} → Sound grid most p → a ≤ hi → b ≤ hi → pair_of p a b ≤ p.span * hi
pair_most {p = p} {a = a} {b = b} {hi = hi} i h k = mean_most p.lowerweight p.upperweight p.span a b hi i.weights h k

-- so a row's pair is small
pub side_small : {grid : ℕ} {row : Place} {v : ℕ} → Sound grid 2048 row → v ≤ row.span * 4095 → v ≤ 2048 * 4095
side_small j h = omega (arith, mul-le-mul_right 4095 j.bound)

module _ {grid most grid' most' : ℕ} {column row : Place} (i : Sound grid most column) (j : Sound grid' most' row) {l r : ℕ} (h : l ≤ row.span * 4095) (k : r ≤ row.span * 4095) where
  -- what is divided, against what it is divided by
  pub sides_weighed : pair_of column l r ≤ column.span * row.span * 4095
  sides_weighed = rw (mul_assoc column.span row.span 4095) (pair_most i h k)

  -- the grey is at most 4095
  pub sides_most : sides_of column row l r ≤ 4095
  unfolding sides_of
  sides_most = div-le_of_le-mul (column.span * row.span) sides_weighed

-- the four mapped values by columns first: the weighed sum is the same
pub weighed_sides : (column row : Place) (a b c d : ℕ) → pair_of column (pair_of row a c) (pair_of row b d) ≡ weighed_of column row a b c d
weighed_sides p row a b c d =
    omega (
      arith,
      mul-add row.lowerweight (p.lowerweight * a) (p.upperweight * b),
      mul-add row.upperweight (p.lowerweight * c) (p.upperweight * d),
      mul-add p.lowerweight (row.lowerweight * a) (row.upperweight * c),
      mul-add p.upperweight (row.lowerweight * b) (row.upperweight * d),
      mul_left_comm row.lowerweight p.lowerweight a,
      mul_left_comm row.lowerweight p.upperweight b,
      mul_left_comm row.upperweight p.lowerweight c,
      mul_left_comm row.upperweight p.upperweight d,
    )

-- and so is the grey
pub sides_grey : (column row : Place) (a b c d : ℕ) → sides_of column row (pair_of row a c) (pair_of row b d) ≡ grey_of column row a b c d
unfolding sides_of grey_of
sides_grey column row a b c d = ap (λ n. n / (column.span * row.span)) (weighed_sides column row a b c d)

-- ---- weights that move along

-- a sound place moved along is sound
pub moved_sound : {grid most : ℕ} {p : Place} (j : ℕ) → Sound grid most p → j ≤ p.lowerweight → Sound grid most (moved p j)
moved_sound j i l = record { weights = omega (arith, i.weights); some = i.some; bound = i.bound; lower = i.lower; upper = i.upper }

-- where both sides have the same value the weights may move
pub pair_moved : (p : Place) (j v : ℕ) → j ≤ p.lowerweight → pair_of (moved p j) v v ≡ pair_of p v v
pair_moved p j v l =
    let sums : p.lowerweight - j + (p.upperweight + j) ≡ p.lowerweight + p.upperweight = omega arith in
    sym (add-mul (p.lowerweight - j) (p.upperweight + j) v) ∙ ap (λ z. z * v) sums ∙ add-mul p.lowerweight p.upperweight v

-- so the grey stays
pub grey_moved : (p row : Place) (j a c : ℕ) → j ≤ p.lowerweight → grey_of (moved p j) row a a c c ≡ grey_of p row a a c c
unfolding grey_of
grey_moved p row j a c l = ap₂ (λ u v. (row.lowerweight * u + row.upperweight * v) / (p.span * row.span)) (pair_moved p j a l) (pair_moved p j c l)

-- and so does the grey from pairs
pub sides_moved : (p row : Place) (j l : ℕ) → j ≤ p.lowerweight → sides_of (moved p j) row l l ≡ sides_of p row l l
unfolding sides_of
sides_moved p row j l h = ap (λ n. n / (p.span * row.span)) (pair_moved p j l h)

-- ---- what `factor` answers

pub inverse_large : (d : ℕ) → 1048576 < d → 0 ≡ inverse_of d
unfolding inverse_of
inverse_large d h = rw (lt-ltb 1048576 d h) refl

pub inverse_small : (d : ℕ) → d ≤ 1048576 → 4503599627370496 / d + 1 ≡ inverse_of d
unfolding inverse_of
inverse_small d h = rw (le-ltb 1048576 d h) refl
