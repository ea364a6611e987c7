-- Laws of edges and centres: each tile has a column at least, centres rise, and where the side is a multiple of the grid all tiles are alike.
-- Assumes nothing.
use Prim.Native.Nat.{ℕ, ◌+◌, ◌-◌, ◌*◌, ◌/◌, ◌≤◌, ◌<◌}
use mathlib.Core.Bool.{Bool, true, false}
use mathlib.Core.Path.{◌≡◌, refl, sym, ap, ◌∙◌}
use lib.Dec.{ltb}
use borrow.Author.Tests.{ltb-true, ltb-false}
use native.Mathlib.Nat.{mul_comm, mul_assoc, add-mul, one-mul, zero-mul, zero-div, mul-pos, mul-le-mul_right, div-lt_iff_lt-mul, le-div_iff_mul-le, div-mul-le_self, lt-div-mul-add, mul-div_cancel_left}
use native.Mathlib.Omega.{arith}
use Rattle.pixel_grid.specs.Grid.{edge_of, size_of, centre_of, Fits}

-- the quotient of a sum is at least the sum of the quotients
div_sum_least : (a b n : ℕ) → 0 < n → a / n + b / n ≤ (a + b) / n
div_sum_least a b n p =
    (le-div_iff_mul-le {x = a / n + b / n} {y = a + b} p).1 (omega (arith, add-mul (a / n) (b / n) n, div-mul-le_self a n, div-mul-le_self b n))

-- and at most the one and the other rounded up
div_add_up : (a d n : ℕ) → 0 < n → (a + d) / n ≤ a / n + (d + n - 1) / n
div_add_up a d n p =
    let q : ℕ = a / n in
    let u : ℕ = (d + n - 1) / n in
    let below-a : a < q * n + n = lt-div-mul-add p in
    let below-d : d + n - 1 < u * n + n = lt-div-mul-add p in
    let room : (q + u + 1) * n ≡ q * n + u * n + 1 * n = add-mul (q + u) 1 n ∙ ap (λ t. t + 1 * n) (add-mul q u n) in
    let small : (a + d) / n < q + u + 1 = (div-lt_iff_lt-mul {x = a + d} {y = q + u + 1} p).1 (omega arith) in
    omega arith

-- an edge is the one before it and a grid's part of the side
edge_next : (side grid i : ℕ) → edge_of side grid (i + 1) ≡ (i * side + side) / grid
unfolding edge_of
edge_next side grid i = ap (λ t. t / grid) (add-mul i 1 side ∙ ap (λ t. i * side + t) (one-mul side))

-- the first tile starts with the film
pub edge_first : (side grid : ℕ) → edge_of side grid 0 ≡ 0
unfolding edge_of
edge_first side grid = ap (λ t. t / grid) (zero-mul side) ∙ zero-div grid

module _ {side grid : ℕ} (fits : Fits side grid) where
  some : 0 < grid
  some = omega (arith, fits.some)

  part : 1 ≤ side / grid
  part = (le-div_iff_mul-le {x = 1} {y = side} some).1 (omega (arith, one-mul grid, fits.least))

  -- the last tile ends with the film
  pub edge_last : edge_of side grid grid ≡ side
  unfolding edge_of
  edge_last = mul-div_cancel_left side some

  -- each tile has a column at least
  pub edge_rises : (i : ℕ) → edge_of side grid i < edge_of side grid (i + 1)
  unfolding edge_of
  edge_rises i = rw (edge_next side grid i) (omega (arith, div_sum_least (i * side) side grid some, part))

  -- so edges rise
  pub edge_order : {i k : ℕ} → i ≤ k → edge_of side grid i ≤ edge_of side grid k
  unfolding edge_of
  edge_order {i} {k} l = (le-div_iff_mul-le {x = i * side / grid} {y = k * side} some).1 (omega (arith, div-mul-le_self (i * side) grid, mul-le-mul_right side l))

  -- no edge lies past the side
  pub edge_most : (i : ℕ) → i ≤ grid → edge_of side grid i ≤ side
  edge_most i h = omega (arith, edge_order h, edge_last)

  -- ---- sizes

  -- a tile ends where the next one starts
  pub size_ends : (i : ℕ) → edge_of side grid i + size_of side grid i ≡ edge_of side grid (i + 1)
  unfolding size_of
  size_ends i = omega (arith, edge_rises i)

  -- inside the film
  pub size_inside : (i : ℕ) → i < grid → edge_of side grid i + size_of side grid i ≤ side
  size_inside i h = omega (arith, size_ends i, edge_most (i + 1) (omega arith))

  pub size_some : (i : ℕ) → 0 < size_of side grid i
  size_some i = omega (arith, size_ends i, edge_rises i)

  -- and has 2048 columns at most
  pub size_most : (i : ℕ) → size_of side grid i ≤ 2048
  unfolding edge_of size_of
  size_most i =
      let up : (side + grid - 1) / grid < 2049 = (div-lt_iff_lt-mul {x = side + grid - 1} {y = 2049} some).1 (omega (arith, fits.some, fits.most)) in
      rw (edge_next side grid i) (omega (arith, div_add_up (i * side) side grid some))

  -- it has a grid's part of the side, rounded down, or a column more
  pub size_part : (i : ℕ) → (side / grid ≤ size_of side grid i) × (size_of side grid i ≤ side / grid + 1)
  unfolding edge_of size_of
  size_part i =
      let below : side < side / grid * grid + grid = lt-div-mul-add some in
      let twice : (side / grid + 2) * grid ≡ side / grid * grid + 2 * grid = add-mul (side / grid) 2 grid in
      let up : (side + grid - 1) / grid < side / grid + 2 = (div-lt_iff_lt-mul {x = side + grid - 1} {y = side / grid + 2} some).1 (omega arith) in (
        rw (edge_next side grid i) (omega (arith, div_sum_least (i * side) side grid some)),
        rw (edge_next side grid i) (omega (arith, div_add_up (i * side) side grid some)),
      )

  -- so two tiles differ by a column at most
  pub size_near : (i k : ℕ) → size_of side grid i ≤ size_of side grid k + 1
  size_near i k = omega (arith, (size_part i).1, (size_part k).0)

  -- ---- centres

  -- a tile's centre is one of its columns
  pub centre_least : (i : ℕ) → edge_of side grid i ≤ centre_of side grid i
  unfolding centre_of
  centre_least i = omega (arith, edge_rises i)

  pub centre_most : (i : ℕ) → centre_of side grid i < edge_of side grid (i + 1)
  unfolding centre_of
  centre_most i = omega (arith, edge_rises i)

  -- so centres rise
  pub centre_rises : (i : ℕ) → centre_of side grid i < centre_of side grid (i + 1)
  centre_rises i = omega (arith, centre_most i, centre_least (i + 1))

  -- the distance between two is 2048 at most
  pub centre_apart : (i : ℕ) → centre_of side grid (i + 1) - centre_of side grid i ≤ 2048
  unfolding centre_of
  centre_apart i = omega (arith, size_ends i, size_ends (i + 1), size_most i, size_most (i + 1), edge_rises i, edge_rises (i + 1))

  -- ---- the tile of a column

  -- a column in front of the end of tile k lies in no tile behind it
  tile_before : {x i k : ℕ} → edge_of side grid i ≤ x → x < edge_of side grid (k + 1) → i ≤ k
  tile_before {x} {i} {k} l m = go (ltb k i) refl
    where
      go : (b : Bool) → ltb k i ≡ b → i ≤ k
      go true e = let q : k + 1 ≤ i = omega (arith, ltb-true k i e) in absurd (omega (arith, edge_order q))
      go false e = ltb-false k i e

  module _ {x t : ℕ} (h : x < side) (e : t ≡ ((x + 1) * grid - 1) / side) where
    wide : 0 < side
    wide = omega arith

    tile_low : t * side ≤ (x + 1) * grid - 1
    tile_low = omega (arith, ap (λ k. k * side) e, div-mul-le_self ((x + 1) * grid - 1) side)

    tile_high : (x + 1) * grid - 1 < t * side + side
    tile_high = let l : (x + 1) * grid - 1 < ((x + 1) * grid - 1) / side * side + side = lt-div-mul-add wide in omega (arith, ap (λ k. k * side) e)

    reach : 0 < (x + 1) * grid
    reach = mul-pos (omega arith) some

    -- it is one of the grid's
    pub tile_in : t < grid
    tile_in =
        let q : x + 1 ≤ side = omega arith in
        let m : (x + 1) * grid ≤ side * grid = mul-le-mul_right grid q in
        let d : ((x + 1) * grid - 1) / side < grid = (div-lt_iff_lt-mul {x = (x + 1) * grid - 1} {y = grid} wide).1 (omega (arith, reach, mul_comm side grid)) in
        omega arith

    -- x is one of its columns
    pub tile_starts : edge_of side grid t ≤ x
    unfolding edge_of
    tile_starts =
        let l : t * side / grid < x + 1 = (div-lt_iff_lt-mul {k = grid} {x = t * side} {y = x + 1} some).1 (omega (arith, tile_low, reach)) in
        omega arith

    pub tile_ends : x < edge_of side grid (t + 1)
    unfolding edge_of
    tile_ends =
        let l : x + 1 ≤ (t + 1) * side / grid = (le-div_iff_mul-le {k = grid} {x = x + 1} {y = (t + 1) * side} some).1 (omega (arith, tile_high, reach, add-mul t 1 side, one-mul side)) in
        omega arith

    -- and of no other tile: tiles cover the film without gap or overlap
    pub tile_one : {k : ℕ} → edge_of side grid k ≤ x → x < edge_of side grid (k + 1) → k ≡ t
    tile_one l m = omega (arith, tile_before l tile_ends, tile_before tile_starts m)

-- ---- sides that are multiples of the grid: all tiles are tw wide

pub edge_fitted : (tw grid i : ℕ) → 0 < grid → edge_of (tw * grid) grid i ≡ i * tw
unfolding edge_of
edge_fitted tw grid i p = ap (λ t. t / grid) (sym (mul_assoc i tw grid) ∙ mul_comm (i * tw) grid) ∙ mul-div_cancel_left (i * tw) p

module _ (tw grid i : ℕ) (p : 0 < grid) where
  pub size_fitted : size_of (tw * grid) grid i ≡ tw
  unfolding size_of
  size_fitted = rw (edge_fitted tw grid i p, edge_fitted tw grid (i + 1) p) (omega (arith, add-mul i 1 tw, one-mul tw))

  pub centre_fitted : centre_of (tw * grid) grid i ≡ i * tw + tw / 2
  unfolding centre_of
  centre_fitted = rw (edge_fitted tw grid i p, edge_fitted tw grid (i + 1) p) (omega (arith, add-mul i 1 tw, one-mul tw))
