-- Document 02, order 10, how far a scratch reaches: films that differ in a rectangle alone are alike for every pixel beyond it.
-- Assumes nothing.
use Prim.Native.Nat.{ℕ, zero, suc, ◌+◌, ◌*◌, ◌≤◌, ◌<◌}
use native.Mathlib.Nat.{mul-zero, zero-mul}
use native.Mathlib.Omega.{arith}
use lib.Arith.{digits_div, digits_mod}
use mathlib.Core.Bool.{Bool, true, false}
use mathlib.Core.List.{List}
use mathlib.Core.Path.{◌≡◌, refl, ap, ◌∙◌}
use lib.Dec.{ltb}
use borrow.Author.Tests.{ltb-true, ltb-false}
use Rattle.tile_count.specs.declared.Rect.{Rect}
use Rattle.pixel_grid.specs.Grid.{edge_of, size_of, centre_of, Fits}
use Rattle.pixel_grid.proofs.Edges.{edge_last, edge_most, edge_order, size_ends, centre_least, centre_most}
use Rattle.film_settings.specs.declared.Settings.{Settings}
use Rattle.film_settings.specs.Settings.{Tiled}
use Rattle.film_settings.proofs.Records.{tiled_columns, tiled_rows}
use Rattle.pixel_place.specs.declared.Place.{Place}
use Rattle.pixel_place.specs.Blend.{place_of}
use Rattle.pixel_place.proofs.Places.{by_cases, place_sound}
use Rattle.pixel_render.specs.Render.{column_place, row_place}
use Rattle.film_tiles.specs.Tiles.{tile_of}
use Rattle.film_tiles.proofs.Tiles.{tile_left, tile_top, tile_width_lem, tile_height_lem}
use Rattle.pixel_rule.specs.Reach.{LiesIn, AgreeOn, corner_tiles, AgreeAt, DifferIn, Past, before, behind, Beyond, aside, along, BeyondTile, left_of_lem, right_of, above, below}
use Rattle.pixel_rule.proofs.Local.{AgreeWeighed, used_agree}

-- ---- columns, and rows alike

-- what holds of the tiles that a place uses
record OfUsed (p : Place) (P : ℕ → Type 0) : Type 0 where
  lower : 0 < p.lowerweight → P p.lower
  upper : 0 < p.upperweight → P p.upper

any_used : (p : Place) → OfUsed p (λ t. Unit {0})
any_used p = record { lower = λ _. tt; upper = λ _. tt }

-- no column c of tile t lies from `from` up to `upto`
abbrev Misses : ℕ → ℕ → ℕ → ℕ → ℕ → Type 0
Misses side grid from upto t = (c : ℕ) → edge_of side grid t ≤ c → c < edge_of side grid (t + 1) → from ≤ c → c < upto → ⊥

module _ {side grid : ℕ} (fits : Fits side grid) where
  -- of two tiles the first one's centre lies before the second's, and only there
  centre_before : {i k : ℕ} → i < k → centre_of side grid i < centre_of side grid k
  centre_before {i} {k} l = omega (arith, centre_most fits i, edge_order fits {i = i + 1} {k = k} (omega arith), centre_least fits k)

  not_behind : {i k : ℕ} → centre_of side grid i ≤ centre_of side grid k → i ≤ k
  not_behind {i} {k} l = go (ltb k i) refl
    where
      go : (b : Bool) → ltb k i ≡ b → i ≤ k
      go true e = absurd (omega (arith, centre_before (ltb-true k i e)))
      go false e = ltb-false k i e

  is_before : {i k : ℕ} → centre_of side grid i < centre_of side grid k → i < k
  is_before {i} {k} l = go (ltb i k) refl
    where
      same : k ≤ i → i ≤ k → ⊥
      same a b = let e : i ≡ k = omega arith in omega (arith, ap (centre_of side grid) e)

      go : (b : Bool) → ltb i k ≡ b → i < k
      go true e = ltb-true i k e
      go false e = absurd (same (ltb-false i k e) (not_behind (omega arith)))

  -- a centre of the film's is that of one of its tiles
  in_grid : {x k : ℕ} → x < side → centre_of side grid k ≤ x → k < grid
  in_grid {x} {k} h l = go (ltb k grid) refl
    where
      go : (b : Bool) → ltb k grid ≡ b → k < grid
      go true e = ltb-true k grid e
      go false e = absurd (omega (arith, edge_last fits, edge_order fits (ltb-false k grid e), centre_least fits k))

  module _ {x : ℕ} (h : x < side) (k : ℕ) where
    -- a column on or before centre k uses no tile behind tile k
    used_before : x ≤ centre_of side grid k → OfUsed (place_of side grid x) (λ t. t ≤ k)
    used_before l =
        by_cases fits h refl
        record {
          first = λ a q. rw q (record { lower = λ _. omega arith; upper = λ _. omega arith });
          last = λ t e a q. rw q (record { lower = λ _. not_behind (omega arith); upper = λ _. not_behind (omega arith) });
          inner = λ t e a b q. rw q (record { lower = λ _. not_behind (omega arith); upper = λ some. omega (arith, is_before {i = t} {k = k} (omega (arith, some))) });
        }

    -- and one on or behind it none before tile k
    used_behind : centre_of side grid k ≤ x → OfUsed (place_of side grid x) (λ t. k ≤ t)
    used_behind l =
        by_cases fits h refl
        record {
          first = λ a q. absurd (omega (arith, is_before {i = k} {k = 0} (omega arith)));
          last = λ t e a q. rw q (record { lower = λ _. omega (arith, in_grid h l); upper = λ _. omega (arith, in_grid h l) });
          inner = λ t e a b q.
              let m : k < t + 1 = is_before (omega arith) in
              rw q (record { lower = λ _. omega arith; upper = λ _. omega arith });
        }

  module _ {from upto x : ℕ} where
    -- a column beyond a scratch uses no tile that the scratch lies in
    past_misses : x < side → Past side grid from upto x → OfUsed (place_of side grid x) (Misses side grid from upto)
    past_misses h (before k e l) =
        let u = used_before h k l in
        let miss : (t : ℕ) → t ≤ k → Misses side grid from upto t = λ t m c _ b f _. omega (arith, edge_order fits {i = t + 1} {k = k + 1} (omega arith)) in
        record { lower = λ some. miss _ (u.lower some); upper = λ some. miss _ (u.upper some) }
    past_misses h (behind k e l) =
        let u = used_behind h k l in
        let miss : (t : ℕ) → k ≤ t → Misses side grid from upto t = λ t m c a _ _ f. omega (arith, edge_order fits m) in
        record { lower = λ some. miss _ (u.lower some); upper = λ some. miss _ (u.upper some) }

    -- and does not lie in the scratch itself
    past_own : Past side grid from upto x → from ≤ x → x < upto → ⊥
    past_own (before k e l) a b = omega (arith, centre_most fits k)
    past_own (behind k e l) a b = omega (arith, centre_least fits k)

-- ---- the film

-- a product is above 0 where both factors are
both_above : (a b : ℕ) → 0 < a * b → (0 < a) × (0 < b)
both_above zero b l = absurd (omega (arith, zero-mul b))
both_above (suc a) zero l = absurd (omega (arith, mul-zero (suc a)))
both_above (suc a) (suc b) l = (omega arith, omega arith)

-- where the tile in column i and row j of the grid lies
module _ {w h : ℕ} {s : Settings} (tiled : Tiled w h s) {i : ℕ} (j : ℕ) (l : i < s.across) where
  begins_left : (tile_of w h s (j * s.across + i)).left ≡ edge_of w s.across i
  begins_left = tile_left w h s.across s.down _ ∙ ap (edge_of w s.across) (digits_mod j l)

  begins_top : (tile_of w h s (j * s.across + i)).top ≡ edge_of h s.down j
  begins_top = tile_top w h s.across s.down _ ∙ ap (edge_of h s.down) (digits_div j l)

  ends_right : (tile_of w h s (j * s.across + i)).left + (tile_of w h s (j * s.across + i)).width ≡ edge_of w s.across (i + 1)
  ends_right = omega (arith, begins_left, tile_width_lem w h s.across s.down (j * s.across + i) ∙ ap (size_of w s.across) (digits_mod j l), size_ends (tiled_columns tiled) i)

  ends_bottom : (tile_of w h s (j * s.across + i)).top + (tile_of w h s (j * s.across + i)).height ≡ edge_of h s.down (j + 1)
  ends_bottom = omega (arith, begins_top, tile_height_lem w h s.across s.down (j * s.across + i) ∙ ap (size_of h s.down) (digits_div j l), size_ends (tiled_rows tiled) j)

-- a pixel beyond the neighbouring tiles' centres is beyond a scratch in the tile
pub beyond_tile : {w h : ℕ} {s : Settings} → Tiled w h s → {i j x y : ℕ} → i < s.across → BeyondTile w h s i j x y → Beyond w h s (tile_of w h s (j * s.across + i)) x y
beyond_tile {w} {h} {s} tiled {i} {j} l (left_of_lem n e m) = aside (before n (omega (arith, begins_left tiled j l, ap (edge_of w s.across) e)) m)
beyond_tile {w} {h} {s} tiled {i} {j} l (right_of m) = aside (behind (i + 1) (omega (arith, ends_right tiled j l)) m)
beyond_tile {w} {h} {s} tiled {i} {j} l (above n e m) = along (before n (omega (arith, begins_top tiled j l, ap (edge_of h s.down) e)) m)
beyond_tile {w} {h} {s} tiled {i} {j} l (below m) = along (behind (j + 1) (omega (arith, ends_bottom tiled j l)) m)

module _ {w h : ℕ} {s : Settings} (tiled : Tiled w h s) (pic pic' : List ℕ) {x y : ℕ} (inx : x < w) (iny : y < h) where
  -- the films agree on the tiles of a pixel that have a weight, where they do on each tile of the columns and rows that its places use
  corners_agree : {P Q : ℕ → Type 0} → OfUsed (column_place w s x) P → OfUsed (row_place h s y) Q
      → ((i j : ℕ) → i < s.across → j < s.down → P i → Q j → AgreeOn w pic pic' (tile_of w h s (j * s.across + i))) → AgreeWeighed w h s pic pic' (corner_tiles w h s x y)
  unfolding corner_tiles
  corners_agree columns rows agree =
      let c = place_sound (tiled_columns tiled) inx in
      let r = place_sound (tiled_rows tiled) iny in (
        λ n. agree _ _ c.lower r.lower (columns.lower (both_above _ _ n).1) (rows.lower (both_above _ _ n).0),
        (
          λ n. agree _ _ c.upper r.lower (columns.upper (both_above _ _ n).1) (rows.lower (both_above _ _ n).0),
          (
            λ n. agree _ _ c.lower r.upper (columns.lower (both_above _ _ n).1) (rows.upper (both_above _ _ n).0),
            (λ n. agree _ _ c.upper r.upper (columns.upper (both_above _ _ n).1) (rows.upper (both_above _ _ n).0), tt),
          ),
        ),
      )

  module _ (r : Rect) (differ : DifferIn w h pic pic' r) where
    -- they agree on a tile in which the scratch does not lie
    tile_agrees : (i j : ℕ) → i < s.across → j < s.down
        → ((c d : ℕ) → edge_of w s.across i ≤ c → c < edge_of w s.across (i + 1) → edge_of h s.down j ≤ d → d < edge_of h s.down (j + 1) → LiesIn c d r → ⊥)
        → AgreeOn w pic pic' (tile_of w h s (j * s.across + i))
    tile_agrees i j l m misses c d lies =
        let left : edge_of w s.across i ≤ c = omega (arith, lies.left, begins_left tiled j l) in
        let right : c < edge_of w s.across (i + 1) = omega (arith, lies.right, ends_right tiled j l) in
        let top : edge_of h s.down j ≤ d = omega (arith, lies.top, begins_top tiled j l) in
        let bottom : d < edge_of h s.down (j + 1) = omega (arith, lies.bottom, ends_bottom tiled j l) in
        differ c d (omega (arith, edge_most (tiled_columns tiled) (i + 1) (omega arith))) (omega (arith, edge_most (tiled_rows tiled) (j + 1) (omega arith)))
        (misses c d left right top bottom)

    -- and are alike for every pixel beyond it
    pub rect_stays : Beyond w h s r x y → AgreeAt w h s pic pic' x y
    rect_stays (aside past) =
        record {
          grey = differ x y inx iny (λ lies. past_own (tiled_columns tiled) past lies.left lies.right);
          tiles =
              used_agree w h s pic pic' x y
              (corners_agree (past_misses (tiled_columns tiled) inx past) (any_used _) (λ i j l m no _. tile_agrees i j l m (λ c d a b _ _ lies. no c a b lies.left lies.right)));
        }
    rect_stays (along past) =
        record {
          grey = differ x y inx iny (λ lies. past_own (tiled_rows tiled) past lies.top lies.bottom);
          tiles =
              used_agree w h s pic pic' x y
              (corners_agree (any_used _) (past_misses (tiled_rows tiled) iny past) (λ i j l m _ no. tile_agrees i j l m (λ c d _ _ a b lies. no d a b lies.top lies.bottom)));
        }
