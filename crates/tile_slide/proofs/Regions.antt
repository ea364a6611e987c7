-- Where a region lies in its film, and what it loses as it moves right.
-- Assumes nothing.
use Prim.Native.Nat.{ℕ, zero, suc, ◌+◌, ◌-◌, ◌*◌, ◌/◌, ◌≤◌, ◌<◌, min}
use mathlib.Core.List.{List, [], ◌++◌, map}
use mathlib.Core.Path.{◌≡◌, refl, sym, ap, ap₂, ◌∙◌}
use native.Mathlib.Nat.{mul_comm, mul-le-mul_right, mul-le-mul}
use native.Mathlib.Omega.{arith}
use lib.ListN.{length, drop, get_or, length-map}
use Rattle.base_lists.specs.Lists.{tab, joined, times}
use Rattle.base_range.specs.Scan.{within}
use Rattle.tile_bin.specs.Binning.{bin_of}
use Rattle.tile_count.specs.declared.Rect.{Rect}
use Rattle.tile_count.specs.Tally.{greys_of, added_of, Inside, AddAsks}
use Rattle.tile_count.proofs.Counts.{added_none, get_or_added, length_added}
use Rattle.base_lists.proofs.Steps.{drop_filled}
use Rattle.base_lists.proofs.Tallies.{times_le}
use Rattle.tile_count.proofs.Greys.{row_of, greys_rows, greys_all, length_greys}
use Rattle.tile_slide.specs.Slide.{first_of, end_of, strip, region_rect, lost_of, gained_of, taken_of, TakeRectAsks, RegionAsks, StripAsks, SlideAsks, GainAsks, Slid}
use Rattle.tile_slide.proofs.Taken.{taken_none, length_taken, get_or_taken}
use Rattle.tile_slide.proofs.Moves.{strip_parts}

-- ---- the ends

-- half a side before, from the film's first column or row on
pub first_is : (side x : ℕ) → first_of side x ≡ x - side / 2
unfolding first_of
first_is side x = refl

-- and half a side behind, up to its last
pub end_is : (side most x : ℕ) → end_of side most x ≡ min (x + side / 2 + 1) most
unfolding end_of
end_is side most x = refl

-- a region lies between its ends
pub region_left : (w h side x y : ℕ) → (region_rect w h side x y).left ≡ first_of side x
unfolding region_rect
region_left w h side x y = refl

pub region_top : (w h side x y : ℕ) → (region_rect w h side x y).top ≡ first_of side y
unfolding region_rect
region_top w h side x y = refl

pub region_wide : (w h side x y : ℕ) → (region_rect w h side x y).width ≡ end_of side w x - first_of side x
unfolding region_rect
region_wide w h side x y = refl

pub region_high : (w h side x y : ℕ) → (region_rect w h side x y).height ≡ end_of side h y - first_of side y
unfolding region_rect
region_high w h side x y = refl

pub first_most : (side x : ℕ) → first_of side x ≤ x
unfolding first_of
first_most side x = omega arith

pub first_steps : (side x : ℕ) → (first_of side x ≤ first_of side (x + 1)) × (first_of side (x + 1) ≤ first_of side x + 1)
unfolding first_of
first_steps side x = (omega arith, omega arith)

pub end_most : (side most x : ℕ) → end_of side most x ≤ most
unfolding end_of
end_most side most x = omega arith

pub end_some : (side most x : ℕ) → x < most → x < end_of side most x
unfolding end_of
end_some side most x h = omega arith

-- what is left of a region that moves right has no end before its beginning
pub next_end : (side most x : ℕ) → x < most → first_of side (x + 1) ≤ end_of side most x
unfolding first_of end_of
next_end side most x h = omega arith

-- a region is at most 64 wide
wide_most : (side most x : ℕ) → side ≤ 63 → end_of side most x - first_of side x ≤ 64
unfolding first_of end_of
wide_most side most x h = omega arith

-- ---- behind the bins

drop_added : (lo hi b : ℕ) (cs vs : List ℕ) → drop b (added_of lo hi b cs vs) ≡ drop b cs
unfolding added_of
drop_added lo hi b cs vs = drop_filled _ cs b

drop_taken : (lo hi b : ℕ) (cs vs : List ℕ) → drop b (taken_of lo hi b cs vs) ≡ drop b cs
unfolding taken_of
drop_taken lo hi b cs vs = drop_filled _ cs b

-- ---- no column

rows_none : (pic : List ℕ) (stride l t : ℕ) (h : ℕ) → joined h (λ y. tab 0 (λ x. get_or pic ((t + y) * stride + (l + x)) 0)) ≡ []
unfolding joined tab
rows_none pic stride l t zero = refl
rows_none pic stride l t (suc h) = ap (λ vs. vs ++ []) (rows_none pic stride l t h)

pub greys_none : (pic : List ℕ) (stride : ℕ) (r : Rect) → r.width ≡ 0 → greys_of pic stride r ≡ []
unfolding row_of
greys_none pic stride r e = greys_rows pic stride r ∙ rw e (rows_none pic stride r.left r.top r.height)

-- ---- what a region loses

module _ {pic : List ℕ} {w h side x y lo hi b factor : ℕ} {cs : List ℕ} (asks : SlideAsks pic w h side x y lo hi b factor cs) {a e : ℕ}
    (p : a ≡ first_of side x) (q : e ≡ first_of side (x + 1)) where
  pub lost_strip : StripAsks h side y a e
  lost_strip =
      record { few = asks.region.few; down = asks.region.down; high = asks.region.high; order = omega (arith, p, q, (first_steps side x).0) }

  -- where it loses none, nothing is taken
  pub lost_none : a ≡ e → cs ≡ taken_of lo hi b cs (greys_of pic w (lost_of h side x y))
  lost_none same = taken_none lo hi b cs asks.room ∙ ap (taken_of lo hi b cs) (sym (greys_none pic w (lost_of h side x y) (omega (arith, p, q, same))))

  module _ {r : Rect} (is : r ≡ strip h side y a e) where
    lost_is : r ≡ lost_of h side x y
    lost_is = is ∙ ap₂ (λ m n. strip h side y m n) p q

    -- the column lies inside the film, and the counts hold it
    pub lost_asks : (a ≡ e → ⊥) → TakeRectAsks pic w r lo hi b factor cs
    unfolding region_rect
    lost_asks other = rw lost_is record { inside = inside; asks = record { by = asks.by; most = asks.scale.most; some = omega (arith, asks.scale.some); room = asks.room; greys = greys_all (within lo hi) pic w (lost_of h side x y) inside.across inside.down asks.greys; holds = λ k l. omega (arith, asks.front k l, strip_parts (bin_of lo hi b) pic w k h side y (first_of side x) (first_of side (x + 1)) (end_of side w x) (first_steps side x).0 (next_end side w x asks.region.across)) } }
      where
        one : first_of side (x + 1) - first_of side x ≡ 1
        one = omega (arith, p, q, other, (first_steps side x).0, (first_steps side x).1)

        rows : first_of side y + (end_of side h y - first_of side y) ≡ end_of side h y
        rows = omega (arith, first_most side y, end_some side h y asks.region.down)

        inside : Inside (length pic) w (lost_of h side x y)
        inside =
            record {
              across = omega (arith, (first_steps side x).0, first_most side (x + 1), asks.region.across);
              down = rw (rows, asks.whole) (omega (arith, mul-le-mul_right w (end_most side h y), mul_comm w h));
              some = rw one (omega (arith, first_most side y, end_some side h y asks.region.down));
              few = rw one (omega (arith, end_most side h y, asks.region.high));
            }

    -- and is taken
    pub lost_taken : {cs' : List ℕ} → cs' ≡ taken_of lo hi b cs (greys_of pic w r) → cs' ≡ taken_of lo hi b cs (greys_of pic w (lost_of h side x y))
    lost_taken t = t ∙ ap (λ z. taken_of lo hi b cs (greys_of pic w z)) lost_is

-- ---- what it gains

pub end_steps : (side most x : ℕ) → (end_of side most x ≤ end_of side most (x + 1)) × (end_of side most (x + 1) ≤ end_of side most x + 1)
unfolding end_of
end_steps side most x = (omega arith, omega arith)

module _ {pic : List ℕ} {w h side x y lo hi b factor : ℕ} {cs : List ℕ} (asks : GainAsks pic w h side x y lo hi b factor cs) {a e : ℕ}
    (p : a ≡ end_of side w x) (q : e ≡ end_of side w (x + 1)) where
  pub gained_strip : StripAsks h side y a e
  gained_strip =
      record { few = asks.region.few; down = asks.region.down; high = asks.region.high; order = omega (arith, p, q, (end_steps side w x).0) }

  -- where it gains none, nothing is added
  pub gained_none : a ≡ e → cs ≡ added_of lo hi b cs (greys_of pic w (gained_of w h side x y))
  gained_none same = added_none lo hi b cs asks.room ∙ ap (added_of lo hi b cs) (sym (greys_none pic w (gained_of w h side x y) (omega (arith, p, q, same))))

  module _ {r : Rect} (is : r ≡ strip h side y a e) where
    gained_is : r ≡ gained_of w h side x y
    gained_is = is ∙ ap₂ (λ m n. strip h side y m n) p q

    pub gained_asks : (a ≡ e → ⊥) → AddAsks pic w r lo hi b factor cs
    gained_asks other = rw gained_is record { asks = record { inside = inside; scale = asks.scale; enough = asks.room; greys = greys_all (within lo hi) pic w (gained_of w h side x y) inside.across inside.down asks.greys }; by = asks.by; fits = λ k l. omega (arith, asks.few k l, inside.few) }
      where
        one : end_of side w (x + 1) - end_of side w x ≡ 1
        one = omega (arith, p, q, other, (end_steps side w x).0, (end_steps side w x).1)

        rows : first_of side y + (end_of side h y - first_of side y) ≡ end_of side h y
        rows = omega (arith, first_most side y, end_some side h y asks.region.down)

        inside : Inside (length pic) w (gained_of w h side x y)
        inside =
            record {
              across = omega (arith, (end_steps side w x).0, end_most side w (x + 1));
              down = rw (rows, asks.whole) (omega (arith, mul-le-mul_right w (end_most side h y), mul_comm w h));
              some = rw one (omega (arith, first_most side y, end_some side h y asks.region.down));
              few = rw one (omega (arith, end_most side h y, asks.region.high));
            }

    -- and is added
    pub gained_added : {cs' : List ℕ} → cs' ≡ added_of lo hi b cs (greys_of pic w r) → cs' ≡ added_of lo hi b cs (greys_of pic w (gained_of w h side x y))
    gained_added t = t ∙ ap (λ z. added_of lo hi b cs (greys_of pic w z)) gained_is

-- ---- both

module _ {pic : List ℕ} {w h side x y lo hi b factor : ℕ} {cs : List ℕ} (asks : SlideAsks pic w h side x y lo hi b factor cs) {cs' : List ℕ}
    (lost : cs' ≡ taken_of lo hi b cs (greys_of pic w (lost_of h side x y))) where
  size' : length cs' ≡ length cs
  size' = ap length lost ∙ length_taken lo hi b cs (greys_of pic w (lost_of h side x y)) asks.room

  at' : (k : ℕ) → k < b → get_or cs' k 0 ≡ get_or cs k 0 - times k (map (bin_of lo hi b) (greys_of pic w (lost_of h side x y)))
  at' k l = ap (λ z. get_or z k 0) lost ∙ get_or_taken lo hi b cs (greys_of pic w (lost_of h side x y)) k l

  area : (k : ℕ) → k < b → get_or cs k 0 ≤ 4194304
  unfolding region_rect
  area k l =
      let n = times_le k (map (bin_of lo hi b) (greys_of pic w (region_rect w h side x y))) in
      let m = length-map (greys_of pic w (region_rect w h side x y)) (bin_of lo hi b) in
      let g = length_greys pic w (region_rect w h side x y) in
      let c : (end_of side w x - first_of side x) * (end_of side h y - first_of side y) ≤ 64 * 64 = mul-le-mul (wide_most side w x asks.region.few) (wide_most side h y asks.region.few) in
      omega (arith, asks.front k l, n, m, g, c)

  -- what is left can gain
  pub slide_gains : GainAsks pic w h side x y lo hi b factor cs'
  slide_gains =
      record {
        region = asks.region;
        whole = asks.whole;
        by = asks.by;
        scale = asks.scale;
        room = omega (arith, size', asks.room);
        greys = asks.greys;
        few = λ k l. omega (arith, at' k l, area k l);
      }

  -- and is then "a fresh region's counts"
  pub slide_slid : {cs'' : List ℕ} → cs'' ≡ added_of lo hi b cs' (greys_of pic w (gained_of w h side x y)) → Slid pic w h side x y lo hi b cs cs''
  unfolding region_rect
  slide_slid {cs''} gained =
      record {
        front = λ k l. omega (
          arith,
          ap (λ z. get_or z k 0) gained ∙ get_or_added lo hi b cs' (greys_of pic w (gained_of w h side x y)) k l,
          at' k l,
          asks.front k l,
          strip_parts (bin_of lo hi b) pic w k h side y (first_of side x) (first_of side (x + 1)) (end_of side w x) (first_steps side x).0 (next_end side w x asks.region.across),
          strip_parts (bin_of lo hi b) pic w k h side y (first_of side (x + 1)) (end_of side w x) (end_of side w (x + 1)) (next_end side w x asks.region.across) (end_steps side w x).0,
        );
        behind = ap (drop b) gained ∙ drop_added lo hi b cs' (greys_of pic w (gained_of w h side x y)) ∙ ap (drop b) lost ∙ drop_taken lo hi b cs (greys_of pic w (lost_of h side x y));
        size = ap length gained ∙ length_added lo hi b cs' (greys_of pic w (gained_of w h side x y)) (omega (arith, size', asks.room)) ∙ size';
      }

-- ---- the region itself

-- it lies inside the film, has a pixel at least and few enough to count
pub region_inside : {w h side x y size : ℕ} → RegionAsks w h side x y → size ≡ w * h → Inside size w (region_rect w h side x y)
unfolding region_rect
region_inside {w} {h} {side} {x} {y} {size} asks whole =
    record {
      across = omega (arith, columns, end_most side w x);
      down = rw (rows, whole) (omega (arith, mul-le-mul_right w (end_most side h y), mul_comm w h));
      some = omega (arith, least);
      few = omega (arith, most);
    }
  where
    columns : first_of side x + (end_of side w x - first_of side x) ≡ end_of side w x
    columns = omega (arith, first_most side x, end_some side w x asks.across)

    rows : first_of side y + (end_of side h y - first_of side y) ≡ end_of side h y
    rows = omega (arith, first_most side y, end_some side h y asks.down)

    wide : 1 ≤ end_of side w x - first_of side x
    wide = omega (arith, first_most side x, end_some side w x asks.across)

    high : 1 ≤ end_of side h y - first_of side y
    high = omega (arith, first_most side y, end_some side h y asks.down)

    least : 1 * 1 ≤ (end_of side w x - first_of side x) * (end_of side h y - first_of side y)
    least = mul-le-mul wide high

    most : (end_of side w x - first_of side x) * (end_of side h y - first_of side y) ≤ 64 * 64
    most = mul-le-mul (wide_most side w x asks.few) (wide_most side h y asks.few)
