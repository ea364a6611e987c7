-- Which pixels a region has; what is shown speaks of these alone, and of a part of the film with a margin of half a side what is shown of the film.
-- Assumes nothing.
use Prim.Native.Nat.{ℕ, ◌+◌, ◌-◌, ◌*◌, ◌/◌, ◌%◌, ◌≤◌, ◌<◌, min}
use mathlib.Core.List.{List}
use mathlib.Core.Logic.{inl, inr}
use mathlib.Core.Path.{◌≡◌, refl, sym, ap, ap₂, ◌∙◌}
use native.Mathlib.Omega.{arith}
use lib.ListN.{get_or}
use Rattle.tile_count.specs.declared.Rect.{Rect}
use Rattle.tile_count.specs.Tally.{greys_of}
use Rattle.tile_count.proofs.Greys.{greys_only, greys_same}
use Rattle.film_settings.specs.declared.Settings.{Settings}
use Rattle.pixel_rule.specs.Reach.{LiesIn, SameAt, AgreeOn}
use Rattle.tile_slide.specs.Slide.{first_of, end_of, region_rect}
use Rattle.tile_slide.proofs.Regions.{first_is, end_is, region_left, region_top, region_wide, region_high, end_most}
use Rattle.film_around.specs.Around.{region_pixels}
use Rattle.film_around.proofs.Like.{around_grey_by}
use Rattle.promise_around.specs.Regions.{gridless, shown_around, Near, Part, MarginBefore, MarginBehind, Margin}
use Rattle.promise_around.proofs.Outcomes.{shown_gridless}

-- ---- the region

-- where it lies
lies_at : (w h side x y : ℕ)
    → ((region_rect w h side x y).left ≡ x - side / 2)
    × ((region_rect w h side x y).width ≡ min (x + side / 2 + 1) w - (x - side / 2))
    × ((region_rect w h side x y).top ≡ y - side / 2)
    × ((region_rect w h side x y).height ≡ min (y + side / 2 + 1) h - (y - side / 2))
lies_at w h side x y = (
  region_left w h side x y ∙ first_is side x,
  region_wide w h side x y ∙ ap₂ (λ a b. a - b) (end_is side w x) (first_is side x),
  region_top w h side x y ∙ first_is side y,
  region_high w h side x y ∙ ap₂ (λ a b. a - b) (end_is side h y) (first_is side y),
)

-- its pixels are those of the film that lie at most half a side away, in columns and in rows,
pub region_near : (w h side x y u v : ℕ) → LiesIn u v (region_rect w h side x y) → Near w h side x y u v
region_near w h side x y u v lies =
    record {
      across = omega (arith, lies.left, lies.right, lies_at w h side x y);
      down = omega (arith, lies.top, lies.bottom, lies_at w h side x y);
      left = omega (arith, lies.left, lies_at w h side x y);
      right = omega (arith, lies.left, lies.right, lies_at w h side x y);
      above = omega (arith, lies.top, lies_at w h side x y);
      below = omega (arith, lies.top, lies.bottom, lies_at w h side x y);
    }

-- and all of them
pub near_region : (w h side x y u v : ℕ) → Near w h side x y u v → LiesIn u v (region_rect w h side x y)
near_region w h side x y u v near =
    record {
      left = omega (arith, near.left, lies_at w h side x y);
      right = omega (arith, near.left, near.right, near.across, lies_at w h side x y);
      top = omega (arith, near.above, lies_at w h side x y);
      bottom = omega (arith, near.above, near.below, near.down, lies_at w h side x y);
    }

-- side x side of them, where none is cut off
pub region_whole : (w h side x y : ℕ) → side % 2 ≡ 1 → side / 2 ≤ x → x + side / 2 < w → side / 2 ≤ y → y + side / 2 < h → region_pixels w h side x y ≡ side * side
unfolding region_pixels
region_whole w h side x y odd left right above below =
    let wide : (region_rect w h side x y).width ≡ side = omega (arith, odd, left, right, lies_at w h side x y) in
    let high : (region_rect w h side x y).height ≡ side = omega (arith, odd, above, below, lies_at w h side x y) in
    ap₂ (λ m n. m * n) wide high

-- ---- the region's pixels alone

-- a pixel lies in its own region
pub own_region : (w h side x y : ℕ) → x < w → y < h → LiesIn x y (region_rect w h side x y)
own_region w h side x y l k =
    record {
      left = omega (arith, lies_at w h side x y);
      right = omega (arith, l, lies_at w h side x y);
      top = omega (arith, lies_at w h side x y);
      bottom = omega (arith, k, lies_at w h side x y);
    }

module _ (w h : ℕ) (pic pic' : List ℕ) (side : ℕ) (s : Settings) (x y : ℕ) (l : x < w) (k : y < h) (agree : AgreeOn w pic pic' (region_rect w h side x y)) where
  same_greys : greys_of pic w (region_rect w h side x y) ≡ greys_of pic' w (region_rect w h side x y)
  same_greys =
      greys_only pic pic' w (region_rect w h side x y)
      (λ j i q p. agree ((region_rect w h side x y).left + i) ((region_rect w h side x y).top + j) record { left = omega arith; right = omega arith; top = omega arith; bottom = omega arith })

  pub shown_local : shown_around w h pic side s x y ≡ shown_around w h pic' side s x y
  unfolding shown_around
  shown_local =
      let own : SameAt w pic pic' x y = agree x y (own_region w h side x y l k) in
      rw (around_grey_by w h pic w h pic' side s x y x y same_greys own, own) refl

-- settings that read the same show the same
pub shown_alike : (w h : ℕ) (pic : List ℕ) (side : ℕ) (s s' : Settings) (x y : ℕ) → gridless s ≡ gridless s' → shown_around w h pic side s x y ≡ shown_around w h pic side s' x y
shown_alike w h pic side s s' x y e =
    sym (shown_gridless w h pic side s x y) ∙ ap (λ (z : Settings). shown_around w h pic side z x y) e ∙ shown_gridless w h pic side s' x y

-- ---- a part of the film

-- along one axis the region of a column (or row) of the part is the film's, counted from where the part begins
first_shift : (side most from part x : ℕ) → Margin side most from part x → first_of side (from + x) ≡ from + first_of side x
first_shift side most from part x m = go m.before
  where
    go : MarginBefore side from x → first_of side (from + x) ≡ from + first_of side x
    go (inl z) = omega (arith, first_is side (from + x), first_is side x)
    go (inr l) = omega (arith, first_is side (from + x), first_is side x)

end_shift : (side most from part x : ℕ) → Margin side most from part x → from + part ≤ most → end_of side most (from + x) ≡ from + end_of side part x
end_shift side most from part x m fits = go m.behind
  where
    go : MarginBehind side most from part x → end_of side most (from + x) ≡ from + end_of side part x
    go (inl z) = omega (arith, end_is side most (from + x), end_is side part x)
    go (inr l) = omega (arith, end_is side most (from + x), end_is side part x)

module _ (w h : ℕ) (pic : List ℕ) (left top w' h' : ℕ) (pic' : List ℕ) (part : Part w h pic left top w' h' pic') (side x y : ℕ) (across : Margin side w left w' x) (down : Margin side h top h' y) where
  -- the greys of its region are those of the film's
  part_greys : greys_of pic' w' (region_rect w' h' side x y) ≡ greys_of pic w (region_rect w h side (left + x) (top + y))
  part_greys = greys_same pic' pic w' w region film (omega (arith, ends_x, wide, wide')) (omega (arith, ends_y, high, high')) pixel
    where
      region : Rect
      region = region_rect w' h' side x y

      film : Rect
      film = region_rect w h side (left + x) (top + y)

      ends_x : (first_of side (left + x) ≡ left + first_of side x) × (end_of side w (left + x) ≡ left + end_of side w' x)
      ends_x = (first_shift side w left w' x across, end_shift side w left w' x across part.across)

      ends_y : (first_of side (top + y) ≡ top + first_of side y) × (end_of side h (top + y) ≡ top + end_of side h' y)
      ends_y = (first_shift side h top h' y down, end_shift side h top h' y down part.down)

      wide : region.width ≡ end_of side w' x - first_of side x
      wide = region_wide w' h' side x y

      wide' : film.width ≡ end_of side w (left + x) - first_of side (left + x)
      wide' = region_wide w h side (left + x) (top + y)

      high : region.height ≡ end_of side h' y - first_of side y
      high = region_high w' h' side x y

      high' : film.height ≡ end_of side h (top + y) - first_of side (top + y)
      high' = region_high w h side (left + x) (top + y)

      from : left + region.left ≡ film.left
      from = omega (arith, ends_x, region_left w' h' side x y, region_left w h side (left + x) (top + y))

      upper : top + region.top ≡ film.top
      upper = omega (arith, ends_y, region_top w' h' side x y, region_top w h side (left + x) (top + y))

      pixel : (j i : ℕ) → j < region.height → i < region.width → get_or pic' ((region.top + j) * w' + (region.left + i)) 0 ≡ get_or pic ((film.top + j) * w + (film.left + i)) 0
      pixel j i q p =
          let row : top + (region.top + j) ≡ film.top + j = omega (arith, upper) in
          let column : left + (region.left + i) ≡ film.left + i = omega (arith, from) in
          part.same (region.left + i) (region.top + j)
          (omega (arith, p, wide, region_left w' h' side x y, end_most side w' x))
          (omega (arith, q, high, region_top w' h' side x y, end_most side h' y))
          ∙ ap₂ (λ a b. get_or pic (a * w + b) 0) row column

  -- so it shows the same
  pub shown_part : (s : Settings) → shown_around w' h' pic' side s x y ≡ shown_around w h pic side s (left + x) (top + y)
  unfolding shown_around
  shown_part s =
      let own : get_or pic' (y * w' + x) 0 ≡ get_or pic ((top + y) * w + (left + x)) 0 = part.same x y across.below down.below in
      rw (around_grey_by w' h' pic' w h pic side s x y (left + x) (top + y) part_greys own, own) refl
