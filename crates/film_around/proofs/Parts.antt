-- The part of the film that has the regions around 64 pixels of a row: where it lies, that its regions are the film's, and that the counts move on by it alone.
-- Assumes nothing.
use Prim.Native.Nat.{ℕ, ◌+◌, ◌-◌, ◌*◌, ◌%◌, ◌≤◌, ◌<◌, min}
use mathlib.Core.List.{List, ◌++◌, map}
use mathlib.Core.Path.{◌≡◌, sym, ap, ap₂, ◌∙◌}
use native.Mathlib.Nat.{mul_comm, mul-le-mul, mul-le-mul_right}
use native.Mathlib.Omega.{arith}
use lib.ListN.{length, take, drop, get_or, length-append, length-drop}
use lib.Seq.{take_at, length-take-le, drop-drop}
use Rattle.base_lists.specs.Lists.{times, all}
use Rattle.base_range.specs.Scan.{within}
use Rattle.tile_bin.specs.Binning.{bin_of}
use Rattle.tile_count.specs.declared.Rect.{Rect}
use Rattle.tile_count.specs.Tally.{greys_of}
use Rattle.tile_count.proofs.Greys.{greys_same, greys_all, get_or_greys, length_greys}
use Rattle.tile_slide.specs.Slide.{first_of, end_of, region_rect, RegionAsks, Slid}
use Rattle.tile_slide.proofs.Regions.{first_is, end_is, region_left, region_top, region_wide, region_high}
use Rattle.pixel_render.specs.Render.{rect_of}
use Rattle.film_settings.specs.declared.Settings.{Settings}
use Rattle.film_settings.specs.declared.Window.{Window}
use Rattle.film_window.specs.Frame.{Framed, CopyWindowAsks}
use Rattle.film_around.specs.Around.{AroundPixelAsks, RegionHeld, SpanAsks, PartAround, front_of, KeptPart, SlideInAsks}
use Rattle.film_around.proofs.Pixels.{pixel_scale}

-- ---- where it lies

-- by the regions around its first pixel and the one behind its last
pub part_is : {w h side a y m : ℕ} {r r' : Rect} → RegionAsks w h side a y → m ≡ min (a + 64) (w - 1) → r ≡ region_rect w h side a y → r' ≡ region_rect w h side m y
    → (r.left ≡ first_of side a) × (r.top ≡ first_of side y) × (r.height ≡ end_of side h y - first_of side y) × (r'.left + r'.width ≡ end_of side w (a + 64)) × (first_of side a < end_of side w (a + 64)) × (end_of side w (a + 64) ≤ 4096) × (first_of side y < end_of side h y) × (end_of side h y ≤ 4096)
part_is {w} {h} {side} {a} {y} {m} {r} {r'} asks last e e' =
    let left : r.left ≡ first_of side a = ap (λ z. z.left) e ∙ region_left w h side a y in
    let top : r.top ≡ first_of side y = ap (λ z. z.top) e ∙ region_top w h side a y in
    let high : r.height ≡ end_of side h y - first_of side y = ap (λ z. z.height) e ∙ region_high w h side a y in
    let left' : r'.left ≡ first_of side m = ap (λ z. z.left) e' ∙ region_left w h side m y in
    let wide' : r'.width ≡ end_of side w m - first_of side m = ap (λ z. z.width) e' ∙ region_wide w h side m y in (
      left,
      top,
      high,
      omega (arith, last, left', wide', first_is side m, end_is side w m, end_is side w (a + 64), asks.across),
      omega (arith, first_is side a, end_is side w (a + 64), asks.across),
      omega (arith, end_is side w (a + 64), asks.wide),
      omega (arith, first_is side y, end_is side h y, asks.down),
      omega (arith, end_is side h y, asks.high),
    )

module _ {w h side a y : ℕ} {win : Window} (asks : RegionAsks w h side a y) (place : PartAround w h side a y win) where
  pub part_wide : (0 < win.width) × (win.width ≤ 127) × (win.left + win.width ≤ w)
  part_wide = (
    omega (arith, place.left, place.right, first_is side a, end_is side w (a + 64), asks.across),
    omega (arith, place.left, place.right, first_is side a, end_is side w (a + 64), asks.few),
    omega (arith, place.right, end_is side w (a + 64)),
  )

  pub part_high : (0 < win.height) × (win.height ≤ 63) × (win.top + win.height ≤ h)
  part_high = (
    omega (arith, place.top, place.bottom, first_is side y, end_is side h y, asks.down),
    omega (arith, place.top, place.bottom, first_is side y, end_is side h y, asks.few),
    omega (arith, place.bottom, end_is side h y),
  )

  pub part_room : win.height * win.width ≤ 8001
  part_room = mul-le-mul {n₁ = win.height} {n₂ = 63} {m₂ = 127} part_high.1 part_wide.1

  pub part_framed : {size : ℕ} → size ≡ w * h → Framed size w win
  part_framed e = record { some = part_wide.0; across = part_wide.2; down = omega (arith, e, mul-le-mul_right w part_high.2, mul_comm w h) }

  -- ---- its regions are the film's

  module _ (pic : List ℕ) {x : ℕ} (l : a ≤ x) (r : x ≤ a + 64) (q : x ≤ w) where
    shift_x : (first_of side x ≡ win.left + first_of side (x - win.left)) × (end_of side w x ≡ win.left + end_of side win.width (x - win.left))
    shift_x = (
      omega (arith, place.left, first_is side a, first_is side x, first_is side (x - win.left)),
      omega (arith, place.left, place.right, first_is side a, end_is side w (a + 64), end_is side w x, end_is side win.width (x - win.left)),
    )

    shift_y : (first_of side y ≡ win.top + first_of side (y - win.top)) × (end_of side h y ≡ win.top + end_of side win.height (y - win.top))
    shift_y = (
      omega (arith, place.top, first_is side y, first_is side (y - win.top)),
      omega (arith, place.top, place.bottom, first_is side y, end_is side h y, end_is side win.height (y - win.top)),
    )

    pub part_region : greys_of (greys_of pic w (rect_of win)) win.width (region_rect win.width win.height side (x - win.left) (y - win.top)) ≡ greys_of pic w (region_rect w h side x y)
    part_region = greys_same (greys_of pic w (rect_of win)) pic win.width w region film (omega (arith, shift_x, wide, wide')) (omega (arith, shift_y, high, high')) pixel
      where
        region : Rect
        region = region_rect win.width win.height side (x - win.left) (y - win.top)

        film : Rect
        film = region_rect w h side x y

        wide : region.width ≡ end_of side win.width (x - win.left) - first_of side (x - win.left)
        wide = region_wide win.width win.height side (x - win.left) (y - win.top)

        wide' : film.width ≡ end_of side w x - first_of side x
        wide' = region_wide w h side x y

        high : region.height ≡ end_of side win.height (y - win.top) - first_of side (y - win.top)
        high = region_high win.width win.height side (x - win.left) (y - win.top)

        high' : film.height ≡ end_of side h y - first_of side y
        high' = region_high w h side x y

        left : region.left ≡ first_of side (x - win.left)
        left = region_left win.width win.height side (x - win.left) (y - win.top)

        top : region.top ≡ first_of side (y - win.top)
        top = region_top win.width win.height side (x - win.left) (y - win.top)

        pixel : (j i : ℕ) → j < region.height → i < region.width → get_or (greys_of pic w (rect_of win)) ((region.top + j) * win.width + (region.left + i)) 0 ≡ get_or pic ((film.top + j) * w + (film.left + i)) 0
        pixel j i m n =
            let row : win.top + (region.top + j) ≡ film.top + j = omega (arith, shift_y, top, region_top w h side x y) in
            let column : win.left + (region.left + i) ≡ film.left + i = omega (arith, shift_x, left, region_left w h side x y) in
            get_or_greys pic w (rect_of win) {y = region.top + j} {x = region.left + i}
            (omega (arith, m, high, top, end_is side win.height (y - win.top)))
            (omega (arith, n, wide, left, end_is side win.width (x - win.left)))
            ∙ ap₂ (λ u v. get_or pic (u * w + v) 0) row column

-- ---- it is kept

module _ {w h : ℕ} (pic : List ℕ) {side x y : ℕ} {win : Window} (asks : SpanAsks (length pic) w h side x y) (place : PartAround w h side x y win) (part : List ℕ) (room : 8192 ≤ length part) where
  pub copy_room : win.height * win.width ≤ length part
  copy_room = omega (arith, part_room asks.region place, room)

  pub copy_size : win.height * win.width ≡ length (take (win.height * win.width) part)
  copy_size = sym (length-take-le (win.height * win.width) part copy_room)

  pub copy_asks : CopyWindowAsks pic w win (take (win.height * win.width) part)
  copy_asks = record { framed = part_framed asks.region place asks.whole; size = length-take-le (win.height * win.width) part copy_room }

  module _ {ys : List ℕ} (e : ys ≡ greys_of pic w (rect_of win)) where
    copied : length ys ≡ win.height * win.width
    copied = ap length e ∙ length_greys pic w (rect_of win) ∙ mul_comm win.width win.height

    pub copy_long : length (ys ++ drop (win.height * win.width) part) ≡ length part
    copy_long = rw (length-append, length-drop) (omega (arith, copied, copy_room))

    pub kept_size : win.height * win.width ≡ length (take (win.height * win.width) (ys ++ drop (win.height * win.width) part))
    kept_size = sym (length-take-le (win.height * win.width) (ys ++ drop (win.height * win.width) part) (omega (arith, copy_long, copy_room)))

    pub part_kept : x % 64 ≡ 0 → KeptPart w h pic side x y win (ys ++ drop (win.height * win.width) part)
    part_kept t =
        record {
          from = x;
          turn = t;
          before = omega arith;
          behind = omega arith;
          place = place;
          room = omega (arith, copy_long, copy_room);
          held = take_at ys (drop (win.height * win.width) part) (win.height * win.width) copied ∙ e;
        }

-- before the first column nothing need be
pub not_yet : {A : Type 0} → 0 < 0 % 64 → A
not_yet l = absurd (omega (arith, l))

-- for the next column too, where it begins no new one
pub kept_next : {w h : ℕ} {pic : List ℕ} {side x y : ℕ} {win : Window} {part : List ℕ} → KeptPart w h pic side x y win part → 0 < (x + 1) % 64 → KeptPart w h pic side (x + 1) y win part
kept_next kept l =
    record {
      from = kept.from;
      turn = kept.turn;
      before = omega (arith, kept.before);
      behind = omega (arith, kept.turn, kept.behind, l);
      place = kept.place;
      room = kept.room;
      held = kept.held;
    }

-- ---- the counts moved on

module _ {w h : ℕ} {pic : List ℕ} {side : ℕ} {s : Settings} {x y b factor : ℕ} {t : List ℕ} (asks : AroundPixelAsks w h pic side s x y b factor t) {win : Window} {part : List ℕ} (kept : KeptPart w h pic side x y win part) where
  from_asks : RegionAsks w h side kept.from y
  from_asks = record { few = asks.film.few; across = omega (arith, kept.before, asks.column); down = asks.row; wide = asks.film.widest; high = asks.film.highest }

  front_region : (z : ℕ) → kept.from ≤ z → z ≤ kept.from + 64 → z ≤ w
      → greys_of (front_of win part) win.width (region_rect win.width win.height side (z - win.left) (y - win.top)) ≡ greys_of pic w (region_rect w h side z y)
  front_region z l r q =
      ap (λ g. greys_of g win.width (region_rect win.width win.height side (z - win.left) (y - win.top))) kept.held
      ∙ part_region from_asks kept.place pic l r q

  left_before : win.left ≤ x
  left_before = omega (arith, kept.place.left, first_is side kept.from, kept.before)

  top_before : win.top ≤ y
  top_before = omega (arith, kept.place.top, first_is side y)

  module _ {t₁ : List ℕ} (held : RegionHeld w h pic side s x y b t t₁) where
    pub slide_asks : SlideInAsks part win side s x y b factor t₁
    slide_asks =
        let wide = part_wide from_asks kept.place in
        let high = part_high from_asks kept.place in
        let framed = part_framed from_asks kept.place asks.film.whole in
        record {
          left = left_before;
          top = top_before;
          room = kept.room;
          asks = record {
            region = record {
              few = asks.film.few;
              across = omega (arith, kept.place.right, left_before, end_is side w (kept.from + 64), kept.behind, asks.column);
              down = omega (arith, kept.place.bottom, top_before, end_is side h y, asks.row);
              wide = omega (arith, wide.1);
              high = omega (arith, high.1);
            };
            whole = ap length kept.held ∙ length_greys pic w (rect_of win);
            by = asks.by;
            scale = pixel_scale asks;
            room = omega (arith, asks.room, held.size);
            greys = ap (all (within s.min s.max)) kept.held ∙ greys_all (within s.min s.max) pic w (rect_of win) framed.across framed.down asks.film.greys;
            front = λ k l.
                held.front k l
                ∙ ap (λ g. times k (map (bin_of s.min s.max b) g)) (sym (front_region x kept.before (omega (arith, kept.behind)) (omega (arith, asks.column))));
          };
        }

    pub slid_held : {t₂ : List ℕ} → Slid (front_of win part) win.width win.height side (x - win.left) (y - win.top) s.min s.max b t₁ t₂ → RegionHeld w h pic side s (x + 1) y b t t₂
    slid_held {t₂} slid =
        let next : x - win.left + 1 ≡ x + 1 - win.left = omega (arith, left_before) in
        record {
          front = λ k l.
              slid.front k l
              ∙ ap (λ n. times k (map (bin_of s.min s.max b) (greys_of (front_of win part) win.width (region_rect win.width win.height side n (y - win.top))))) next
              ∙ ap (λ g. times k (map (bin_of s.min s.max b) g)) (front_region (x + 1) (omega (arith, kept.before)) (omega (arith, kept.behind)) (omega (arith, asks.column)));
          behind = sym (drop-drop b b t₂) ∙ ap (drop b) slid.behind ∙ drop-drop b b t₁ ∙ held.behind;
          size = slid.size ∙ held.size;
        }
