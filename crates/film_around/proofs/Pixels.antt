-- A pixel: its bin, and its region's counts clipped and summed.
-- Assumes nothing.
use Prim.Native.Nat.{ℕ, ◌+◌, ◌*◌, ◌≤◌, ◌<◌}
use mathlib.Core.Bool.{true}
use mathlib.Core.List.{List, map}
use mathlib.Core.Path.{◌≡◌, refl, sym, ap, ap₂, ◌∙◌, subst}
use native.Mathlib.Nat.{mul_comm}
use native.Mathlib.Omega.{arith}
use lib.Arith.{digits_lt}
use lib.ListN.{length, take, drop, get_or}
use lib.Seq.{length-take-le, get_or-take, drop-drop}
use Rattle.base_lists.specs.Lists.{times, total, all, onto}
use Rattle.base_lists.proofs.Alls.{all_at}
use Rattle.base_lists.proofs.Fills.{length_onto, drop_onto}
use Rattle.base_range.specs.Scan.{within}
use Rattle.base_range.proofs.Spans.{within_low, within_high}
use Rattle.tile_bin.specs.Binning.{bin_of, bin_by_of}
use Rattle.tile_bin.proofs.Bins.{bin_below, bin_by}
use Rattle.tile_count.specs.declared.Rect.{Rect}
use Rattle.tile_count.specs.Tally.{greys_of, counts_of, Inside, Scale, CountRectAsks}
use Rattle.tile_count.proofs.Greys.{greys_all, length_greys}
use Rattle.tile_count.proofs.Counts.{length_counts, total_counts, counts_by, counts_front}
use Rattle.tile_map.specs.Tile.{clipped_by, divided_by, mapped_of, tile_mapping, Holds}
use Rattle.tile_map.proofs.Tiles.{tile_counts_by, tile_divides_by, length_tile_mapping, get_or_tile_mapping, tile_mapping_within}
use Rattle.film_settings.specs.declared.Settings.{Settings}
use Rattle.film_tiles.proofs.Films.{clip_holds}
use Rattle.tile_slide.specs.Slide.{region_rect, RegionAsks}
use Rattle.tile_slide.proofs.Regions.{region_inside}
use Rattle.std.proofs.Common.{Option, Some}
use Rattle.std.specs.Option.{IfSome}
use Rattle.tile_value.specs.Value.{ValueAsks, ValueGiven}
use Rattle.film_around.specs.Around.{region_pixels, region_mapping, around_grey, AroundReady, AroundBinAsks, AroundPixelAsks, AroundGreyed, RegionHeld, SpanAsks, FoundAsks, FoundIn, AroundStartAsks}

-- ---- the bin of a grey

module _ {pic : List ℕ} {s : Settings} {at b factor : ℕ} (asks : AroundBinAsks pic s at b factor) where
  grey_in : within s.min s.max (get_or pic at 0) ≡ true
  grey_in = all_at (within s.min s.max) pic asks.greys at 0 asks.inside

  pub grey_asks : (s.min ≤ get_or pic at 0) × (get_or pic at 0 ≤ 4095)
  grey_asks = (within_low _ s.max _ grey_in, omega (arith, within_high s.min _ _ grey_in, asks.scale.most))

  pub bin_is : {r : ℕ} → r ≡ bin_by_of s.min factor (get_or pic at 0) → r ≡ bin_of s.min s.max b (get_or pic at 0)
  bin_is g =
      g
      ∙ ap (λ n. bin_by_of s.min n (get_or pic at 0)) asks.by
      ∙ bin_by s.min s.max b (get_or pic at 0) grey_in asks.scale.most (omega (arith, asks.scale.some))

  pub bin_small : {r : ℕ} → r ≡ bin_of s.min s.max b (get_or pic at 0) → r < b
  bin_small e = rw e (bin_below s.min s.max b (get_or pic at 0) grey_in (omega (arith, asks.scale.some)))

-- ---- the region of a pixel

pub film_region : {w h : ℕ} {pic : List ℕ} {side : ℕ} {s : Settings} {x y : ℕ} → AroundReady w h pic side s → x < w → y < h → RegionAsks w h side x y
film_region film l k = record { few = film.few; across = l; down = k; wide = film.widest; high = film.highest }

pub film_span : {w h : ℕ} {pic : List ℕ} {side : ℕ} {s : Settings} {x y : ℕ} → AroundReady w h pic side s → x < w → y < h → SpanAsks (length pic) w h side x y
film_span film l k = record { region = film_region film l k; whole = film.whole }

-- it lies inside the film
pub film_inside : {w h : ℕ} {pic : List ℕ} {side : ℕ} {s : Settings} {x y : ℕ} → AroundReady w h pic side s → x < w → y < h → Inside (length pic) w (region_rect w h side x y)
film_inside film l k = region_inside (film_region film l k) film.whole

-- its pixels lie in Min to Max
pub film_greys : {w h : ℕ} {pic : List ℕ} {side : ℕ} {s : Settings} {x y : ℕ} → AroundReady w h pic side s → x < w → y < h → all (within s.min s.max) (greys_of pic w (region_rect w h side x y)) ≡ true
film_greys {w} {h} {pic} {side} {s} {x} {y} film l k =
    let inside = film_inside film l k in greys_all (within s.min s.max) pic w (region_rect w h side x y) inside.across inside.down film.greys

-- how many they are
pub pixels_few : {w h side x y n : ℕ} → RegionAsks w h side x y → n ≡ region_pixels w h side x y → (0 < n) × (n ≤ 4194304)
unfolding region_pixels
pixels_few {w} {h} {side} {x} {y} asks e =
    let inside : Inside (w * h) w (region_rect w h side x y) = region_inside asks refl in (omega (arith, e, inside.some), omega (arith, e, inside.few))

-- what the area asks of a region's rectangle
module _ {w h side x y : ℕ} (asks : RegionAsks w h side x y) {r : Rect} (e : r ≡ region_rect w h side x y) where
  pub area_few : r.width * r.height ≤ 4194304
  area_few = let inside : Inside (w * h) w (region_rect w h side x y) = region_inside asks refl in rw e inside.few

  pub area_is : r.width * r.height ≡ region_pixels w h side x y
  unfolding region_pixels
  area_is = rw e refl

-- ---- the first of a row

module _ {w h : ℕ} {pic : List ℕ} {side : ℕ} {s : Settings} {y b scratch : ℕ} (asks : AroundStartAsks w h pic side s y b scratch) where
  pub start_region : RegionAsks w h side 0 y
  start_region = film_region asks.film asks.film.wide asks.row

  module _ {r : Rect} (e : r ≡ region_rect w h side 0 y) where
    pub start_count : CountRectAsks pic w r s.min s.max b scratch
    start_count =
        rw (e, asks.bins)
        record {
          inside = film_inside asks.film asks.film.wide asks.row;
          scale = asks.film.scale;
          enough = omega (arith, asks.room, asks.bins);
          greys = film_greys asks.film asks.film.wide asks.row;
        }

    pub start_held : (d : List ℕ) {t : List ℕ} → length d ≡ scratch → t ≡ onto d (counts_of s.min s.max b (greys_of pic w r)) → RegionHeld w h pic side s 0 y b d t
    start_held d {t} l q =
        record {
          front = λ k i. ap (λ z. get_or z k 0) q ∙ counts_front s.min s.max b d (greys_of pic w r) k i ∙ ap (λ z. times k (map (bin_of s.min s.max b) (greys_of pic w z))) e;
          behind = sym (drop-drop b b t) ∙ ap (drop b) (ap (drop b) q ∙ drop_onto d (counts_of s.min s.max b (greys_of pic w r)) b counted) ∙ drop-drop b b d;
          size = ap length q ∙ length_onto d (counts_of s.min s.max b (greys_of pic w r)) (omega (arith, counted, l, asks.room));
        }
      where
        counted : length (counts_of s.min s.max b (greys_of pic w r)) ≡ b
        counted = length_counts s.min s.max b (greys_of pic w r)

-- ---- a pixel's grey

module _ {w h : ℕ} {pic : List ℕ} {side : ℕ} {s : Settings} {x y b factor : ℕ} {t : List ℕ} (asks : AroundPixelAsks w h pic side s x y b factor t) where
  pub pixel_scale : Scale s.min s.max b
  pixel_scale = subst (λ n. Scale s.min s.max n) (sym asks.bins) asks.film.scale

  pub pixel_region : RegionAsks w h side x y
  pixel_region = film_region asks.film asks.column asks.row

  pub index_small : y * w + x < 16777216
  index_small = omega (arith, digits_lt {q = y} {m = 4096} {r = x} {c = w} (omega (arith, asks.row, asks.film.highest)) asks.column, mul_comm w 4096, asks.film.widest)

  pub pixel_bin : AroundBinAsks pic s (y * w + x) b factor
  pixel_bin =
      record {
        scale = pixel_scale;
        by = asks.by;
        greys = asks.film.greys;
        inside = omega (arith, digits_lt {q = y} {m = h} {r = x} {c = w} asks.row asks.column, mul_comm w h, asks.film.whole);
      }

  abbrev greys : List ℕ
  greys = greys_of pic w (region_rect w h side x y)

  greys_good : all (within s.min s.max) greys ≡ true
  greys_good = film_greys asks.film asks.column asks.row

  some_bins : 0 < b
  some_bins = omega (arith, pixel_scale.some)

  -- the front of the scratch is the region's counts
  front_counts : take b t ≡ counts_of s.min s.max b greys
  front_counts =
      counts_by s.min s.max b greys (take b t) (length-take-le b t (omega (arith, asks.room))) (λ i l. get_or-take b t i 0 l ∙ asks.front i l)

  module _ {n k : ℕ} (p : n ≡ region_pixels w h side x y) (q : k ≡ bin_of s.min s.max b (get_or pic (y * w + x) 0)) where
    pixels : length greys ≡ n
    unfolding region_pixels
    pixels = length_greys pic w (region_rect w h side x y) ∙ sym p

    holds_own : Holds s.clip n b
    holds_own = clip_holds s.clip n b asks.film.fair some_bins

    below : k < b
    below = bin_small pixel_bin q

    -- what its value asks
    counts_asks : {cs : List ℕ} → cs ≡ counts_of s.min s.max b greys → ValueAsks s.clip n s.min s.max k cs
    counts_asks {cs} is =
        let long : length cs ≡ b = ap length is ∙ length_counts s.min s.max b greys in
        let few = pixels_few pixel_region p in
        record {
          counted = record {
            holds = subst (λ m. Holds s.clip n m) (sym long) holds_own;
            all_pixels = ap total is ∙ total_counts s.min s.max b greys greys_good some_bins ∙ pixels;
            few_pixels = few.1;
            some = omega (arith, long, pixel_scale.some);
            few = omega (arith, long, pixel_scale.few);
          };
          some = few.0;
          order = pixel_scale.order;
          most = pixel_scale.most;
          bin = omega (arith, long, below);
        }

    -- the mapping's value is at most Max
    mapped_most : get_or (tile_mapping s.min s.max b s.edition s.clip greys) k 0 ≤ 4095
    mapped_most =
        let good = tile_mapping_within s.min s.max b s.edition s.clip greys greys_good some_bins pixel_scale.order (subst (λ m. Holds s.clip m b) (sym pixels) holds_own) in
        let one = all_at (within s.min s.max) (tile_mapping s.min s.max b s.edition s.clip greys) good k 0 (omega (arith, length_tile_mapping s.min s.max b s.edition s.clip greys, below)) in
        omega (arith, within_high s.min s.max (get_or (tile_mapping s.min s.max b s.edition s.clip greys) k 0) one, pixel_scale.most)

    -- the value is the mapping of the pixel's own bin
    counts_value : {cs ds : List ℕ} {v : ℕ} → cs ≡ counts_of s.min s.max b greys → ValueGiven s.edition s.clip n s.min s.max k cs ds v
        → v ≡ get_or (tile_mapping s.min s.max b s.edition s.clip greys) k 0
    counts_value is given =
        given.value
        ∙ ap₂ (λ m z. mapped_of s.min s.max (divided_by s.edition s.clip m z) (clipped_by s.edition s.clip m z) k) (sym pixels) is
        ∙ ap₂ (λ m z. mapped_of s.min s.max m z k) (sym (tile_divides_by s.min s.max b s.edition s.clip greys)) (sym (tile_counts_by s.min s.max b s.edition s.clip greys))
        ∙ sym (get_or_tile_mapping s.min s.max b s.edition s.clip greys k below)

    own_grey : get_or (tile_mapping s.min s.max b s.edition s.clip greys) k 0 ≡ around_grey w h pic side s x y
    unfolding around_grey region_mapping
    own_grey =
        ap₂ (λ c j. get_or (tile_mapping s.min s.max c s.edition s.clip greys) j 0) asks.bins
        (q ∙ ap (λ c. bin_of s.min s.max c (get_or pic (y * w + x) 0)) asks.bins)

    -- what looking the value up asks
    pub found_asks : FoundAsks s n k b t
    found_asks = record { asks = counts_asks front_counts; room = asks.room }

    module _ {t' : List ℕ} {f : Option ℕ} (found : FoundIn s n k b t t' f) where
      pub found_held : RegionHeld w h pic side s x y b t t'
      found_held = record { front = λ i l. found.front i l ∙ asks.front i l; behind = found.behind; size = found.size }

      pub found_grey : {v : ℕ} → f ≡ Some v → AroundGreyed w h pic side s x y v
      found_grey {v} e =
          let known : IfSome (Some v) (λ u. u ≡ mapped_of s.min s.max (divided_by s.edition s.clip n (take b t)) (clipped_by s.edition s.clip n (take b t)) k) = subst (λ g. IfSome g (λ u. u ≡ mapped_of s.min s.max (divided_by s.edition s.clip n (take b t)) (clipped_by s.edition s.clip n (take b t)) k)) e found.value in
          let given : ValueGiven s.edition s.clip n s.min s.max k (take b t) (clipped_by s.edition s.clip n (take b t)) v = record { counts = refl; value = known } in
          let is = counts_value front_counts given in
          record { grey = is ∙ own_grey; most = omega (arith, is, mapped_most) }

      -- the counts are there for another look
      pub found_again : AroundPixelAsks w h pic side s x y b factor t'
      found_again =
          record {
            film = asks.film;
            column = asks.column;
            row = asks.row;
            bins = asks.bins;
            by = asks.by;
            room = omega (arith, asks.room, found.size);
            front = found_held.front;
          }
