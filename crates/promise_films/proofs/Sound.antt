-- Demand 3 of the outcomes that the contracts of prepare and enhance cite: one law over the greys of any rectangle, of which each tile is a case; order 8's facts, which stand in for it in the edition of 1986; the footer,
-- the limit and the judgement of a clip setting.
-- Assumes nothing.
use Prim.Native.Nat.{ℕ, ◌+◌, ◌-◌, ◌*◌, ◌≤◌, ◌<◌, min}
use mathlib.Core.Bool.{Bool, true, false}
use mathlib.Core.List.{List, [], ◌∷◌}
use mathlib.Core.Path.{◌≡◌, refl, sym, ap, ap₂, ◌∙◌, subst}
use native.Mathlib.Omega.{arith}
use lib.Ieee.{Float, of_bits}
use lib.ListN.{length, get_or}
use borrow.Author.Tests.{not-false, leb-true, leb-false}
use Rattle.base_lists.specs.Lists.{total, all}
use Rattle.base_rows.specs.Refuse.{row, first, accepted}
use Rattle.tile_limit.specs.declared.Clip.{Clip}
use Rattle.tile_limit.specs.declared.Clip.TheVariants.{Off, Factor}
use Rattle.tile_limit.specs.declared.Edition.{Edition}
use Rattle.tile_limit.specs.declared.Edition.TheVariants.{Ours, Of1986}
use Rattle.tile_limit.specs.declared.Judged.{Judged}
use Rattle.tile_limit.specs.declared.Judged.TheVariants as Judged
use Rattle.tile_limit.specs.Limit.{allowed, is_one, limit_of, judged_number, JudgedSays}
use Rattle.tile_limit.proofs.Laws.{one_allowed, above_one, above_not_one, limit_holds, limit_tight, limit_floored}
use Rattle.tile_clip.specs.Clip.{excess, clipped}
use Rattle.tile_clip.proofs.Laws.{length_clipped, total_clipped, clipped_most, clipped_least}
use Rattle.tile_clip1986.specs.Older.{level_of, older}
use Rattle.tile_clip1986.proofs.Levels.{level_largest, length_older, older_between, older_most, older_is}
use Rattle.base_range.specs.Scan.{within}
use Rattle.tile_count.specs.declared.Rect.{Rect}
use Rattle.tile_count.specs.Tally.{greys_of, counts_of}
use Rattle.tile_count.proofs.Counts.{length_counts, total_counts}
use Rattle.tile_count.proofs.Greys.{length_greys}
use Rattle.tile_map.specs.Tile.{mapped_of, tile_counts, tile_divides, Holds}
use Rattle.tile_map.proofs.Mapped.{mapped_mono, mapped_rise, mapped_first, mapped_last}
use Rattle.tile_map.proofs.Tiles.{holds_room, total_tile_counts, divides_ours, tile_counts_factor}
use Rattle.film_settings.specs.declared.Settings.{Settings}
use Rattle.film_settings.specs.declared.MapRecord.{MapRecord}
use Rattle.film_settings.specs.declared.Footer.{Footer}
use Rattle.film_settings.specs.Settings.{bins_of, clip_bad_of, clip_one_of, Tiled}
use Rattle.film_tiles.specs.Tiles.{tile_of, pixels_in, foot_of, FilmFooterAsks, FooterAsks, Work, TilesReady}
use Rattle.film_prepare.specs.Prepare.{prepare_of, enhance_of}
use Rattle.film_tiles.proofs.Footers.{footer_asks, film_asks, footer_off, footer_one, footer_above, foot_is}
use Rattle.film_tiles.proofs.Tiles.{tile_area, tile_pixels_some}
use Rattle.film_tiles.proofs.Films.{tile_greys, rect_holds}
use Rattle.film_count.specs.Counting.{raw_counts}
use Rattle.promise_films.specs.Films.{clipped_counts, ClippingOn, ClipCase, clip_off, clip_one, clip_on, FooterShows, TileSound, limit_in, divides_in, FilmSound, LimitFits}
use Rattle.promise_films.specs.Older.{TileOlder, FilmOlder}
use Rattle.promise_films.proofs.Accepted.{prepare_work, prepare_foot, enhance_work, enhance_foot}
use Rattle.promise_films.proofs.Rendering.{own_mapping, own_mapping_enhance}

-- ---- counts

-- clipped counts and their mapping are sound, where the bins have room for the pixels
sound : (lo hi n b l : ℕ) (raw : List ℕ) (entry : ℕ → ℕ) → length raw ≡ b → total raw ≡ n → 0 < b → 0 < n → n ≤ l * b
    → ((i : ℕ) → i < b → entry i ≡ mapped_of lo hi n (clipped l raw) i) → TileSound lo hi n b l raw (clipped l raw) entry
sound lo hi n b l raw entry long all some pixels room own =
    record {
      bins = length_clipped l raw ∙ long;
      adds = total_clipped l raw (omega arith) (rw long (omega arith)) ∙ all;
      under = λ i h. omega (arith, clipped_most l raw i);
      least = λ i h. clipped_least l raw i (omega arith);
      mapped = own;
      grows = λ i h. omega (arith, own i (omega arith), own (i + 1) h, mapped_mono lo hi n (clipped l raw) pixels i (i + 1) (omega arith));
      slow = λ i h. omega (arith, own i (omega arith), own (i + 1) h, mapped_rise lo hi n l (clipped l raw) pixels i (clipped_most l raw (i + 1)));
      begins = omega (arith, own 0 some, mapped_first lo hi n l (clipped l raw) pixels (clipped_most l raw 0));
    }

-- the counts by the rule of 1986 and their mapping by T, where the bins have room for the pixels
sound_older : (lo hi n b c : ℕ) (raw : List ℕ) (entry : ℕ → ℕ) → length raw ≡ b → total raw ≡ n → 0 < b → 0 < n → n ≤ c * b → lo ≤ hi
    → ((i : ℕ) → i < b → entry i ≡ mapped_of lo hi (total (older c raw)) (older c raw) i) → TileOlder lo hi n b c (level_of c raw) raw (older c raw) entry
sound_older lo hi n b c raw entry long all some pixels room order own =
    let holds : total raw ≤ c * length raw = rw long (omega arith) in
    let x = level_largest c raw holds in
    let y = older_between c raw (omega arith) holds in
    let t : ℕ = total (older c raw) in
    let above : 0 < t = omega (arith, y.0) in
    let each : (i : ℕ) → i < b → get_or (older c raw) i 0 ≡ min c (get_or raw i 0 + (c - level_of c raw)) = λ i h. older_is c raw holds i (omega arith) in
    record {
      upto = x.most;
      fits = subst (λ k. excess (level_of c raw) raw ≤ k * (c - level_of c raw)) long (leb-true (excess (level_of c raw) raw) (length raw * (c - level_of c raw)) x.fits);
      largest = λ q l m. subst (λ k. k * (c - q) < excess q raw) long (leb-false (excess q raw) (length raw * (c - q)) (x.above q l m));
      bins = length_older c raw ∙ long;
      raises = λ i h u. omega (arith, each i h, x.most);
      fills = λ i h u. omega (arith, each i h, x.most);
      atleast = omega (arith, y.0);
      below = omega (arith, y.1);
      under = λ i h. older_most c raw i;
      least = λ i h. omega (arith, each i h);
      mapped = own;
      grows = λ i h. omega (arith, own i (omega arith), own (i + 1) h, mapped_mono lo hi t (older c raw) above i (i + 1) (omega arith));
      slow = λ i h. omega (arith, own i (omega arith), own (i + 1) h, mapped_rise lo hi t c (older c raw) above i (older_most c raw (i + 1)));
      begins = omega (arith, own 0 some, mapped_first lo hi t c (older c raw) above (older_most c raw 0));
      ends = own (b - 1) (omega arith) ∙ ap (λ k. mapped_of lo hi t (older c raw) (k - 1)) (sym (length_older c raw ∙ long))
          ∙ mapped_last lo hi t (older c raw) above refl order (omega (arith, length_older c raw));
    }

-- a factor above one is not 1.0
pub on_not_one : {clip : Clip} {f : Float} → ClippingOn clip f → clip_one_of clip ≡ false
on_not_one {clip} {f} on = rw (on.factor, above_not_one f on.above) refl

-- ---- any rectangle

-- what demand 3 asks of a rectangle of a picture: a pixel and a bin at least, pixels from Min to Max, which is in order, and room for them under the limit
pub record RectAsks (lo hi b : ℕ) (clip : Clip) (pic : List ℕ) (w : ℕ) (r : Rect) : Type 0 where
  pub some : 0 < r.width * r.height
  pub bins : 0 < b
  pub order : lo ≤ hi
  pub greys : all (within lo hi) (greys_of pic w r) ≡ true
  pub holds : Holds clip (r.width * r.height) b

module _ {lo hi b : ℕ} {clip : Clip} {pic : List ℕ} {w : ℕ} {r : Rect} (asks : RectAsks lo hi b clip pic w r) {f : Float} (on : ClippingOn clip f) where
  -- its pixels, and its raw counts
  abbrev pub area : ℕ
  area = r.width * r.height

  abbrev pub counted : List ℕ
  counted = counts_of lo hi b (greys_of pic w r)

  counted_total : total counted ≡ area
  counted_total = total_counts lo hi b (greys_of pic w r) asks.greys asks.bins ∙ length_greys pic w r

  counted_room : area ≤ limit_of f area b * b
  counted_room = holds_room (subst (λ x. Holds x area b) on.factor asks.holds)

  -- the greys of any rectangle, counted, clipped and mapped with a factor above one, in our edition
  pub rect_sound : {ed : Edition} → ed ≡ Ours → (entry : ℕ → ℕ)
      → ((i : ℕ) → i < b → entry i ≡ mapped_of lo hi (tile_divides lo hi b ed clip (greys_of pic w r)) (tile_counts lo hi b ed clip (greys_of pic w r)) i)
      → TileSound lo hi area b (limit_of f area b) counted (tile_counts lo hi b ed clip (greys_of pic w r)) entry
  rect_sound {ed} ours entry own =
      subst (λ cs. TileSound lo hi area b (limit_of f area b) counted cs entry) (sym clipped_own)
      (sound lo hi area b (limit_of f area b) counted entry
      (length_counts lo hi b (greys_of pic w r))
      counted_total
      asks.bins
      asks.some
      counted_room
      (λ i q. own i q ∙ ap₂ (λ n cs. mapped_of lo hi n cs i) divides_own clipped_own))
    where
      clipped_own : tile_counts lo hi b ed clip (greys_of pic w r) ≡ clipped (limit_of f area b) counted
      clipped_own =
          ap₂ (λ x y. tile_counts lo hi b x y (greys_of pic w r)) ours on.factor
          ∙ tile_counts_factor lo hi b Ours f (greys_of pic w r)
          ∙ ap (λ k. clipped (limit_of f k b) counted) (length_greys pic w r)

      divides_own : tile_divides lo hi b ed clip (greys_of pic w r) ≡ area
      divides_own = ap (λ x. tile_divides lo hi b x clip (greys_of pic w r)) ours ∙ divides_ours lo hi b clip (greys_of pic w r) ∙ length_greys pic w r

  -- and in the edition of 1986
  pub rect_older : {ed : Edition} → ed ≡ Of1986 → (entry : ℕ → ℕ)
      → ((i : ℕ) → i < b → entry i ≡ mapped_of lo hi (tile_divides lo hi b ed clip (greys_of pic w r)) (tile_counts lo hi b ed clip (greys_of pic w r)) i)
      → TileOlder lo hi area b (limit_of f area b) (level_of (limit_of f area b) counted) counted (tile_counts lo hi b ed clip (greys_of pic w r)) entry
  rect_older {ed} other entry own =
      subst (λ cs. TileOlder lo hi area b (limit_of f area b) (level_of (limit_of f area b) counted) counted cs entry) (sym older_own)
      (sound_older lo hi area b (limit_of f area b) counted entry
      (length_counts lo hi b (greys_of pic w r))
      counted_total
      asks.bins
      asks.some
      counted_room
      asks.order
      (λ i q. own i q ∙ ap₂ (λ n cs. mapped_of lo hi n cs i) divides_own older_own))
    where
      older_own : tile_counts lo hi b ed clip (greys_of pic w r) ≡ older (limit_of f area b) counted
      older_own =
          ap₂ (λ x y. tile_counts lo hi b x y (greys_of pic w r)) other on.factor
          ∙ tile_counts_factor lo hi b Of1986 f (greys_of pic w r)
          ∙ ap (λ k. older (limit_of f k b) counted) (length_greys pic w r)

      divides_own : tile_divides lo hi b ed clip (greys_of pic w r) ≡ total (older (limit_of f area b) counted)
      divides_own =
          sym (total_tile_counts lo hi b ed clip (greys_of pic w r) asks.greys asks.bins (subst (λ n. Holds clip n b) (sym (length_greys pic w r)) asks.holds))
          ∙ ap total older_own

-- a tile is one of them
module _ {w h : ℕ} {pic : List ℕ} {s : Settings} {room scratch : ℕ} (work : Work w h pic s room scratch) {f : Float} (on : ClippingOn s.clip f) where
  tile_rect_asks : (k : ℕ) → k < s.across * s.down → RectAsks s.min s.max (bins_of s) s.clip pic w (tile_of w h s k)
  tile_rect_asks k l =
      let asks : TilesReady w h pic s room scratch = record { work = work; changes = on_not_one on } in
      record {
        some = rw (tile_area w h s.across s.down k) (tile_pixels_some work.ready.tiled l);
        bins = omega (arith, work.ready.tiled.bins);
        order = omega (arith, work.ready.tiled.min);
        greys = tile_greys asks l;
        holds = rect_holds asks k;
      }

  -- with its own pixels and its own limit, in our edition
  tile_sound : s.edition ≡ Ours → (k : ℕ) → k < s.across * s.down → (entry : ℕ → ℕ)
      → ((i : ℕ) → i < bins_of s → entry i ≡ mapped_of s.min s.max (divides_in w h pic s k) (clipped_counts w h pic s k) i)
      → TileSound s.min s.max (pixels_in w h s k) (bins_of s) (limit_in w h s f k) (raw_counts w h pic s k) (clipped_counts w h pic s k) entry
  tile_sound ours k l entry own =
      subst
      (λ n. TileSound s.min s.max n (bins_of s) (limit_of f n (bins_of s)) (raw_counts w h pic s k) (clipped_counts w h pic s k) entry)
      (tile_area w h s.across s.down k)
      (rect_sound (tile_rect_asks k l) on ours entry own)

  -- and in that of 1986
  tile_older : s.edition ≡ Of1986 → (k : ℕ) → k < s.across * s.down → (entry : ℕ → ℕ)
      → ((i : ℕ) → i < bins_of s → entry i ≡ mapped_of s.min s.max (divides_in w h pic s k) (clipped_counts w h pic s k) i)
      → TileOlder s.min s.max (pixels_in w h s k) (bins_of s) (limit_in w h s f k) (level_of (limit_in w h s f k) (raw_counts w h pic s k)) (raw_counts w h pic s k) (clipped_counts w h pic s k) entry
  tile_older other k l entry own =
      subst
      (λ n. TileOlder s.min s.max n (bins_of s) (limit_of f n (bins_of s)) (level_of (limit_of f n (bins_of s)) (raw_counts w h pic s k)) (raw_counts w h pic s k) (clipped_counts w h pic s k) entry)
      (tile_area w h s.across s.down k)
      (rect_older (tile_rect_asks k l) on other entry own)

-- ---- every tile

-- demand 3, of prepare in our edition: every tile of an accepted film with a factor above one, with its own limit, and the map entries that prepare leaves for it
pub tiles_sound : (film w h : ℕ) (pic : List ℕ) (s : Settings) (m t n : List ℕ) {r : MapRecord} {foot : Footer} {f : Float}
    → (prepare_of film w h pic s m t n).answer ≡ accepted (r, foot) → ClippingOn s.clip f → s.edition ≡ Ours
    → FilmSound w h pic s f (prepare_of film w h pic s m t n).map
tiles_sound film w h pic s m t n e on ours k l =
    tile_sound (prepare_work film w h pic s m t n e) on ours k l _ (λ i q. own_mapping film w h pic s m t n e (on_not_one on) k i l q)

-- the same of enhance
pub tiles_sound_enhance : (w h : ℕ) (pic : List ℕ) (s : Settings) (m t : List ℕ) {foot : Footer} {f : Float}
    → (enhance_of w h pic s m t).answer ≡ accepted foot → ClippingOn s.clip f → s.edition ≡ Ours
    → FilmSound w h pic s f (enhance_of w h pic s m t).map
tiles_sound_enhance w h pic s m t e on ours k l =
    tile_sound (enhance_work w h pic s m t e) on ours k l _ (λ i q. own_mapping_enhance w h pic s m t e (on_not_one on) k i l q)

-- order 8, of prepare in the edition of 1986: "Here these facts stand in for demand 3."
pub tiles_older : (film w h : ℕ) (pic : List ℕ) (s : Settings) (m t n : List ℕ) {r : MapRecord} {foot : Footer} {f : Float}
    → (prepare_of film w h pic s m t n).answer ≡ accepted (r, foot) → ClippingOn s.clip f → s.edition ≡ Of1986
    → FilmOlder w h pic s f (prepare_of film w h pic s m t n).map
tiles_older film w h pic s m t n e on other k l =
    tile_older (prepare_work film w h pic s m t n e) on other k l _ (λ i q. own_mapping film w h pic s m t n e (on_not_one on) k i l q)

-- the same of enhance
pub tiles_older_enhance : (w h : ℕ) (pic : List ℕ) (s : Settings) (m t : List ℕ) {foot : Footer} {f : Float}
    → (enhance_of w h pic s m t).answer ≡ accepted foot → ClippingOn s.clip f → s.edition ≡ Of1986
    → FilmOlder w h pic s f (enhance_of w h pic s m t).map
tiles_older_enhance w h pic s m t e on other k l =
    tile_older (enhance_work w h pic s m t e) on other k l _ (λ i q. own_mapping_enhance w h pic s m t e (on_not_one on) k i l q)

-- ---- the footer

-- the footer that the rules give, in each of the three cases
pub foot_shows : {w h : ℕ} {s : Settings} → FilmFooterAsks w h s → FooterShows s.clip (pixels_in w h s 0) (bins_of s) (foot_of w h s)
unfolding of_bits
foot_shows {w} {h} {s} asks =
    let foot : FooterAsks s.clip (pixels_in w h s 0) (bins_of s) = footer_asks asks refl in
    subst (FooterShows s.clip (pixels_in w h s 0) (bins_of s)) (foot_is w h s)
    record {
      off = λ c. sym (footer_off s.clip _ _ foot c);
      unchanged = λ f c q. sym (footer_one s.clip _ _ foot f c q);
      above = λ f on. sym (footer_above s.clip _ _ foot f on.factor (above_not_one f on.above) refl refl);
    }

-- a clip setting that 10 lets pass is off, exactly 1.0, or a factor above one
pub clip_case : (clip : Clip) → clip_bad_of clip ≡ false → ClipCase clip
clip_case clip fair = go clip refl
  where
    which : (f : Float) → clip ≡ Factor f → (b : Bool) → is_one f ≡ b → ClipCase clip
    which f e true q = clip_one f e q
    which f e false q = clip_on f (record { factor = e; above = above_one f (not-false (allowed f) (subst (λ x. clip_bad_of x ≡ false) e fair)) q })

    go : (c : Clip) → clip ≡ c → ClipCase clip
    go Off e = clip_off e
    go (Factor f) e = which f e (is_one f) refl

-- so of an accepted film
pub clip_cases : {w h : ℕ} {pic : List ℕ} {s : Settings} {room scratch : ℕ} → Work w h pic s room scratch → ClipCase s.clip
clip_cases {s = s} work = clip_case s.clip work.ready.clip

-- the footer that prepare hands back: with a factor above one it shows the limit of tile 0, 0, the factor asked and the factor used of that limit,
-- with clip off and at 1.0 what document 01 says
pub footer_shows : (film w h : ℕ) (pic : List ℕ) (s : Settings) (m t n : List ℕ) {r : MapRecord} {foot : Footer}
    → (prepare_of film w h pic s m t n).answer ≡ accepted (r, foot) → FooterShows s.clip (pixels_in w h s 0) (bins_of s) foot
footer_shows film w h pic s m t n e =
    subst (FooterShows s.clip (pixels_in w h s 0) (bins_of s)) (prepare_foot film w h pic s m t n e) (foot_shows (film_asks (prepare_work film w h pic s m t n e).ready))

-- and so does the one of enhance
pub footer_shows_enhance : (w h : ℕ) (pic : List ℕ) (s : Settings) (m t : List ℕ) {foot : Footer}
    → (enhance_of w h pic s m t).answer ≡ accepted foot → FooterShows s.clip (pixels_in w h s 0) (bins_of s) foot
footer_shows_enhance w h pic s m t e =
    subst (FooterShows s.clip (pixels_in w h s 0) (bins_of s)) (enhance_foot w h pic s m t e) (foot_shows (film_asks (enhance_work w h pic s m t e).ready))

-- ---- the limit

-- order 2: the limit of so many pixels and bins holds them, and is no larger than the factor and they ask
pub limit_of_fits : (f : Float) (n b : ℕ) → 0 < b → LimitFits f n b (limit_of f n b)
limit_of_fits f n b some =
    record { holds = limit_holds f n b some; least = λ less l enough. limit_tight f n b l some less enough; given = limit_floored f n b some }

-- order 2: the limit of each tile of a film whose sides, grid, range and bins are not refused holds the tile, and is no larger than the factor and the tile ask
pub tiled_limit_fits : {w h : ℕ} {s : Settings} → Tiled w h s → (f : Float) (k : ℕ) → LimitFits f (pixels_in w h s k) (bins_of s) (limit_in w h s f k)
tiled_limit_fits {s = s} tiled f k = limit_of_fits f _ (bins_of s) (omega (arith, tiled.bins))

-- so of an accepted film
pub limit_fits : {w h : ℕ} {pic : List ℕ} {s : Settings} {room scratch : ℕ} → Work w h pic s room scratch
    → (f : Float) (k : ℕ) → LimitFits f (pixels_in w h s k) (bins_of s) (limit_in w h s f k)
limit_fits work = tiled_limit_fits work.ready.tiled

-- ---- the judgement of a clip setting

-- its number is that of the row of 10
pub judged_row : (clip : Clip) (j : Judged) → JudgedSays j clip → judged_number j ≡ first (row 10 (clip_bad_of clip) ∷ [])
unfolding first
judged_row clip Judged.Off s = rw s refl
judged_row clip Judged.Refused s = rw (s.1, s.2) refl
judged_row clip Judged.One s = rw (s.1, one_allowed s.0 s.2) refl
judged_row clip (Judged.Above f) s = rw (s.0, s.1) refl
