-- Order 13, a window around each pixel: what around answers and leaves; "Moving one pixel right drops one column of counts and adds another; prove that this gives a fresh region's counts", and "demand 3's (or order 8's)
-- facts for every region"; only the region's pixels matter, and a part of the film with its margin shows the same.
-- Promises alone: of every run of the calls by their contracts (Runs), each listed in docs/PROMISES.md. A name with ' is lent memory at the end.
-- Assumes nothing.
use Prim.Native.Nat.{ℕ, ◌+◌, ◌*◌, ◌<◌, ◌≤◌}
use mathlib.Core.Bool.{true, false}
use mathlib.Core.List.{List}
use mathlib.Core.Logic.{◌≢◌}
use mathlib.Core.Path.{◌≡◌, refl, sym, ap, ◌∙◌, subst}
use native.Mathlib.Omega.{arith}
use lib.Ieee.{Float}
use lib.ListN.{length, get_or, take, drop}
use lib.Seq.{length-take-le, get_or-take}
use Rattle.base_lists.specs.Lists.{filled}
use Rattle.base_rows.specs.Refuse.{first, accepted, refused, says}
use Rattle.base_rows.proofs.Told.{told_same}
use Rattle.film_settings.specs.declared.Settings.{Settings}
use Rattle.film_settings.specs.declared.Footer.{Footer}
use Rattle.film_settings.specs.Settings.{bins_of, clip_one_of, size_rows}
use Rattle.film_prepare.specs.Prepare.{PaintOut}
use Rattle.film_around.specs.Around.{region_pixels, around_grey, around_film, around_foot, arounded_of, around_of, region_mapping}
use Rattle.film_around.proofs.Table.{around_table_region}
use Rattle.film_around.proofs.Like.{around_grey_lem}
use Rattle.promise_films.specs.Films.{FooterShows, ClippingOn, ClipCase, LimitFits}
use Rattle.promise_around.specs.Regions.{NeverGiven, SideFits, other_rows, gridless, shown_around, region_limit, RegionSound, RegionOlder}
use Rattle.promise_around.proofs.Runs.{AroundCall, Arounds, around_arguments, around_read, around_ends}
use Rattle.tile_limit.specs.declared.Edition.TheVariants.{Ours, Of1986}
use Rattle.tile_count.specs.Tally.{greys_of, counts_of}
use Rattle.tile_map.proofs.Tiles.{get_or_tile_mapping}
use Rattle.tile_slide.specs.Slide.{region_rect}
use Rattle.promise_films.proofs.Sound.{rect_sound, rect_older, on_not_one, clip_case, limit_of_fits}
use Rattle.promise_around.proofs.Outcomes.{around_known, around_table, bad_side, rows_other, rows_some, rows_of, not_first, around_left, film_at, shown_by_factor, region_footer, around_gridless}
use Rattle.promise_around.proofs.Ways.{Two, PartOf}
use Rattle.tile_count.proofs.Counts.{counts_by}
use Rattle.promise_around.proofs.Slides.{SlideCall, Slides, slide_ends}
use Rattle.promise_around.proofs.Regions.{film, region_asks, own_bin_lem}
use Rattle.promise_around.proofs.Local.{shown_local, shown_alike, shown_part}
use Rattle.promise_films.proofs.Accepted.{ended_kept, ended_says, says_accepted, says_refused, some_says}
use Rattle.promise_films.proofs.Alike.{paint_memory, paint_parts, same_ends}

-- ---- what is said

module _ {c : AroundCall} (ran : Arounds c) where
  -- it says the number of the first row that applies, and where none does the footer
  pub around_says : c.answer ≡ says (rows_of c) (around_foot c.width c.height c.side c.settings)
  around_says = ended_says (around_table _ _ _ _ _ _ _) (around_ends ran)

  -- 3 to 6, 11 and 32 are never given
  pub around_never : (n : ℕ) → NeverGiven n → c.answer ≢ refused n
  around_never n never e = not_first c n never (says_refused _ _ (sym around_says ∙ e))

  -- "39, side even or not 3 to 63, in the place of 3 to 6": where neither 1 nor 2 applies
  pub around_thirty_nine : first (size_rows c.width c.height (length c.pixels)) ≡ 0 → (SideFits c.side → ⊥) → c.answer ≡ refused 39
  around_thirty_nine none bad =
      around_says
      ∙ ap (λ n. says n (around_foot c.width c.height c.side c.settings))
      (sym (around_table_region c.width c.height c.pixels c.side c.settings (length c.scratch) (length c.target) (sym none) refl (bad_side c.side bad) (λ z. omega arith)))

  -- "17 for the target as in order 12": where its length is not width x height, and none of 1, 2, 39, 7 to 9, 31, 10 and 12 applies
  pub around_seventeen : (length c.target ≡ c.width * c.height → ⊥)
      → c.answer ≡ refused (first (other_rows c.width c.height c.pixels c.side c.settings (length c.scratch)))
  around_seventeen other =
      around_says
      ∙ ap (λ n. says n (around_foot c.width c.height c.side c.settings)) (rows_other c.width c.height c.pixels c.side c.settings (length c.scratch) (length c.target) other)
      ∙ (some_says _ _ (rows_some c.width c.height c.pixels c.side c.settings (length c.scratch) (length c.target) other)).1

  -- a refusal leaves the target and the scratch as they were
  pub around_refusal_keeps : (n : ℕ) → c.answer ≡ refused n → (c.target' ≡ c.target) × (c.scratch' ≡ c.scratch)
  around_refusal_keeps n q = paint_memory (ended_kept (around_table _ _ _ _ _ _ _) (around_ends ran) q)

-- ---- any two outcomes are equal. `run.answer` is what the call itself answers, and `answer` what that says

-- the same in what is read, the same answer and memory: any grid will do
pub around_any_grid : {c d : AroundCall} (x : Arounds c) (y : Arounds d) → around_read c ≡ around_read d
    → (x.run.answer ≡ y.run.answer) × (c.answer ≡ d.answer) × (c.target' ≡ d.target') × (c.scratch' ≡ d.scratch')
around_any_grid {c} {d} x y same =
    let e =
    paint_parts
    (same_ends (λ (g : ℕ × ℕ × List ℕ × ℕ × Settings × List ℕ × List ℕ). around_of g.0 g.1 g.2 g.3 g.4 g.5 g.6)
    (around_ends x ∙ sym (around_gridless c.width c.height c.pixels c.side c.settings c.target c.scratch))
    (around_ends y ∙ sym (around_gridless d.width d.height d.pixels d.side d.settings d.target d.scratch)) same) in
    (told_same (ap (λ (z : AroundCall). z.answer) x.named) (ap (λ (z : AroundCall). z.answer) y.named) e.0, e.0, e.1, e.2)

-- "any two outcomes it allows are equal"
pub around_determined : {c d : AroundCall} (x : Arounds c) (y : Arounds d) → around_arguments c ≡ around_arguments d
    → (x.run.answer ≡ y.run.answer) × (c.answer ≡ d.answer) × (c.target' ≡ d.target') × (c.scratch' ≡ d.scratch')
around_determined x y same = around_any_grid x y (ap (λ (g : ℕ × ℕ × List ℕ × ℕ × Settings × List ℕ × List ℕ). (g.0, g.1, g.2, g.3, gridless g.4, g.5, g.6)) same)

-- ---- an accepted film

module _ {c : AroundCall} (ran : Arounds c) {foot : Footer} (done : c.answer ≡ accepted foot) where
  -- "an odd side from 3 to 63"
  pub around_side : SideFits c.side
  around_side = let k = around_known ran done in record { odd = omega (arith, k.odd); least = k.least; most = k.film.few }

  -- "factor 1.0 copies the film and leaves scratch"
  pub around_as_film : clip_one_of c.settings.clip ≡ true → (c.target' ≡ c.pixels) × (c.scratch' ≡ c.scratch)
  unfolding arounded_of
  around_as_film one =
      let left = around_left ran done in
      (ap (λ (y : PaintOut). y.target) left ∙ rw one refl, ap (λ (y : PaintOut). y.scratch) left ∙ rw one refl)

  -- "Scratch is .. zero afterwards": twice the bins; what lies behind stays
  pub around_scratch : clip_one_of c.settings.clip ≡ false → c.scratch' ≡ filled (λ k. 0) c.scratch (2 * bins_of c.settings)
  unfolding arounded_of
  around_scratch one = ap (λ (y : PaintOut). y.scratch) (around_left ran done) ∙ rw one refl

  -- the whole target
  pub around_film_lem : clip_one_of c.settings.clip ≡ false → c.target' ≡ around_film c.width c.height c.pixels c.side c.settings
  unfolding arounded_of
  around_film_lem one = ap (λ (y : PaintOut). y.target) (around_left ran done) ∙ rw one refl

  -- each pixel by the rule: "The grey is the mapping of the pixel's own bin"
  pub around_by_rule : clip_one_of c.settings.clip ≡ false → (i j : ℕ) → i < c.width → j < c.height
      → get_or c.target' (j * c.width + i) 0 ≡ around_grey c.width c.height c.pixels c.side c.settings i j
  around_by_rule one i j l k = ap (λ z. get_or z (j * c.width + i) 0) (around_film_lem one) ∙ film_at c.width c.height c.pixels c.side c.settings i j l k

  -- in one sentence for every factor
  pub around_shows : (i j : ℕ) → i < c.width → j < c.height → get_or c.target' (j * c.width + i) 0 ≡ shown_around c.width c.height c.pixels c.side c.settings i j
  around_shows i j l k = shown_by_factor c.width c.height c.pixels c.side c.settings i j (λ e. ap (λ p. get_or p (j * c.width + i) 0) (around_as_film e).0) (λ e. around_by_rule e i j l k)

  -- "The footer shows the region of column 0, row 0"
  pub around_footer : FooterShows c.settings.clip (region_pixels c.width c.height c.side 0 0) (bins_of c.settings) foot
  around_footer =
      let e = says_accepted _ _ (sym (ended_says (around_table _ _ _ _ _ _ _) (around_ends ran)) ∙ done) in
      subst (FooterShows c.settings.clip (region_pixels c.width c.height c.side 0 0) (bins_of c.settings)) e.1 (region_footer c.width c.height c.pixels c.side c.settings (length c.scratch) (length c.target) e.0)

-- ---- every region

-- the clip setting of an accepted film is off, exactly 1.0, or a factor above one
pub around_clip : {c : AroundCall} {foot : Footer} → Arounds c → c.answer ≡ accepted foot → ClipCase c.settings.clip
around_clip {c} ran done = clip_case c.settings.clip (around_known ran done).film.fair

module _ {c : AroundCall} {foot : Footer} (ran : Arounds c) (done : c.answer ≡ accepted foot) {f : Float} (on : ClippingOn c.settings.clip f) (i j : ℕ) (l : i < c.width)
    (k : j < c.height) where
  -- in our edition
  pub regions_sound : c.settings.edition ≡ Ours → RegionSound c.width c.height c.pixels c.side c.settings f i j (get_or c.target' (j * c.width + i) 0)
  unfolding region_pixels region_mapping
  regions_sound ours =
      record {
        sound = rect_sound (region_asks ran done on i j l k) on ours _ (λ b q. get_or_tile_mapping c.settings.min c.settings.max (bins_of c.settings) c.settings.edition c.settings.clip (greys_of c.pixels c.width (region_rect c.width c.height c.side i j)) b q);
        bin = own_bin_lem ran done on i j l k;
        shown = around_by_rule ran done (on_not_one on) i j l k ∙ around_grey_lem c.width c.height c.pixels c.side c.settings i j;
      }

  -- and in that of 1986
  pub regions_older : c.settings.edition ≡ Of1986 → RegionOlder c.width c.height c.pixels c.side c.settings f i j (get_or c.target' (j * c.width + i) 0)
  unfolding region_pixels region_mapping
  regions_older other =
      record {
        older = rect_older (region_asks ran done on i j l k) on other _ (λ b q. get_or_tile_mapping c.settings.min c.settings.max (bins_of c.settings) c.settings.edition c.settings.clip (greys_of c.pixels c.width (region_rect c.width c.height c.side i j)) b q);
        bin = own_bin_lem ran done on i j l k;
        shown = around_by_rule ran done (on_not_one on) i j l k ∙ around_grey_lem c.width c.height c.pixels c.side c.settings i j;
      }

  -- order 2, of every region: L x B is never below N, and L is the least that can hold the region where the factor would give less
  pub regions_limit_fits : LimitFits f (region_pixels c.width c.height c.side i j) (bins_of c.settings) (region_limit c.width c.height c.side c.settings f i j)
  regions_limit_fits = limit_of_fits f _ (bins_of c.settings) (omega (arith, (film ran done on i j l k).scale.some))

-- ---- the region's pixels alone, and a part of the film

-- show the same grey there
pub around_local : {c d : AroundCall} {foot foot' : Footer} → Arounds c → c.answer ≡ accepted foot → Arounds d → d.answer ≡ accepted foot'
    → (i j : ℕ) → i < c.width → j < c.height → Two c d i j → get_or c.target' (j * c.width + i) 0 ≡ get_or d.target' (j * d.width + i) 0
around_local {c} {d} ran done ran' done' i j l k two =
    around_shows ran done i j l k
    ∙ shown_local c.width c.height c.pixels d.pixels c.side c.settings i j l k two.agree
    ∙ shown_alike c.width c.height d.pixels c.side c.settings d.settings i j two.like
    ∙ rw (two.width, two.height, two.side) refl
    ∙ sym (around_shows ran' done' i j (rw two.width l) (rw two.height k))

-- a part of the film with a margin of half a side shows the same pixels
pub around_part : {c d : AroundCall} {foot foot' : Footer} → Arounds c → c.answer ≡ accepted foot → Arounds d → d.answer ≡ accepted foot'
    → (left top i j : ℕ) → PartOf c d left top i j → get_or d.target' (j * d.width + i) 0 ≡ get_or c.target' ((top + j) * c.width + (left + i)) 0
around_part {c} {d} ran done ran' done' left top i j p =
    around_shows ran' done' i j p.across.below p.down.below
    ∙ shown_alike d.width d.height d.pixels d.side d.settings c.settings i j p.like
    ∙ ap (λ n. shown_around d.width d.height d.pixels n c.settings i j) p.side
    ∙ shown_part c.width c.height c.pixels left top d.width d.height d.pixels p.part c.side i j p.across p.down c.settings
    ∙ sym (around_shows ran done (left + i) (top + j) (omega (arith, p.across.below, p.part.across)) (omega (arith, p.down.below, p.part.down)))

-- ---- the counts that slide

-- the front of the counts is then what a fresh count of the region to the right gives; what lies behind the bins stays
pub slide_fresh : {c : SlideCall} → Slides c → c.bins ≤ length c.counts
    → (take c.bins c.counts' ≡ counts_of c.low c.high c.bins (greys_of c.pixels c.width (region_rect c.width c.height c.side (c.x + 1) c.y)))
    × (drop c.bins c.counts' ≡ drop c.bins c.counts)
slide_fresh {c} ran room =
    let slid = slide_ends ran in (
      counts_by c.low c.high c.bins (greys_of c.pixels c.width (region_rect c.width c.height c.side (c.x + 1) c.y)) (take c.bins c.counts')
          (length-take-le c.bins c.counts' (omega (arith, room, slid.size)))
          (λ i l. get_or-take c.bins c.counts' i 0 l ∙ slid.front i l),
      slid.behind,
    )
