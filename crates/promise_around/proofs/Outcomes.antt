-- Around by its table: its rows, what an accepted film is left as, its footer, and what is read of the settings.
-- A name with ' is lent memory at the end.
-- Assumes nothing.
use Prim.Native.Nat.{ℕ, ◌+◌, ◌*◌, ◌%◌, ◌<◌}
use mathlib.Core.Bool.{Bool, true, false, cond, not}
use mathlib.Core.List.{List, [], ◌∷◌}
use mathlib.Core.Logic.{◌≢◌}
use mathlib.Core.Path.{◌≡◌, refl, sym, ap, ◌∙◌}
use native.Mathlib.Omega.{arith}
use lib.Dec.{ltb, eqb}
use lib.Ieee.{of_bits}
use lib.ListN.{length, get_or}
use borrow.Author.Tests.{ltb-true, ltb-false, eqb-true, eqb-false}
use Rattle.base_lists.specs.Lists.{all, tab}
use Rattle.base_lists.proofs.Tabs.{length_tab, get_or_tab}
use Rattle.base_lists.proofs.Blocks.{get_or_joined}
use Rattle.tile_limit.proofs.Laws.{above_not_one}
use Rattle.base_rows.specs.Refuse.{row, first, accepted, Each, refused}
use Rattle.base_rows.proofs.Walk.{first_never, first_both, first_rest}
use Rattle.film_settings.specs.declared.Settings.{Settings}
use Rattle.film_settings.specs.declared.Footer.{Footer}
use Rattle.film_settings.specs.Settings.{bins_of, clip_one_of, size_rows, grey_rows}
use Rattle.film_settings.proofs.Like.{bins_kept}
use Rattle.film_settings.proofs.Ready.{size_numbered}
use Rattle.film_settings.proofs.Parts.{grey_numbered}
use Rattle.film_tiles.specs.Tiles.{FooterAsks}
use Rattle.film_tiles.proofs.Footers.{footer_off, footer_one, footer_above}
use Rattle.film_prepare.specs.Prepare.{PaintOut, paint_leaves}
use Rattle.film_around.specs.Around.{region_rows, around_rows, region_pixels, around_grey, around_row, around_film, around_foot, arounded_of, around_of}
use Rattle.film_around.proofs.Table.{Known, known, around_table_numbers, around_table_parts, region_numbered, region_even, region_small, region_large, around_work_other}
use Rattle.film_around.proofs.Endings.{asks_footer, around_refused, around_done}
use Rattle.film_around.proofs.Like.{SameRead, around_grey_like, around_like}
use Rattle.promise_films.specs.Films.{FooterShows}
use Rattle.promise_films.proofs.Accepted.{ByTable, ended_done, ended_none}
use Rattle.promise_around.specs.Regions.{NeverGiven, three, four, five, six, eleven, listless, SideFits, other_rows, gridless, shown_around}
use Rattle.promise_around.proofs.Runs.{AroundCall, Arounds, around_ends}

-- around goes by the rows 1, 2, 39, 7 to 9, 31, 10, 12, 17 and 13
pub around_table : (w h : ℕ) (pic : List ℕ) (side : ℕ) (s : Settings) (o t : List ℕ)
    → ByTable (λ (x : PaintOut). x.answer) (first (around_rows w h pic side s (length t) (length o))) (around_foot w h side s) (arounded_of w h pic side s t) (λ k. paint_leaves (refused k) o t) (around_of w h pic side s o t)
unfolding arounded_of
around_table w h pic side s o t =
    record {
      when_none = λ z. sym (around_done w h pic side s o t refl z);
      when_some = λ z. sym (around_refused w h pic side s o t refl z);
      says_done = refl;
      says_lent = λ k. refl;
    }

-- ---- its rows

-- a side that is even, below 3 or above 63 meets 39
pub bad_side : (side : ℕ) → (SideFits side → ⊥) → 39 ≡ first (region_rows side)
bad_side side bad = go (eqb (side % 2) 0) (ltb side 3) (ltb 63 side) refl refl refl
  where
    go : (even small large : Bool) → eqb (side % 2) 0 ≡ even → ltb side 3 ≡ small → ltb 63 side ≡ large → 39 ≡ first (region_rows side)
    go true small large p q r = region_even side (eqb-true (side % 2) 0 p)
    go false true large p q r = region_small side (eqb-false (side % 2) 0 p) (ltb-true side 3 q)
    go false false true p q r = region_large side (eqb-false (side % 2) 0 p) (ltb-false side 3 q) (ltb-true 63 side r)
    go false false false p q r = absurd (bad record { odd = omega (arith, eqb-false (side % 2) 0 p); least = ltb-false side 3 q; most = ltb-false 63 side r })

-- a target of another length
module _ (w h : ℕ) (pic : List ℕ) (side : ℕ) (s : Settings) (scratch target : ℕ) (other : target ≡ w * h → ⊥) where
  some_other : first (row 12 (ltb scratch (2 * bins_of s)) ∷ row 17 true ∷ []) ≢ 0
  unfolding first
  some_other = go (ltb scratch (2 * bins_of s))
    where
      go : (b : Bool) → ◌≢◌ {A = ℕ} (cond b 12 17) 0
      go true z = omega arith
      go false z = omega arith

  pub rows_other : first (around_rows w h pic side s scratch target) ≡ first (other_rows w h pic side s scratch)
  rows_other =
      ap first (around_table_parts w h pic side s scratch target)
      ∙ first_rest (size_rows w h (length pic)) _ _ (size_numbered w h (length pic))
      (λ x. first_rest (region_rows side) _ _ (region_numbered side) (λ y. first_rest (grey_rows s) _ _ (grey_numbered s) (λ z. around_work_other w h pic s scratch target other)))

  pub rows_some : first (other_rows w h pic side s scratch) ≢ 0
  rows_some z =
      let a = first_both (size_rows w h (length pic)) _ (size_numbered w h (length pic)) z in
      let b = first_both (region_rows side) _ (region_numbered side) a.1 in
      some_other (first_both (grey_rows s) _ (grey_numbered s) b.1).1

-- ---- of every run

-- the first of its rows that applies, 0 where none does
abbrev pub rows_of : AroundCall → ℕ
rows_of c = first (around_rows c.width c.height c.pixels c.side c.settings (length c.scratch) (length c.target))

-- its rows have none of 3 to 6, 11 and 32
module _ (c : AroundCall) where
  other : (k : ℕ) → eqb 0 k ≡ false → Each (λ j. not (eqb j k)) (around_rows c.width c.height c.pixels c.side c.settings (length c.scratch) (length c.target)) → rows_of c ≢ k
  other k z each = first_never k (around_rows c.width c.height c.pixels c.side c.settings (length c.scratch) (length c.target)) z each

  pub not_first : (k : ℕ) → NeverGiven k → rows_of c ≢ k
  unfolding all
  not_first _ three = other 3 refl (rw around_table_numbers refl)
  not_first _ four = other 4 refl (rw around_table_numbers refl)
  not_first _ five = other 5 refl (rw around_table_numbers refl)
  not_first _ six = other 6 refl (rw around_table_numbers refl)
  not_first _ eleven = other 11 refl (rw around_table_numbers refl)
  not_first _ listless = other 32 refl (rw around_table_numbers refl)

-- a film that around accepted met no row,
pub around_known : {c : AroundCall} → Arounds c → {foot : Footer} → c.answer ≡ accepted foot
    → Known c.width c.height c.pixels c.side c.settings (length c.scratch) (length c.target)
around_known {c} ran done =
    known c.width c.height c.pixels c.side c.settings (length c.scratch) (length c.target) (ended_none (around_table _ _ _ _ _ _ _) (around_ends ran) done)

-- and was left as the rules say
pub around_left : {c : AroundCall} → Arounds c → {foot : Footer} → c.answer ≡ accepted foot
    → paint_leaves c.answer c.target' c.scratch' ≡ arounded_of c.width c.height c.pixels c.side c.settings c.scratch
around_left ran done = ended_done (around_table _ _ _ _ _ _ _) (around_ends ran) done

-- each pixel of such a film
pub film_at : (w h : ℕ) (pic : List ℕ) (side : ℕ) (s : Settings) (i j : ℕ) → i < w → j < h → get_or (around_film w h pic side s) (j * w + i) 0 ≡ around_grey w h pic side s i j
unfolding around_film around_row
film_at w h pic side s i j l k =
    get_or_joined w h (λ y. tab w (λ x. around_grey w h pic side s x y)) (λ y q. length_tab w _) j i 0 k l ∙ get_or_tab w (λ x. around_grey w h pic side s x j) i 0 l

-- what is shown, by whether the factor is 1.0
pub shown_by_factor : (w h : ℕ) (pic : List ℕ) (side : ℕ) (s : Settings) (i j : ℕ) {g : ℕ} → (clip_one_of s.clip ≡ true → g ≡ get_or pic (j * w + i) 0)
    → (clip_one_of s.clip ≡ false → g ≡ around_grey w h pic side s i j) → g ≡ shown_around w h pic side s i j
unfolding shown_around
shown_by_factor w h pic side s i j {g} own ruled = go (clip_one_of s.clip) refl
  where
    go : (b : Bool) → clip_one_of s.clip ≡ b → g ≡ cond b (get_or pic (j * w + i) 0) (around_grey w h pic side s i j)
    go true e = own e
    go false e = ruled e

-- the footer that the rules give, in each of the three cases
pub region_footer : (w h : ℕ) (pic : List ℕ) (side : ℕ) (s : Settings) (scratch target : ℕ) → first (around_rows w h pic side s scratch target) ≡ 0
    → FooterShows s.clip (region_pixels w h side 0 0) (bins_of s) (around_foot w h side s)
unfolding of_bits around_foot
region_footer w h pic side s scratch target none =
    let asks : FooterAsks s.clip (region_pixels w h side 0 0) (bins_of s) = asks_footer w h pic side s scratch target (sym none) refl refl refl in
    record {
      off = λ e. sym (footer_off s.clip _ _ asks e);
      unchanged = λ f e q. sym (footer_one s.clip _ _ asks f e q);
      above = λ f on. sym (footer_above s.clip _ _ asks f on.factor (above_not_one f on.above) refl refl);
    }

-- ---- what is read

-- no grid is looked at, and bins 0 are 128
same_read : (s : Settings) → SameRead (gridless s) s
unfolding bins_of
same_read s = record { bins = bins_kept s; least = refl; most = refl; clip = refl; edition = refl }

pub around_gridless : (w h : ℕ) (pic : List ℕ) (side : ℕ) (s : Settings) (o t : List ℕ) → around_of w h pic side (gridless s) o t ≡ around_of w h pic side s o t
around_gridless w h pic side s o t = around_like w h pic side (same_read s) o t

pub shown_gridless : (w h : ℕ) (pic : List ℕ) (side : ℕ) (s : Settings) (x y : ℕ) → shown_around w h pic side (gridless s) x y ≡ shown_around w h pic side s x y
unfolding shown_around
shown_gridless w h pic side s x y = rw (around_grey_like w h pic side (same_read s) x y) refl
