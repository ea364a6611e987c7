-- direct beside a call that ended as enhance does, of the same film: the same answer, scratch and picture.
-- A name with ' is lent memory at the end.
-- Assumes nothing.
use Prim.Native.Nat.{ℕ, ◌+◌, ◌*◌, ◌<◌}
use mathlib.Core.List.{List}
use mathlib.Core.Logic.{◌≢◌}
use mathlib.Core.Path.{◌≡◌, refl, sym, ap, ◌∙◌}
use native.Mathlib.Omega.{arith}
use lib.ListN.{length, get_or}
use Rattle.base_lists.specs.Lists.{tab}
use Rattle.base_lists.proofs.Tabs.{length_tab, get_or_tab, tab_cong}
use Rattle.base_lists.proofs.Fills.{joined_cong}
use Rattle.base_lists.proofs.Blocks.{get_or_joined}
use Rattle.base_rows.specs.Refuse.{first, accepted, says}
use Rattle.film_settings.specs.declared.Footer.{Footer}
use Rattle.film_tiles.specs.Tiles.{foot_of}
use Rattle.film_prepare.specs.Prepare.{enhance_rows, EnhanceOut, enhance_leaves, enhance_of, PaintOut}
use Rattle.pixel_rule.specs.Rule.{shown_grey}
use Rattle.film_direct.specs.Direct.{shown_film, direct_of}
use Rattle.film_direct.proofs.Endings.{rows_whole}
use Rattle.film_direct.proofs.Like.{direct_like}
use Rattle.promise_films.proofs.Runs.{EnhanceCall}
use Rattle.promise_films.proofs.Accepted.{says_accepted, table_says, enhance_table}
use Rattle.promise_reach.proofs.Rendered.{enhanced_grey}
use Rattle.promise_direct.proofs.Runs.{DirectCall, Directs, direct_ends}
use Rattle.promise_direct.proofs.Rows.{same_answer, same_scratch, same_target, picture_length}
use Rattle.promise_direct.proofs.Ways.{SameFilm}
use Rattle.film_settings.specs.declared.Settings.{Settings}

-- ---- direct by itself

-- what is shown of each pixel of a film that it accepted
pub film_shows : (w h : ℕ) (pic : List ℕ) (s : Settings) (i j : ℕ) → i < w → j < h → get_or (shown_film w h pic s) (j * w + i) 0 ≡ shown_grey w h pic s i j
unfolding shown_film
film_shows w h pic s i j l k =
    get_or_joined w h (λ y. tab w (λ x. shown_grey w h pic s x y)) (λ y q. length_tab w _) j i 0 k l ∙ get_or_tab w (λ x. shown_grey w h pic s x j) i 0 l

-- ---- beside enhance

-- enhance's rows
abbrev pub rows_of : EnhanceCall → ℕ
rows_of e = first (enhance_rows e.width e.height e.pixels e.settings (length e.map) (length e.scratch))

-- a call that ended as enhance does
abbrev pub EndedAs : EnhanceCall → Type 0
EndedAs e = enhance_leaves e.answer e.pixels' e.map' e.scratch' ≡ enhance_of e.width e.height e.pixels e.settings e.map e.scratch

-- it says the number of enhance's first row that applies, and where none does the footer
pub ended_row : (e : EnhanceCall) → EndedAs e → e.answer ≡ says (rows_of e) (foot_of e.width e.height e.settings)
ended_row e over = ap (λ (y : EnhanceOut). y.answer) over ∙ table_says (enhance_table _ _ _ _ _ _)

module _ {d : DirectCall} {e : EnhanceCall} (ran : Directs d) (over : EndedAs e) (same : SameFilm d e) where
  -- what direct left, with enhance's film
  left : ◌≡◌ {A = PaintOut} record { answer = d.answer; target = d.target'; scratch = d.scratch' } (direct_of e.width e.height e.pixels e.settings d.target d.scratch)
  left =
      direct_ends ran
      ∙ direct_like d.width d.height d.pixels d.settings e.settings d.target d.scratch same.like
      ∙ rw (same.width, same.height, same.pixels) refl

  size : length d.target ≡ e.width * e.height
  size = same.target ∙ rw (same.width, same.height) refl

  -- "its refusals and footer equal too, but for 11"
  pub answers_by : rows_of e ≢ 11 → d.answer ≡ e.answer
  answers_by not =
      ap (λ (y : PaintOut). y.answer) left
      ∙ same_answer e.width e.height e.pixels e.settings d.target e.map d.scratch e.scratch size same.scratch not
      ∙ sym (ap (λ (y : EnhanceOut). y.answer) over)

  -- "lent scratch .. left as enhance leaves it"
  pub scratch_by : rows_of e ≢ 11 → d.scratch ≡ e.scratch → d.scratch' ≡ e.scratch'
  scratch_by not q =
      ap (λ (y : PaintOut). y.scratch) left
      ∙ same_scratch e.width e.height e.pixels e.settings d.target e.map d.scratch e.scratch size same.scratch not q
      ∙ sym (ap (λ (y : EnhanceOut). y.scratch) over)

  -- "its picture equal to enhance's on every accepted film"
  pub picture_by : {foot : Footer} → e.answer ≡ accepted foot → ((i j : ℕ) → i < e.width → j < e.height → enhanced_grey e i j ≡ shown_grey e.width e.height e.pixels e.settings i j) → d.target' ≡ e.pixels'
  unfolding shown_film
  picture_by {foot} done shows =
      ap (λ (y : PaintOut). y.target) left
      ∙ same_target e.width e.height e.pixels e.settings d.target e.map d.scratch e.scratch size same.scratch (λ q. omega (arith, none)) none
      ∙ joined_cong e.height (λ y l. tab_cong e.width (λ x k. sym (shows x y k l)))
      ∙ rows_whole e.width e.height e.pixels' long
    where
      none : rows_of e ≡ 0
      none = (says_accepted (rows_of e) _ (sym (ended_row e over) ∙ done)).0

      long : length e.pixels' ≡ e.width * e.height
      long =
          ap (λ (y : EnhanceOut). length y.picture) over
          ∙ picture_length e.width e.height e.pixels e.settings e.map e.scratch (sym (ap (λ (y : EnhanceOut). y.answer) over) ∙ done)
