-- The turns of `sum_row`, section by section, and that a row from its bins is the row.
-- Assumes nothing.
use Prim.Native.Nat.{ℕ, ◌+◌, ◌-◌, ◌≤◌, ◌<◌}
use mathlib.Core.List.{List}
use mathlib.Core.Path.{◌≡◌, sym, ap, ap₂, ◌∙◌}
use lib.ListN.{length, take, drop, get_or}
use borrow.Rule.Slice.PartMut.{put_mid}
use native.Mathlib.Omega.{arith}
use Rattle.base_lists.specs.Lists.{tab, filled}
use Rattle.base_lists.proofs.Tabs.{tab_cong}
use Rattle.base_lists.proofs.Fills.{filled_end}
use Rattle.base_lists.proofs.Windows.{get_d_part, filled_whole}
use Rattle.pixel_place.specs.declared.Place.{Place}
use Rattle.pixel_place.specs.Blend.{grey_of, moved}
use Rattle.pixel_place.proofs.Laws.{grey_moved}
use Rattle.pixel_place.proofs.Places.{place_sound}
use Rattle.film_settings.specs.declared.Settings.{Settings}
use Rattle.film_settings.specs.Settings.{bins_of}
use Rattle.pixel_sums.specs.Sums.{sums_moved}
use Rattle.pixel_weigh.specs.Weigh.{mapped_at, corners_of, weighed_run, WeighAsks}
use Rattle.pixel_weigh.proofs.Tiles.{weighed_is}
use Rattle.pixel_bins.specs.Bins.{binned_of}
use Rattle.pixel_bins.proofs.Bins.{bins_length, held_is, held_in}
use Rattle.pixel_render.specs.declared.Section.{Section}
use Rattle.pixel_render.specs.Render.{column_place, row_of, weighed_row, RenderRowAsks, Sectioned, SumRowAsks}
use Rattle.pixel_render.proofs.Counts.{Moving, moving_next}
use Rattle.pixel_render.proofs.Pixels.{pixel_corners}
use Rattle.pixel_render.proofs.Sections.{placed, ahead_is, ahead_length, section_next}

-- ---- a row from bins

-- where one tile is used alone its weights may move
corners_alone : (s : Settings) (m : List ℕ) (row column : Place) (j k : ℕ) → column.upper ≡ column.lower → j ≤ column.lowerweight → corners_of s m (moved column j) row k ≡ corners_of s m column row k
unfolding corners_of
corners_alone s m row column j k e l =
    ap₂ (λ b d. grey_of (moved column j) row (at row.lower column.lower) b (at row.upper column.lower) d) (same row.lower) (same row.upper)
    ∙ grey_moved column row j (at row.lower column.lower) (at row.upper column.lower) l
    ∙ sym (ap₂ (λ b d. grey_of column row (at row.lower column.lower) b (at row.upper column.lower) d) (same row.lower) (same row.upper))
  where
    at : ℕ → ℕ → ℕ
    at r c = mapped_at s m r c k

    same : (r : ℕ) → mapped_at s m r column.upper k ≡ mapped_at s m r column.lower k
    same r = ap (λ c. mapped_at s m r c k) e

-- the grey at a place
abbrev pub weigh_by : Settings → List ℕ → Place → Place → ℕ → ℕ
weigh_by s m row p k = corners_of s m p row k

-- the grey of the row's pixel i
abbrev pub weighs : ℕ → Settings → List ℕ → ℕ → Place → List ℕ → ℕ → ℕ
weighs w s m left row ks i = placed (weigh_by s m row) w s.across left ks i

module _ {w : ℕ} {s : Settings} {m : List ℕ} {left : ℕ} {row : Place} {ks : List ℕ} (asks : SumRowAsks w s m left row ks)
    {px : List ℕ} {i : ℕ} (e : px ≡ filled (weighs w s m left row ks) ks i) {part : Section} (cut : Sectioned w s.across left i (length ks) part) where
  part_is : take (part.end - i) (drop i px) ≡ take (part.end - i) (drop i ks)
  part_is = ahead_is (weigh_by s m row) (corners_alone s m row) ks e cut

  part_length : length (take (part.end - i) (drop i px)) ≡ part.end - i
  part_length = ap length part_is ∙ ahead_length (weigh_by s m row) (corners_alone s m row) ks e cut

  part_bin : {j : ℕ} → j < length (take (part.end - i) (drop i px)) → get_or (take (part.end - i) (drop i px)) j 0 < bins_of s
  part_bin {j} l =
      let here : j < part.end - i = omega (arith, part_length) in
      rw (part_is, get_d_part ks (part.end - i) i here) (asks.bins (i + j) (omega (arith, cut.end)))

  -- what a section asks
  pub part_asks : WeighAsks s m part.column row (take (part.end - i) (drop i px))
  part_asks =
      record {
        maps = asks.maps;
        column = rw cut.column (place_sound asks.columns (omega (arith, cut.start, cut.end, asks.across)));
        row = asks.row;
        room = omega (arith, part_length, cut.run.most);
        bins = λ j l. part_bin l;
      }

  -- one section more
  pub part_next : {ys : List ℕ} → ys ≡ weighed_run s m part.column row (take (part.end - i) (drop i px)) → put_mid i (part.end - i) px ys ≡ filled (weighs w s m left row ks) ks part.end
  part_next q = section_next (weigh_by s m row) (corners_alone s m row) ks e cut (q ∙ weighed_is s m part.column row _)

  -- and how many sums move in it
  pub part_moves : {room moves n r : ℕ} → Moving w s left room ks i moves → n ≡ room → r ≡ sums_moved n (take (part.end - i) (drop i px)) → Moving w s left room ks part.end (moves + r)
  part_moves h q z = moving_next w s left _ ks h cut (z ∙ ap₂ sums_moved q part_is)

-- the whole row
pub parts_end : (w : ℕ) (s : Settings) (m : List ℕ) (left : ℕ) (row : Place) (ks : List ℕ) {px : List ℕ} {i : ℕ} → px ≡ filled (weighs w s m left row ks) ks i → i ≤ length ks → length ks ≤ i
    → px ≡ weighed_row w s m left row ks
unfolding weighed_row
parts_end w s m left row ks e l k = filled_end _ _ e l k ∙ filled_whole (weighs w s m left row ks) ks

-- ---- a row from its bins is the row

module _ {w : ℕ} {s : Settings} {m : List ℕ} {left : ℕ} {row : Place} {vs : List ℕ} (asks : RenderRowAsks w s m left row vs) {ks : List ℕ} (hk : ks ≡ binned_of s vs) where
  -- what its bins ask
  pub row_bins : SumRowAsks w s m left row ks
  row_bins =
      record {
        maps = asks.maps;
        columns = asks.columns;
        across = omega (arith, bins_length s vs hk, asks.across);
        row = asks.row;
        bins = λ i l. held_in s vs hk (omega (arith, bins_length s vs hk)) asks.maps.scale asks.greys;
      }

  -- and what they come to
  pub row_summed : {p : Place} {px : List ℕ} → p ≡ row → px ≡ weighed_row w s m left p ks → px ≡ row_of w s m left row vs
  unfolding weighed_row row_of
  row_summed q e =
      e ∙ ap (λ t. weighed_row w s m left t ks) q
      ∙ ap (λ n. tab n (weighs w s m left row ks)) (bins_length s vs hk)
      ∙ tab_cong (length vs) (λ i l. ap (corners_of s m (column_place w s (left + i)) row) (held_is s vs hk l) ∙ sym (pixel_corners s m (column_place w s (left + i)) row (get_or vs i 0)))
