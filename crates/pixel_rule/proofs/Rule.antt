-- Laws of the rule's grey: what callers use, so that nobody opens `tile_value`, `grey_from`, `rule_grey` or `shown_grey`.
-- Assumes nothing.
use Prim.Native.Nat.{ℕ, ◌+◌, ◌*◌, ◌<◌}
use mathlib.Core.Bool.{Bool, true, false, cond}
use mathlib.Core.List.{List}
use mathlib.Core.Path.{◌≡◌, refl, sym, ap, ◌∙◌}
use lib.ListN.{get_or}
use Rattle.base_range.specs.Scan.{within}
use Rattle.tile_bin.specs.Binning.{bin_of}
use Rattle.tile_count.specs.declared.Rect.{Rect}
use Rattle.tile_count.specs.Tally.{greys_of}
use Rattle.tile_map.specs.Tile.{mapped_of, tile_counts, tile_divides}
use Rattle.film_settings.specs.declared.Settings.{Settings}
use Rattle.film_settings.specs.Settings.{bins_of, kept_of, clip_one_of}
use Rattle.film_settings.proofs.Like.{bins_kept}
use Rattle.pixel_place.specs.declared.Place.{Place}
use Rattle.pixel_place.specs.Blend.{grey_of}
use Rattle.pixel_render.specs.Render.{column_place, row_place, rendered_of, Mapped}
use Rattle.pixel_render.proofs.Laws.{rendered_by}
use Rattle.pixel_render.proofs.Pixels.{tile_index}
use Rattle.film_tiles.specs.Tiles.{tile_of}
use Rattle.pixel_rule.specs.Rule.{tile_value, grey_from, rule_grey, shown_grey}

-- ---- what the rule says

-- a map buffer that holds each tile's own mapping
pub record HoldsOwn (w h : ℕ) (pic : List ℕ) (s : Settings) (m : List ℕ) : Type 0 where
  pub mapped : Mapped w h s m
  pub own : (k b : ℕ) → k < s.across * s.down → b < bins_of s
      → get_or m (k * bins_of s + b) 0
      ≡ mapped_of s.min s.max (tile_divides s.min s.max (bins_of s) s.edition s.clip (greys_of pic w (tile_of w h s k)))
      (tile_counts s.min s.max (bins_of s) s.edition s.clip (greys_of pic w (tile_of w h s k)))
      b

-- a pixel that is rendered from it has the rule's grey
pub rendered_rule : {w h : ℕ} {pic : List ℕ} {s : Settings} {m : List ℕ} → HoldsOwn w h pic s m → (x y : ℕ) → x < w → y < h → within s.min s.max (get_or pic (y * w + x) 0) ≡ true
    → rendered_of w h s m x y (get_or pic (y * w + x) 0) ≡ rule_grey w h pic s x y
unfolding rule_grey grey_from tile_value
rendered_rule {w} {h} {pic} {s} {m} holds x y l k g =
    rendered_by holds.mapped (λ j i. tile_value w pic s (tile_of w h s (j * s.across + i)) (get_or pic (y * w + x) 0)) (get_or pic (y * w + x) 0) l k g
    (λ j i p q bin. holds.own (j * s.across + i) _ (tile_index {across = s.across} {down = s.down} p q) bin)

-- it comes from the tiles' rectangles and the two places
pub rule_from : (w h : ℕ) (pic : List ℕ) (s : Settings) (x y : ℕ)
    → rule_grey w h pic s x y ≡ grey_from w pic s (tile_of w h s) (column_place w s x) (row_place h s y) (get_or pic (y * w + x) 0)
unfolding rule_grey
rule_from w h pic s x y = refl

-- and goes by these alone
pub grey_from_lem : (w : ℕ) (pic : List ℕ) (s : Settings) (v : ℕ) {tile before : ℕ → Rect} {column column' row row' : Place} → ((k : ℕ) → tile k ≡ before k) → column ≡ column' → row ≡ row'
    → grey_from w pic s tile column row v ≡ grey_from w pic s before column' row' v
unfolding grey_from
grey_from_lem w pic s v same c r = rw (c, r) (simp same)

-- ---- the tiles of a pixel

-- the mapped value of a grey by a tile is that of its bin
pub value_at : (w : ℕ) (pic : List ℕ) (s : Settings) (r : Rect) (v : ℕ) {k : ℕ} → k ≡ bin_of s.min s.max (bins_of s) v
    → mapped_of s.min s.max
    (tile_divides s.min s.max (bins_of s) s.edition s.clip (greys_of pic w r))
    (tile_counts s.min s.max (bins_of s) s.edition s.clip (greys_of pic w r))
    k
    ≡ tile_value w pic s r v
unfolding tile_value
value_at w pic s r v e = rw e refl

-- a pixel's grey is that of the values of four tiles, the corners of its two places
pub rule_corners : (w h : ℕ) (pic : List ℕ) (s : Settings) (x y : ℕ) {column row : Place} {a b c d : ℕ} → column ≡ column_place w s x → row ≡ row_place h s y
    → a ≡ tile_value w pic s (tile_of w h s (row.lower * s.across + column.lower)) (get_or pic (y * w + x) 0)
    → b ≡ tile_value w pic s (tile_of w h s (row.lower * s.across + column.upper)) (get_or pic (y * w + x) 0)
    → c ≡ tile_value w pic s (tile_of w h s (row.upper * s.across + column.lower)) (get_or pic (y * w + x) 0)
    → d ≡ tile_value w pic s (tile_of w h s (row.upper * s.across + column.upper)) (get_or pic (y * w + x) 0)
    → grey_of column row a b c d ≡ rule_grey w h pic s x y
unfolding rule_grey grey_from
rule_corners w h pic s x y p q ea eb ec ed = rw (ea, eb, ec, ed, p, q) refl

-- ---- the settings

-- bins 0 and 128 are one setting to the rule
pub rule_kept : (w h : ℕ) (pic : List ℕ) (s : Settings) (x y : ℕ) → rule_grey w h pic (kept_of s) x y ≡ rule_grey w h pic s x y
unfolding rule_grey grey_from tile_value
rule_kept w h pic s x y = rw (bins_kept s) refl

-- and to what is shown
pub shown_kept : (w h : ℕ) (pic : List ℕ) (s : Settings) (x y : ℕ) → shown_grey w h pic (kept_of s) x y ≡ shown_grey w h pic s x y
unfolding shown_grey
shown_kept w h pic s x y = ap (λ v. cond (clip_one_of s.clip) (get_or pic (y * w + x) 0) v) (rule_kept w h pic s x y)

-- so settings that are kept as the same show the same
pub shown_like : (w h : ℕ) (pic : List ℕ) (s s' : Settings) (x y : ℕ) → kept_of s ≡ kept_of s' → shown_grey w h pic s x y ≡ shown_grey w h pic s' x y
shown_like w h pic s s' x y like = sym (shown_kept w h pic s x y) ∙ ap (λ z. shown_grey w h pic z x y) like ∙ shown_kept w h pic s' x y

-- ---- what is shown

-- at the factor 1.0 the film's own grey is shown
pub shown_one : (w h : ℕ) (pic : List ℕ) (s : Settings) (x y : ℕ) → clip_one_of s.clip ≡ true → shown_grey w h pic s x y ≡ get_or pic (y * w + x) 0
unfolding shown_grey
shown_one w h pic s x y one = rw one refl

-- else the rule's
pub shown_rule : (w h : ℕ) (pic : List ℕ) (s : Settings) (x y : ℕ) → clip_one_of s.clip ≡ false → shown_grey w h pic s x y ≡ rule_grey w h pic s x y
unfolding shown_grey
shown_rule w h pic s x y one = rw one refl

-- a grey that is the film's own at the factor 1.0, and else the rule's, is the one that is shown
pub shown_by : (w h : ℕ) (pic : List ℕ) (s : Settings) (x y : ℕ) {g : ℕ} → (clip_one_of s.clip ≡ true → g ≡ get_or pic (y * w + x) 0) → (clip_one_of s.clip ≡ false → g ≡ rule_grey w h pic s x y)
    → g ≡ shown_grey w h pic s x y
shown_by w h pic s x y {g} own ruled = go (clip_one_of s.clip) refl
  where
    go : (o : Bool) → clip_one_of s.clip ≡ o → g ≡ shown_grey w h pic s x y
    go true one = own one ∙ sym (shown_one w h pic s x y one)
    go false one = ruled one ∙ sym (shown_rule w h pic s x y one)
