-- Document 02, order 10, how far a scratch reaches: the grey of a pixel is the same in two films that are alike for it.
-- Assumes nothing.
use Prim.Native.Nat.{ℕ, zero, suc, ◌+◌, ◌*◌, ◌/◌, ◌≤◌, ◌<◌}
use native.Mathlib.Nat.{zero-mul, mul_assoc, mul-add, le_refl}
use native.Mathlib.Omega.{arith}
use mathlib.Core.Bool.{Bool, true, false, cond}
use mathlib.Core.List.{List, [], ◌∷◌}
use mathlib.Core.Path.{◌≡◌, refl, sym, ap, ap₂, ◌∙◌}
use lib.Dec.{ltb}
use lib.ListN.{length, get_or}
use borrow.Author.Tests.{ltb-true, ltb-false}
use Rattle.tile_count.specs.declared.Rect.{Rect}
use Rattle.tile_count.proofs.Greys.{greys_only}
use Rattle.film_settings.specs.declared.Settings.{Settings}
use Rattle.film_settings.specs.Settings.{clip_one_of}
use Rattle.pixel_place.specs.declared.Place.{Place}
use Rattle.pixel_place.specs.Blend.{grey_of, pair_of}
use Rattle.pixel_place.proofs.Laws.{weighed_sides, sides_grey}
use Rattle.pixel_place.proofs.Moves.{sides_are}
use Rattle.pixel_render.specs.Render.{column_place, row_place}
use Rattle.film_tiles.specs.Tiles.{tile_of}
use Rattle.pixel_rule.specs.Rule.{tile_value, grey_from, rule_grey, shown_grey}
use Rattle.pixel_rule.specs.Reach.{AgreeOn, Weighed, corner_tiles, in_use, used_tiles, AgreeTiles, AgreeAt}

-- ---- the tiles that are used

-- the films agree on each tile that has a weight
abbrev pub AgreeWeighed : ℕ → ℕ → Settings → List ℕ → List ℕ → List Weighed → Type 0
AgreeWeighed w h s pic pic' [] = Unit {0}
AgreeWeighed w h s pic pic' (t ∷ ts) = (0 < t.weight → AgreeOn w pic pic' (tile_of w h s t.tile)) × AgreeWeighed w h s pic pic' ts

module _ (w h : ℕ) (s : Settings) (pic pic' : List ℕ) where
  -- which they do where they agree on those in use
  use_weighed : (ts : List Weighed) → AgreeTiles w h s pic pic' (in_use ts) → AgreeWeighed w h s pic pic' ts
  unfolding in_use
  use_weighed [] agree = tt
  use_weighed (t ∷ ts) agree = go (use_weighed ts) (ltb 0 t.weight) refl agree
    where
      go : (AgreeTiles w h s pic pic' (in_use ts) → AgreeWeighed w h s pic pic' ts) → (b : Bool) → ltb 0 t.weight ≡ b
          → AgreeTiles w h s pic pic' (cond b (t ∷ in_use ts) (in_use ts)) → AgreeWeighed w h s pic pic' (t ∷ ts)
      go ih true e both = (λ _. both.0, ih both.1)
      go ih false e rest = (λ some. absurd (omega (arith, some, ltb-false 0 t.weight e)), ih rest)

  -- and only there
  weighed_use : (ts : List Weighed) → AgreeWeighed w h s pic pic' ts → AgreeTiles w h s pic pic' (in_use ts)
  unfolding in_use
  weighed_use [] agree = tt
  weighed_use (t ∷ ts) agree = go (weighed_use ts agree.1) (ltb 0 t.weight) refl
    where
      go : AgreeTiles w h s pic pic' (in_use ts) → (b : Bool) → ltb 0 t.weight ≡ b → AgreeTiles w h s pic pic' (cond b (t ∷ in_use ts) (in_use ts))
      go ih true e = (agree.0 (ltb-true 0 t.weight e), ih)
      go ih false e = ih

  -- of the four tiles of a pixel
  pub used_agree : (x y : ℕ) → AgreeWeighed w h s pic pic' (corner_tiles w h s x y) → AgreeTiles w h s pic pic' (used_tiles w h s x y)
  unfolding used_tiles
  used_agree x y agree = weighed_use (corner_tiles w h s x y) agree

  corners_agree : (x y : ℕ) → AgreeTiles w h s pic pic' (used_tiles w h s x y) → AgreeWeighed w h s pic pic' (corner_tiles w h s x y)
  unfolding used_tiles
  corners_agree x y agree = use_weighed (corner_tiles w h s x y) agree

-- of a list of tiles no more are in use than there are
use_most : (ts : List Weighed) → length (in_use ts) ≤ length ts
unfolding in_use
use_most [] = le_refl 0
use_most (t ∷ ts) = go (use_most ts) (ltb 0 t.weight)
  where
    go : length (in_use ts) ≤ length ts → (b : Bool) → length (cond b (t ∷ in_use ts) (in_use ts)) ≤ suc (length ts)
    go ih true = omega (arith, ih)
    go ih false = omega (arith, ih)

-- "the tiles that this pixel's rule uses, at most four"
pub used_most : (w h : ℕ) (s : Settings) (x y : ℕ) → length (used_tiles w h s x y) ≤ 4
unfolding used_tiles corner_tiles
used_most w h s x y = use_most _

-- ---- the rule

-- a tile's value speaks of that tile's pixels alone
value_local : (w : ℕ) (pic pic' : List ℕ) (s : Settings) (r : Rect) (v : ℕ) → AgreeOn w pic pic' r → tile_value w pic s r v ≡ tile_value w pic' s r v
unfolding tile_value
value_local w pic pic' s r v same =
    rw (greys_only pic pic' w r (λ y x l m. same (r.left + x) (r.top + y) record { left = omega arith; right = omega arith; top = omega arith; bottom = omega arith })) refl

-- a weighted value speaks of the tile's pixels, and of none where the weight is 0
weighed_local : (w : ℕ) (pic pic' : List ℕ) (s : Settings) (r : Rect) (v n : ℕ) → (0 < n → AgreeOn w pic pic' r)
    → n * tile_value w pic s r v ≡ n * tile_value w pic' s r v
weighed_local w pic pic' s r v zero same = zero-mul _ ∙ sym (zero-mul _)
weighed_local w pic pic' s r v (suc n) same = ap (λ z. suc n * z) (value_local w pic pic' s r v (same (omega arith)))

-- the grey by the four weights
spread : (column row : Place) (a b c d : ℕ)
    → grey_of column row a b c d
    ≡ (row.lowerweight * column.lowerweight * a + row.lowerweight * column.upperweight * b + (row.upperweight * column.lowerweight * c + row.upperweight * column.upperweight * d))
    / (column.span * row.span)
spread column row a b c d =
    sym (sides_grey column row a b c d)
    ∙ sym (sides_are column row (pair_of row a c) (pair_of row b d) (sym (weighed_sides column row a b c d)) refl)
    ∙ ap (λ n. n / (column.span * row.span))
    (rw (mul-add row.lowerweight (column.lowerweight * a) (column.upperweight * b), mul-add row.upperweight (column.lowerweight * c) (column.upperweight * d), mul_assoc, mul_assoc, mul_assoc, mul_assoc) refl)

-- the rule's grey speaks of the pixel's own grey and of at most four tiles
pub rule_local : (w h : ℕ) (pic pic' : List ℕ) (s : Settings) (x y : ℕ) → AgreeAt w h s pic pic' x y → rule_grey w h pic s x y ≡ rule_grey w h pic' s x y
unfolding rule_grey grey_from corner_tiles
rule_local w h pic pic' s x y alike =
    ap (λ v. grey_of column row (old v row.lower column.lower) (old v row.lower column.upper) (old v row.upper column.lower) (old v row.upper column.upper)) alike.grey
    ∙ spread column row _ _ _ _
    ∙ ap₂ (λ m n. (m + n) / (column.span * row.span))
    (ap₂ (λ m n. m + n) (each row.lower column.lower (row.lowerweight * column.lowerweight) agree.0)
    (each row.lower column.upper (row.lowerweight * column.upperweight) agree.1.0))
    (ap₂ (λ m n. m + n) (each row.upper column.lower (row.upperweight * column.lowerweight) agree.1.1.0)
    (each row.upper column.upper (row.upperweight * column.upperweight) agree.1.1.1.0))
    ∙ sym (spread column row _ _ _ _)
  where
    column : Place
    column = column_place w s x

    row : Place
    row = row_place h s y

    v : ℕ
    v = get_or pic' (y * w + x) 0

    agree : AgreeWeighed w h s pic pic' (corner_tiles w h s x y)
    agree = corners_agree w h s pic pic' x y alike.tiles

    old : ℕ → ℕ → ℕ → ℕ
    old v j i = tile_value w pic s (tile_of w h s (j * s.across + i)) v

    each : (j i n : ℕ) → (0 < n → AgreeOn w pic pic' (tile_of w h s (j * s.across + i)))
        → n * old v j i ≡ n * tile_value w pic' s (tile_of w h s (j * s.across + i)) v
    each j i n same = weighed_local w pic pic' s (tile_of w h s (j * s.across + i)) v n same

-- and so does what is shown, at the factor 1.0 too, where no tile is used
pub shown_local : (w h : ℕ) (pic pic' : List ℕ) (s : Settings) (x y : ℕ) → AgreeAt w h s pic pic' x y → shown_grey w h pic s x y ≡ shown_grey w h pic' s x y
unfolding shown_grey
shown_local w h pic pic' s x y alike = ap₂ (λ a b. cond (clip_one_of s.clip) a b) alike.grey (rule_local w h pic pic' s x y alike)
