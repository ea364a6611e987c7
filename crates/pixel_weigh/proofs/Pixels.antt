-- Laws of single pixels: where a mapped value lies in the map buffer, and what the grey of a pixel of a bin is held to.
-- Assumes nothing.
use Prim.Native.Nat.{ℕ, ◌+◌, ◌*◌, ◌≤◌, ◌<◌}
use mathlib.Core.Bool.{true}
use mathlib.Core.List.{List}
use mathlib.Core.Path.{◌≡◌, refl, sym, ap, ap₂, ◌∙◌}
use lib.Arith.{digits_lt}
use lib.ListN.{get_or, take}
use lib.Seq.{get_or-take, length-take-le}
use native.Mathlib.Nat.{mul_comm, mul-le-mul}
use native.Mathlib.Omega.{arith}
use Rattle.base_lists.proofs.Alls.{all_at}
use Rattle.base_lists.proofs.Windows.{get_d_front}
use Rattle.base_range.specs.Scan.{within}
use Rattle.base_range.proofs.Spans.{within_low, within_high, within_both}
use Rattle.pixel_place.specs.declared.Place.{Place}
use Rattle.pixel_place.specs.Blend.{grey_of, Sound}
use Rattle.pixel_place.proofs.Laws.{grey_least, grey_most}
use Rattle.film_settings.specs.declared.Settings.{Settings}
use Rattle.film_settings.specs.Settings.{bins_of, entries_of}
use Rattle.film_settings.proofs.Ready.{entries_small}
use Rattle.pixel_weigh.specs.Weigh.{mapped_at, corners_of, Maps, CornerAsks}

-- ---- where mapped values lie

-- the number of a tile, tiles row by row
pub tile_index : {across down j i : ℕ} → j < down → i < across → j * across + i < across * down
tile_index {across} {down} {j} {i} h l = rw (mul_comm across down) (digits_lt h l)

-- the entry of a bin of a tile
pub entry_index : {across down b j i k : ℕ} → j < down → i < across → k < b → (j * across + i) * b + k < across * down * b
entry_index {across} {down} h l q = digits_lt (tile_index {across = across} {down = down} h l) q

-- there are few tiles
pub tile_small : {across down j i : ℕ} → j < down → i < across → across ≤ 16 → down ≤ 16 → j * across + i < 256
tile_small {across} {down} h l p q = omega (arith, tile_index {across = across} {down = down} h l, mul-le-mul p q)

-- ---- mapped values

module _ {s : Settings} {m : List ℕ} (maps : Maps s m) where
  -- there are few entries
  pub entries_few : entries_of s ≤ 1048576
  entries_few = entries_small s.across s.down (bins_of s) maps.across maps.down maps.scale.few

  -- each of them lies in Min to Max
  pub entry_within : {n : ℕ} → n < entries_of s → within s.min s.max (get_or m n 0) ≡ true
  entry_within {n} l =
      ap (within s.min s.max) (sym (get_or-take (entries_of s) m n 0 l))
      ∙ all_at (within s.min s.max) (take (entries_of s) m) maps.greys n 0 (rw (length-take-le (entries_of s) m maps.room) l)

  -- and is at most 4095
  pub entry_most : {n : ℕ} → n < entries_of s → get_or m n 0 ≤ 4095
  entry_most l = omega (arith, within_high _ _ _ (entry_within l), maps.scale.most)

  module _ {j i k : ℕ} (h : j < s.down) (l : i < s.across) (q : k < bins_of s) where
    -- so does a mapped value
    mapped_within : within s.min s.max (mapped_at s m j i k) ≡ true
    unfolding mapped_at
    mapped_within = entry_within (entry_index {across = s.across} {down = s.down} h l q)

    -- it is not below Min
    pub mapped_low : s.min ≤ mapped_at s m j i k
    mapped_low = within_low _ _ _ mapped_within

    -- and not above Max
    pub mapped_high : mapped_at s m j i k ≤ s.max
    mapped_high = within_high _ _ _ mapped_within

-- ---- pixels

-- a pixel of a bin lies in Min to Max
pub corners_within : {s : Settings} {m : List ℕ} {column row : Place} {k : ℕ} → CornerAsks s m column row k → within s.min s.max (corners_of s m column row k) ≡ true
unfolding corners_of
corners_within {s} {m} {column} {row} {k} asks =
    within_both _ _ _
    (grey_least asks.column asks.row (low r c) (low r c') (low r' c) (low r' c'))
    (grey_most asks.column asks.row (high r c) (high r c') (high r' c) (high r' c'))
  where
    low : {j i : ℕ} → j < s.down → i < s.across → s.min ≤ mapped_at s m j i k
    low h l = mapped_low asks.maps h l asks.bin

    high : {j i : ℕ} → j < s.down → i < s.across → mapped_at s m j i k ≤ s.max
    high h l = mapped_high asks.maps h l asks.bin

    r : row.lower < s.down
    r = asks.row.lower

    r' : row.upper < s.down
    r' = asks.row.upper

    c : column.lower < s.across
    c = asks.column.lower

    c' : column.upper < s.across
    c' = asks.column.upper

-- the pixel from its four mapped values
pub corners_are : (s : Settings) (m : List ℕ) (column row : Place) (k : ℕ) {a b c d r : ℕ}
    → a ≡ mapped_at s m row.lower column.lower k → b ≡ mapped_at s m row.lower column.upper k
    → c ≡ mapped_at s m row.upper column.lower k → d ≡ mapped_at s m row.upper column.upper k
    → r ≡ grey_of column row a b c d → r ≡ corners_of s m column row k
unfolding corners_of
corners_are s m column row k ha hb hc hd h = h ∙ rw (ha, hb, hc, hd) refl

-- ---- what callers know of pixels

-- a pixel goes by the grid across and the bins of its settings alone
pub corners_fields : (s s' : Settings) (m : List ℕ) (column row : Place) (k : ℕ) → s'.across ≡ s.across → bins_of s' ≡ bins_of s → corners_of s' m column row k ≡ corners_of s m column row k
unfolding corners_of mapped_at
corners_fields s s' m column row k across bins = rw (bins, across) refl

-- and by the mapped values of its four tiles, where `value j i` is that of its bin in tile row j and tile column i
pub corners_by : (s : Settings) (m : List ℕ) {column row : Place} (k : ℕ) (value : ℕ → ℕ → ℕ) → Sound s.across 2048 column → Sound s.down 2048 row
    → ((j i : ℕ) → j < s.down → i < s.across → get_or m ((j * s.across + i) * bins_of s + k) 0 ≡ value j i)
    → corners_of s m column row k ≡ grey_of column row (value row.lower column.lower) (value row.lower column.upper) (value row.upper column.lower) (value row.upper column.upper)
unfolding corners_of mapped_at
corners_by s m k value column row same =
    rw (
      same _ _ row.lower column.lower,
      same _ _ row.lower column.upper,
      same _ _ row.upper column.lower,
      same _ _ row.upper column.upper,
    ) refl

-- ---- only the mappings' entries of the map buffer are read

-- a mapped value is the same in buffers that agree in the mappings' entries
pub mapped_front : (s : Settings) (m m' : List ℕ) → take (entries_of s) m ≡ take (entries_of s) m' → {j i k : ℕ} → j < s.down → i < s.across → k < bins_of s
    → mapped_at s m j i k ≡ mapped_at s m' j i k
unfolding mapped_at
mapped_front s m m' e {j} {i} {k} h l q =
    get_d_front (entries_of s) m m' e ((j * s.across + i) * bins_of s + k) (entry_index {across = s.across} {down = s.down} h l q)

-- and so is a pixel
pub corners_front : {s : Settings} {m : List ℕ} {column row : Place} {k : ℕ} → CornerAsks s m column row k → (m' : List ℕ) → take (entries_of s) m ≡ take (entries_of s) m'
    → corners_of s m column row k ≡ corners_of s m' column row k
unfolding corners_of
corners_front {s} {m} {column} {row} {k} asks m' e =
    let a : mapped_at s m row.lower column.lower k ≡ mapped_at s m' row.lower column.lower k = same asks.row.lower asks.column.lower in
    let b : mapped_at s m row.lower column.upper k ≡ mapped_at s m' row.lower column.upper k = same asks.row.lower asks.column.upper in
    let c : mapped_at s m row.upper column.lower k ≡ mapped_at s m' row.upper column.lower k = same asks.row.upper asks.column.lower in
    let d : mapped_at s m row.upper column.upper k ≡ mapped_at s m' row.upper column.upper k = same asks.row.upper asks.column.upper in
    ap₂ (λ x y. grey_of column row x y (mapped_at s m row.upper column.lower k) (mapped_at s m row.upper column.upper k)) a b
    ∙ ap₂ (grey_of column row (mapped_at s m' row.lower column.lower k) (mapped_at s m' row.lower column.upper k)) c d
  where
    same : {j i : ℕ} → j < s.down → i < s.across → mapped_at s m j i k ≡ mapped_at s m' j i k
    same h l = mapped_front s m m' e h l asks.bin
