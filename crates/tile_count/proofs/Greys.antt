-- Laws of `greys_of`, the greys of a rectangle of a picture, row by row.
-- Assumes nothing.
use Prim.Native.Nat.{ℕ, zero, suc, ◌+◌, ◌-◌, ◌*◌, ◌≤◌, ◌<◌}
use mathlib.Core.Bool.{Bool, true}
use mathlib.Core.List.{List, map}
use mathlib.Core.Path.{◌≡◌, refl, sym, ap, ap₂, ◌∙◌}
use lib.ListN.{length, take, drop, get_or, length-map}
use Rattle.std.specs.List.{take-map, drop-map}
use native.Mathlib.Nat.{mul_comm, suc-mul, zero-mul, mul-le-mul_right, le-mul_of_pos_right, le_trans}
use native.Mathlib.Omega.{arith}
use Rattle.base_lists.specs.Lists.{tab, joined, all}
use Rattle.base_lists.proofs.Tabs.{length_tab, get_or_tab, tab_cong}
use Rattle.base_lists.proofs.Fills.{length_joined, joined_cong}
use Rattle.base_lists.proofs.Blocks.{get_or_joined}
use Rattle.base_lists.proofs.Tallies.{part_tab}
use Rattle.base_lists.proofs.Alls.{all_at, all_joined, all_joined_at, all_tab}
use Rattle.tile_count.specs.declared.Rect.{Rect}
use Rattle.tile_count.specs.Tally.{greys_of, counts_of, Inside}

-- the greys of row y of the rectangle
unfoldable pub row_of : List ℕ → ℕ → Rect → ℕ → List ℕ
row_of pic stride r y = tab r.width (λ x. get_or pic ((r.top + y) * stride + (r.left + x)) 0)

pub greys_rows : (pic : List ℕ) (stride : ℕ) (r : Rect) → greys_of pic stride r ≡ joined r.height (row_of pic stride r)
unfolding greys_of row_of
greys_rows pic stride r = refl

pub length_row_lem : (pic : List ℕ) (stride : ℕ) (r : Rect) (y : ℕ) → length (row_of pic stride r y) ≡ r.width
unfolding row_of
length_row_lem pic stride r y = length_tab r.width _

-- the rows down to row y have y times the rectangle's width greys
pub length_rows_lem : (pic : List ℕ) (stride : ℕ) (r : Rect) (y : ℕ) → length (joined y (row_of pic stride r)) ≡ y * r.width
length_rows_lem pic stride r y = length_joined r.width y (row_of pic stride r) (λ i l. length_row_lem pic stride r i)

-- all rows are the rectangle
pub rows_whole : (pic : List ℕ) (stride : ℕ) (r : Rect) (y : ℕ) → y ≤ r.height → r.height ≤ y → joined y (row_of pic stride r) ≡ greys_of pic stride r
rows_whole pic stride r y h l =
    let q : y ≡ r.height = omega arith in
    ap (λ k. joined k (row_of pic stride r)) q ∙ sym (greys_rows pic stride r)

-- the rows down to row y, and that row, have no more greys than the rectangle
pub rows_room : (pic : List ℕ) (stride : ℕ) (r : Rect) (y : ℕ) → y < r.height → length (joined y (row_of pic stride r)) + length (row_of pic stride r y) ≤ r.width * r.height
rows_room pic stride r y h =
    let rows : suc y * r.width ≤ r.height * r.width = mul-le-mul_right r.width h in
    omega (arith, length_rows_lem pic stride r y, length_row_lem pic stride r y, suc-mul y r.width, mul_comm r.height r.width)

-- there is a grey for each pixel of the rectangle
pub length_greys : (pic : List ℕ) (stride : ℕ) (r : Rect) → length (greys_of pic stride r) ≡ r.width * r.height
length_greys pic stride r = ap length (greys_rows pic stride r) ∙ length_rows_lem pic stride r r.height ∙ mul_comm r.height r.width

-- the grey in row y and column x of the rectangle is the picture's in row top + y and column left + x
pub get_or_greys : (pic : List ℕ) (stride : ℕ) (r : Rect) {y x : ℕ} → y < r.height → x < r.width
    → get_or (greys_of pic stride r) (y * r.width + x) 0 ≡ get_or pic ((r.top + y) * stride + (r.left + x)) 0
unfolding greys_of
get_or_greys pic stride r {y} {x} l k =
    get_or_joined r.width r.height (λ j. tab r.width (λ i. get_or pic ((r.top + j) * stride + (r.left + i)) 0)) (λ j q. length_tab r.width _) y x 0 l k
    ∙ get_or_tab r.width (λ i. get_or pic ((r.top + y) * stride + (r.left + i)) 0) x 0 k

-- ---- where the pixels of a row lie

-- a row ends inside the picture
pub row_room : {size stride : ℕ} (r : Rect) → r.left + r.width ≤ stride → (r.top + r.height) * stride ≤ size → (y : ℕ) → y < r.height
    → (r.top + y) * stride + (r.left + r.width) ≤ size
row_room {size} {stride} r across down y h =
    let next : suc (r.top + y) * stride ≤ (r.top + r.height) * stride = mul-le-mul_right stride (omega arith) in
    omega (arith, suc-mul (r.top + y) stride, across, down)

-- of a rectangle that is to be counted
pub inside_room : {size stride : ℕ} {r : Rect} → Inside size stride r → (y : ℕ) → y < r.height → (r.top + y) * stride + (r.left + r.width) ≤ size
inside_room {r = r} inside y h = row_room r inside.across inside.down y h

-- a rectangle has a column at least
pub some_width : {size stride : ℕ} {r : Rect} → Inside size stride r → 0 < r.width
some_width {size} {stride} {r} inside = go r.width inside.some
  where
    go : (w : ℕ) → 0 < w * r.height → 0 < w
    go zero h = omega (arith, zero-mul r.height)
    go (suc w) h = omega arith

-- it ends no further down than the picture has pixels
pub bottom_room : {size stride : ℕ} {r : Rect} → Inside size stride r → r.top + r.height ≤ size
bottom_room {size} {stride} {r} inside =
    let wide : 0 < stride = omega (arith, some_width inside, inside.across) in
    le_trans (le-mul_of_pos_right (r.top + r.height) wide) inside.down

-- the row as a part of the picture
pub part_row : (pic : List ℕ) (stride : ℕ) (r : Rect) → r.left + r.width ≤ stride → (r.top + r.height) * stride ≤ length pic → (y : ℕ) → y < r.height
    → take ((r.top + y) * stride + r.left + r.width - ((r.top + y) * stride + r.left)) (drop ((r.top + y) * stride + r.left) pic) ≡ row_of pic stride r y
unfolding row_of
part_row pic stride r across down y h =
    let a : ℕ = (r.top + y) * stride + r.left in
    let w : a + r.width - a ≡ r.width = omega arith in
    ap (λ k. take k (drop a pic)) w
    ∙ part_tab pic a r.width (omega (arith, row_room r across down y h))
    ∙ tab_cong r.width (λ x l. ap (λ i. get_or pic i 0) (omega arith))

-- of a rectangle that is to be counted
pub inside_part : (pic : List ℕ) (stride : ℕ) (r : Rect) → Inside (length pic) stride r → (y : ℕ) → y < r.height
    → take ((r.top + y) * stride + r.left + r.width - ((r.top + y) * stride + r.left)) (drop ((r.top + y) * stride + r.left) pic) ≡ row_of pic stride r y
inside_part pic stride r inside y h = part_row pic stride r inside.across inside.down y h

-- the row by its width alone
pub inside_row : (pic : List ℕ) (stride : ℕ) (r : Rect) → Inside (length pic) stride r → (y : ℕ) → y < r.height
    → take r.width (drop ((r.top + y) * stride + r.left) pic) ≡ row_of pic stride r y
inside_row pic stride r inside y h =
    let a : ℕ = (r.top + y) * stride + r.left in
    let w : r.width ≡ a + r.width - a = omega arith in
    ap (λ k. take k (drop a pic)) w ∙ inside_part pic stride r inside y h

-- ---- of a picture whose greys stand for numbers

module _ {A : Type 0} (f : A → ℕ) (pic : List A) (stride : ℕ) (r : Rect) (inside : Inside (length (map f pic)) stride r) where
  pub inside_mapped : Inside (length pic) stride r
  inside_mapped = rw (sym (length-map pic f)) inside

  pub row_mapped : (y : ℕ) → y < r.height → {row : List A} → row ≡ take r.width (drop ((r.top + y) * stride + r.left) pic) → map f row ≡ row_of (map f pic) stride r y
  row_mapped y h e =
      let a : ℕ = (r.top + y) * stride + r.left in
      ap (map f) e ∙ sym (take-map f r.width (drop a pic)) ∙ ap (take r.width) (sym (drop-map f a pic)) ∙ inside_row (map f pic) stride r inside y h

-- ---- what the greys speak of

-- the index of a pixel of the rectangle is inside the picture
pub pixel_room : {size stride : ℕ} (r : Rect) → r.left + r.width ≤ stride → (r.top + r.height) * stride ≤ size → (y x : ℕ) → y < r.height → x < r.width
    → (r.top + y) * stride + (r.left + x) < size
pixel_room r across down y x h l = omega (arith, row_room r across down y h)

-- what holds of each pixel of the picture holds of each grey of the rectangle
pub greys_all : (p : ℕ → Bool) (pic : List ℕ) (stride : ℕ) (r : Rect) → r.left + r.width ≤ stride → (r.top + r.height) * stride ≤ length pic → all p pic ≡ true
    → all p (greys_of pic stride r) ≡ true
unfolding greys_of
greys_all p pic stride r across down h =
    all_joined p r.height _ (λ y l. all_tab p r.width _ (λ x m. all_at p pic h _ 0 (pixel_room r across down y x l m)))

-- what holds of each grey of the rectangle holds of each grey of a row
pub row_all : (p : ℕ → Bool) (pic : List ℕ) (stride : ℕ) (r : Rect) → all p (greys_of pic stride r) ≡ true → (y : ℕ) → y < r.height → all p (row_of pic stride r y) ≡ true
row_all p pic stride r h y l = all_joined_at p r.height (row_of pic stride r) (ap (all p) (sym (greys_rows pic stride r)) ∙ h) y l

-- rectangles of one size, of two pictures, with the same grey at each pixel, have the same greys
pub greys_same : (pic pic' : List ℕ) (stride stride' : ℕ) (r r' : Rect) → r.width ≡ r'.width → r.height ≡ r'.height
    → ((y x : ℕ) → y < r.height → x < r.width → get_or pic ((r.top + y) * stride + (r.left + x)) 0 ≡ get_or pic' ((r'.top + y) * stride' + (r'.left + x)) 0)
    → greys_of pic stride r ≡ greys_of pic' stride' r'
unfolding greys_of
greys_same pic pic' stride stride' r r' wide high same =
    joined_cong r.height (λ y q. tab_cong r.width (λ x p. same y x q p))
    ∙ ap₂ (λ n m. joined n (λ y. tab m (λ x. get_or pic' ((r'.top + y) * stride' + (r'.left + x)) 0))) high wide

-- the greys speak only of the rectangle's pixels: two pictures that agree there have the same
pub greys_only : (pic pic' : List ℕ) (stride : ℕ) (r : Rect)
    → ((y x : ℕ) → y < r.height → x < r.width → get_or pic ((r.top + y) * stride + (r.left + x)) 0 ≡ get_or pic' ((r.top + y) * stride + (r.left + x)) 0)
    → greys_of pic stride r ≡ greys_of pic' stride r
unfolding greys_of
greys_only pic pic' stride r h = joined_cong r.height (λ y l. tab_cong r.width (λ x m. h y x l m))

-- and so do the counts
pub counts_only : (lo hi b : ℕ) (pic pic' : List ℕ) (stride : ℕ) (r : Rect)
    → ((y x : ℕ) → y < r.height → x < r.width → get_or pic ((r.top + y) * stride + (r.left + x)) 0 ≡ get_or pic' ((r.top + y) * stride + (r.left + x)) 0)
    → counts_of lo hi b (greys_of pic stride r) ≡ counts_of lo hi b (greys_of pic' stride r)
counts_only lo hi b pic pic' stride r h = ap (counts_of lo hi b) (greys_only pic pic' stride r h)
