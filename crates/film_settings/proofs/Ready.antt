-- The rows 1 to 9, 31, 10 and 11: their numbers, and what they tell where none of them applies.
-- Assumes nothing.
use Prim.Native.Nat.{ℕ, ◌+◌, ◌-◌, ◌*◌, ◌≤◌, ◌<◌}
use mathlib.Core.Bool.{Bool, true, false, cond}
use mathlib.Core.List.{[], ◌∷◌, ◌++◌}
use mathlib.Core.Path.{◌≡◌, refl, sym}
use native.Mathlib.Omega.{arith}
use native.Mathlib.Nat.{mul-le-mul}
use lib.Dec.{eqb, ltb}
use borrow.Author.Tests.{lt-ltb, le-ltb, ltb-false, leb-false, eqb-false, eqb-true, not-false}
use Rattle.base_lists.specs.Lists.{all}
use Rattle.base_lists.proofs.Orders.{pos}
use Rattle.base_rows.specs.Refuse.{first, numbers_of, Numbered}
use Rattle.base_rows.proofs.Walk.{first_none, first_both, behind}
use Rattle.film_settings.specs.declared.Settings.{Settings}
use Rattle.film_settings.specs.Settings.{bins_of, entries_of, clip_bad_of, side_rows, length_rows, size_rows, grid_rows, range_rows, clip_rows, grey_rows, room_rows, setting_rows, shared_rows, Tiled, Ready}

-- ---- the numbers, in the order of document 01

pub side_numbers : (w h : ℕ) → numbers_of (side_rows w h) ≡ 1 ∷ 1 ∷ 1 ∷ 1 ∷ []
unfolding numbers_of side_rows
side_numbers w h = refl

pub grid_numbers : (w h : ℕ) (s : Settings) → numbers_of (grid_rows w h s) ≡ 3 ∷ 3 ∷ 4 ∷ 4 ∷ 5 ∷ 6 ∷ []
unfolding numbers_of grid_rows
grid_numbers w h s = refl

pub range_numbers : (s : Settings) → numbers_of (range_rows s) ≡ 7 ∷ 8 ∷ 9 ∷ 9 ∷ 31 ∷ []
unfolding numbers_of range_rows
range_numbers s = refl

-- of 1 to 9, 31 and 10
pub setting_numbers : (w h size : ℕ) (s : Settings)
    → numbers_of (setting_rows w h size s) ≡ 1 ∷ 1 ∷ 1 ∷ 1 ∷ 2 ∷ 3 ∷ 3 ∷ 4 ∷ 4 ∷ 5 ∷ 6 ∷ 7 ∷ 8 ∷ 9 ∷ 9 ∷ 31 ∷ 10 ∷ []
unfolding numbers_of setting_rows size_rows side_rows length_rows grid_rows grey_rows range_rows clip_rows
setting_numbers w h size s = refl

-- of 11
pub room_numbers : (s : Settings) (room : ℕ) → numbers_of (room_rows s room) ≡ 11 ∷ []
unfolding numbers_of room_rows
room_numbers s room = refl

-- of 1 to 9, 31, 10 and 11
pub shared_numbers : (w h size : ℕ) (s : Settings) (room : ℕ)
    → numbers_of (shared_rows w h size s room) ≡ 1 ∷ 1 ∷ 1 ∷ 1 ∷ 2 ∷ 3 ∷ 3 ∷ 4 ∷ 4 ∷ 5 ∷ 6 ∷ 7 ∷ 8 ∷ 9 ∷ 9 ∷ 31 ∷ 10 ∷ 11 ∷ []
unfolding numbers_of shared_rows setting_rows size_rows side_rows length_rows grid_rows grey_rows range_rows clip_rows room_rows
shared_numbers w h size s room = refl

-- all are above 0

pub side_numbered : (w h : ℕ) → Numbered (side_rows w h)
unfolding all
side_numbered w h = rw (side_numbers w h) refl

pub size_numbered : (w h size : ℕ) → Numbered (size_rows w h size)
unfolding all numbers_of size_rows side_rows length_rows
size_numbered w h size = refl

pub grid_numbered : (w h : ℕ) (s : Settings) → Numbered (grid_rows w h s)
unfolding all
grid_numbered w h s = rw (grid_numbers w h s) refl

pub range_numbered : (s : Settings) → Numbered (range_rows s)
unfolding all
range_numbered s = rw (range_numbers s) refl

pub setting_numbered : (w h size : ℕ) (s : Settings) → Numbered (setting_rows w h size s)
unfolding all
setting_numbered w h size s = rw (setting_numbers w h size s) refl

pub shared_numbered : (w h size : ℕ) (s : Settings) (room : ℕ) → Numbered (shared_rows w h size s room)
unfolding all
shared_numbered w h size s room = rw (shared_numbers w h size s room) refl

-- ---- what each part tells where none of its rows applies

-- bins that are 0 or 2 to 4096 are 2 to 4096 once 0 is read as 128
bins_low : (n : ℕ) → eqb n 1 ≡ false → 2 ≤ cond (eqb n 0) 128 n
bins_low n e = go (eqb n 0) refl
  where
    go : (b : Bool) → eqb n 0 ≡ b → 2 ≤ cond b 128 n
    go true q = omega arith
    go false q = let h : 0 < n = pos n q in let k : n ≡ 1 → ⊥ = eqb-false n 1 e in omega arith

bins_high : (n : ℕ) → n ≤ 4096 → cond (eqb n 0) 128 n ≤ 4096
bins_high n h = go (eqb n 0)
  where
    go : (b : Bool) → cond b 128 n ≤ 4096
    go true = omega arith
    go false = h

-- sides of 1 to 4096
pub sides_within : (w h : ℕ) → first (side_rows w h) ≡ 0 → (0 < w) × (w ≤ 4096) × (0 < h) × (h ≤ 4096)
unfolding side_rows
sides_within w h e =
    let n = first_none _ (side_numbered w h) e in (pos w n.0, ltb-false _ _ n.1.0, pos h n.1.1.0, ltb-false _ _ n.1.1.1.0)

pub sides_some : (w h : ℕ) → first (side_rows w h) ≡ 0 → (0 < w) × (0 < h)
sides_some w h e = let n = sides_within w h e in (n.0, n.2)

pub sides_most : (w h : ℕ) → first (side_rows w h) ≡ 0 → (w ≤ 4096) × (h ≤ 4096)
sides_most w h e = let n = sides_within w h e in (n.1, n.3)

-- a range within 0 to 4095, and 2 to 4096 bins, no more than its greys
pub ranged : (s : Settings) → first (range_rows s) ≡ 0 → (s.max ≤ 4095) × (s.min < s.max) × (2 ≤ bins_of s) × (bins_of s ≤ 4096) × (bins_of s ≤ s.max - s.min + 1)
unfolding range_rows bins_of
ranged s e =
    let v = first_none _ (range_numbered s) e in (
      ltb-false _ _ v.0,
      leb-false _ _ v.1.0,
      bins_low s.bins v.1.1.0,
      bins_high s.bins (ltb-false _ _ v.1.1.1.0),
      ltb-false _ _ v.1.1.1.1.0,
    )

-- what counting asks of sides, grid, range and bins
pub tiled : (w h : ℕ) (s : Settings) → first (side_rows w h) ≡ 0 → first (grid_rows w h s) ≡ 0 → first (range_rows s) ≡ 0 → Tiled w h s
unfolding grid_rows
tiled w h s sides grid range =
    let n = sides_within w h sides in
    let g = first_none _ (grid_numbered w h s) grid in
    let v = ranged s range in
    record {
      wide = n.0;
      widest = n.1;
      high = n.2;
      highest = n.3;
      across = ltb-false _ _ g.0;
      acrossmost = ltb-false _ _ g.1.0;
      down = ltb-false _ _ g.1.1.0;
      downmost = ltb-false _ _ g.1.1.1.0;
      columns = ltb-false _ _ g.1.1.1.1.0;
      rows = ltb-false _ _ g.1.1.1.1.1.0;
      max = v.0;
      min = v.1;
      bins = v.2;
      binsmost = v.3;
      reach = v.4;
    }

-- 2: the pixels are the film's
pub whole_length : (w h size : ℕ) → first (length_rows w h size) ≡ 0 → size ≡ w * h
unfolding all numbers_of length_rows
whole_length w h size e = eqb-true _ _ (not-false _ (first_none _ refl e).0)

-- 10: the factor is not refused
pub clip_fair : (s : Settings) → first (clip_rows s) ≡ 0 → clip_bad_of s.clip ≡ false
unfolding all numbers_of clip_rows
clip_fair s e = (first_none _ refl e).0

-- 11: the mappings fit
pub room_fits : (s : Settings) (room : ℕ) → first (room_rows s room) ≡ 0 → entries_of s ≤ room
unfolding all numbers_of room_rows
room_fits s room e = ltb-false _ _ (first_none _ refl e).0

-- and where they fit, 11 does not apply
pub fits_room : (s : Settings) (room : ℕ) → entries_of s ≤ room → first (room_rows s room) ≡ 0
unfolding first room_rows
fits_room s room l = rw (le-ltb room (entries_of s) l) refl

-- and where they do not, it does
pub short_room : (s : Settings) (room : ℕ) → room < entries_of s → first (room_rows s room) ≡ 11
unfolding first room_rows
short_room s room l = rw (lt-ltb room (entries_of s) l) refl

-- none of the rows 1 to 9, 31 and 10 applies: what stands before 11
pub setting_tiled : (w h size : ℕ) (s : Settings) → first (setting_rows w h size s) ≡ 0 → Tiled w h s × (size ≡ w * h) × (clip_bad_of s.clip ≡ false)
unfolding setting_rows size_rows grey_rows
setting_tiled w h size s e =
    let a = first_both (size_rows w h size) _ (size_numbered w h size) e in
    let b = first_both (grid_rows w h s) _ (grid_numbered w h s) a.1 in
    let c = first_both (side_rows w h) _ (side_numbered w h) a.0 in
    let d = first_both (range_rows s) _ (range_numbered s) b.1 in
    (tiled w h s c.0 b.0 d.0, whole_length w h size c.1, clip_fair s d.1)

-- the rows that all calls share are those up to 10, and 11
pub shared_parts : (w h size : ℕ) (s : Settings) (room : ℕ) → shared_rows w h size s room ≡ setting_rows w h size s ++ room_rows s room
unfolding shared_rows
shared_parts w h size s room = refl

-- none of them applies: none of those up to 10, and not 11
pub shared_both : (w h size : ℕ) (s : Settings) (room : ℕ) → first (shared_rows w h size s room) ≡ 0 → (first (setting_rows w h size s) ≡ 0) × (first (room_rows s room) ≡ 0)
unfolding shared_rows
shared_both w h size s room e = first_both (setting_rows w h size s) (room_rows s room) (setting_numbered w h size s) e

-- what the work below relies on
pub ready : (w h size : ℕ) (s : Settings) (room : ℕ) → first (shared_rows w h size s room) ≡ 0 → Ready w h size s room
ready w h size s room e =
    let both = shared_both w h size s room e in
    let (known, whole, fair) = setting_tiled w h size s both.0 in
    record { tiled = known; whole = whole; clip = fair; fitting = room_fits s room both.1 }

-- the same film with another map buffer that is long enough
pub shared_room_any : (w h size : ℕ) (s : Settings) (room room' : ℕ) → first (shared_rows w h size s room) ≡ 0 → entries_of s ≤ room' → first (shared_rows w h size s room') ≡ 0
unfolding shared_rows
shared_room_any w h size s room room' e l =
    sym (behind (setting_rows w h size s) (room_rows s room') (setting_numbered w h size s) (sym (shared_both w h size s room e).0) refl (sym (fits_room s room' l)))

-- 11 speaks of the map buffer's length alone
pub shared_room_alike : (w h size : ℕ) (s : Settings) (room room' : ℕ) → ltb room (entries_of s) ≡ ltb room' (entries_of s) → shared_rows w h size s room ≡ shared_rows w h size s room'
unfolding shared_rows room_rows
shared_room_alike w h size s room room' e = rw e refl

-- a product of a grid and its bins is small
pub entries_small : (a d b : ℕ) → a ≤ 16 → d ≤ 16 → b ≤ 4096 → a * d * b ≤ 1048576
entries_small a d b p q r = mul-le-mul (mul-le-mul p q) r
