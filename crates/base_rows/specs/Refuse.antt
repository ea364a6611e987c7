-- Document 01, the refusal table: "The first that applies is given."
-- Assumes nothing.
use Rattle.std.specs.Prelude.{ℕ, zero, suc, ◌*◌, Bool, true, false, not, cond, List, [], ◌∷◌, ◌≡◌, ltb, eqb}
use Rattle.base_lists.specs.Lists.{all}

-- a row of a table: a refusal's number, and whether it applies
pub data Row : Type 0 where
  row : ℕ → Bool → Row

-- the number of the first row that applies, and 0 where none does
unfoldable pub first : List Row → ℕ
first [] = 0
first (row n b ∷ rows) = cond b n (first rows)

-- ---- rows that several tables have

-- 2: "picture length is not width x height"
abbrev pub length_row : (w h size : ℕ) → Row
length_row w h size = row 2 (not (eqb size (w * h)))

-- 12: "scratch shorter than" what is asked of it
abbrev pub scratch_row : (scratch asked : ℕ) → Row
scratch_row scratch asked = row 12 (ltb scratch asked)

-- 17: "if the target's length is not width x height"
abbrev pub target_row : (w h target : ℕ) → Row
target_row w h target = row 17 (not (eqb target (w * h)))

-- 27: "the caller's target too short"
abbrev pub short_row : (room asked : ℕ) → Row
short_row room asked = row 27 (ltb room asked)

-- ---- what a table says

-- "A refusal returns its number alone": where a row applies, what its number leaves, and where none does, what the call does
abbrev pub unless : {A : Type 0} → ℕ → (ℕ → A) → A → A
unless zero kept done = done
unless (suc n) kept done = kept (suc n)

-- no row applies
abbrev pub None : List Row → Type 0
None [] = Unit {0}
None (row n b ∷ rows) = (b ≡ false) × None rows

-- the numbers of a table's rows, from the first on
unfoldable pub numbers_of : List Row → List ℕ
numbers_of [] = []
numbers_of (row n b ∷ rows) = n ∷ numbers_of rows

-- p holds of the number of each row
abbrev pub Each : (ℕ → Bool) → List Row → Type 0
Each p rows = all p (numbers_of rows) ≡ true

-- each row's number is above 0, so that 0 says that no row applies
abbrev pub Numbered : List Row → Type 0
Numbered rows = Each (ltb 0) rows

-- an answer in document 01's terms: accepted, with the values that the call hands back, or refused with a number
pub data Says (A : Type 0) : Type 0 where
  accepted : A → Says A
  refused : ℕ → Says A

-- what a call says where n is the number of the first row that applies
abbrev pub says : {A : Type 0} → ℕ → A → Says A
says n v = unless n refused (accepted v)
