-- Document 01, "Settings and sizes" and "From pixels to mappings", rule 2, and the footer's factor used.
-- A float is `nan`, an infinity, or `fin s m e`: m x 2 ^ e, negative where s is true; 2 ^ e is the fraction up e / down e.
-- Assumes nothing.
use Rattle.std.specs.Prelude.{ℕ, ◌+◌, ◌-◌, ◌*◌, ◌/◌, ◌≤◌, ◌<◌, max, Bool, true, false, not, ◌&&◌, ◌≡◌, leb, eqb, pos, Float}
use Rattle.std.specs.Float.{nan, inf, fin, binary64}
use Rattle.std.specs.Float.Ieee.{up, down, div, of_int}
use Rattle.tile_limit.specs.declared.Clip.{Clip}
use Rattle.tile_limit.specs.declared.Clip.TheVariants.{Off, Factor}
use Rattle.tile_limit.specs.declared.Judged.{Judged}

-- "A factor is 1.0 to 1024.0"; refusal 10: "factor NaN, infinite, below 1.0 or above 1024.0"
unfoldable pub allowed : Float → Bool
allowed nan = false
allowed (inf s) = false
allowed (fin s m e) = not s && leb (down e) (m * up e) && leb (m * up e) (1024 * down e)

-- "exactly 1.0"
unfoldable pub is_one : Float → Bool
is_one nan = false
is_one (inf s) = false
is_one (fin s m e) = not s && eqb (m * up e) (down e)

-- what a factor is judged to be, by whether it is allowed and whether it is 1.0
abbrev pub judged_by : Bool → Bool → Float → Judged
judged_by false one f = Judged.Refused
judged_by true true f = Judged.One
judged_by true false f = Judged.Above f

-- a clip setting, judged: "off, or a factor", which is refused, exactly 1.0, or above
unfoldable pub judge_of : Clip → Judged
judge_of Off = Judged.Off
judge_of (Factor f) = judged_by (allowed f) (is_one f) f

-- "above 1.0": a number above 1, or the positive infinity, which 10 refuses
abbrev pub AboveOne : Float → Type 0
AboveOne nan = ⊥
AboveOne (inf s) = s ≡ false
AboveOne (fin s m e) = (s ≡ false) × (down e < m * up e)

-- document 01's number of a judgement: 10 where the factor is refused, else 0
abbrev pub judged_number : Judged → ℕ
judged_number Judged.Off = 0
judged_number Judged.Refused = 10
judged_number Judged.One = 0
judged_number (Judged.Above f) = 0

-- and what it says of the clip setting: off, or a factor that is "NaN, infinite, below 1.0 or above 1024.0", "exactly 1.0", or allowed and above 1.0
abbrev pub JudgedSays : Judged → Clip → Type 0
JudgedSays Judged.Off clip = clip ≡ Off
JudgedSays Judged.Refused clip = (f : Float) × (clip ≡ Factor f) × (allowed f ≡ false)
JudgedSays Judged.One clip = (f : Float) × (clip ≡ Factor f) × (is_one f ≡ true)
JudgedSays (Judged.Above f) clip = (clip ≡ Factor f) × (allowed f ≡ true) × AboveOne f

-- "the factor's f32 bits are taken as the exact binary fraction they denote. L = floor(factor x N / B) in whole numbers,
-- and at least 1. Nothing is rounded before the floor." No limit is worked out of a float that is no number.
unfoldable pub floored_of : Float → ℕ → ℕ → ℕ
floored_of nan n b = 1
floored_of (inf s) n b = 1
floored_of (fin s m e) n b = max 1 (m * up e * n / (down e * b))

-- "the tile's pixels over the bins, rounded up"
abbrev pub rounded_up : ℕ → ℕ → ℕ
rounded_up n b = (n + (b - 1)) / b

-- order 2: "the larger of today's L and the tile's pixels over the bins, rounded up"
unfoldable pub limit_of : Float → ℕ → ℕ → ℕ
limit_of f n b = max (floored_of f n b) (rounded_up n b)

-- "the factor used as f64: L x B and N are each converted exactly and divided once"
unfoldable pub used_of : ℕ → ℕ → ℕ → Float
used_of l b n = div binary64 (of_int binary64 (pos (l * b))) (of_int binary64 (pos n))

-- what `floored` and `limit` ask: an allowed factor, a tile of at most 2048 x 2048 pixels, and bins as document 01 has them
pub record LimitAsks (f : Float) (n b : ℕ) : Type 0 where
  pub good : allowed f ≡ true
  pub pixels : n ≤ 4194304
  pub least : 2 ≤ b
  pub most : b ≤ 4096

-- what `used` asks: a product that an f64 holds exactly
pub record UsedAsks (l b : ℕ) : Type 0 where
  pub exact : l * b ≤ 4294967296
