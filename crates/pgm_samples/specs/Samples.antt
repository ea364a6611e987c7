-- Document 01, "Raw PGM": "samples take one byte if maxval is below 256, else two, high byte first".
-- Assumes nothing.
use Rattle.std.specs.Prelude.{ℕ, ◌+◌, ◌*◌, ◌/◌, ◌%◌, ◌≤◌, Bool, true, false, List, [], ◌∷◌, ◌≡◌, leb, length, get_or}
use Rattle.base_lists.specs.Lists.{tab, joined, all}

-- "one byte if maxval is below 256, else two": whether it takes two
unfoldable pub is_wide : ℕ → Bool
is_wide maxval = leb 256 maxval

-- the bytes of a sample
abbrev pub sample_bytes : Bool → ℕ
sample_bytes false = 1
sample_bytes true = 2

-- a sample laid down: "high byte first"
abbrev pub bytes_of : Bool → ℕ → List ℕ
bytes_of false v = v ∷ []
bytes_of true v = v / 256 ∷ v % 256 ∷ []

-- the i-th sample of a raster
abbrev pub sample_at : Bool → List ℕ → ℕ → ℕ
sample_at false bs i = get_or bs i 0
sample_at true bs i = get_or bs (i * 2) 0 * 256 + get_or bs (i * 2 + 1) 0

-- the greys laid down as a raster, one behind the other
unfoldable pub packed : Bool → List ℕ → List ℕ
packed two vs = joined (length vs) (λ i. bytes_of two (get_or vs i 0))

-- the greys of a raster of n samples
unfoldable pub unpacked : Bool → List ℕ → ℕ → List ℕ
unpacked two bs n = tab n (sample_at two bs)

-- refusal 26: "a sample above maxval" is met in none of these greys
unfoldable pub none_above_of : ℕ → List ℕ → Bool
none_above_of maxval vs = all (λ v. leb v maxval) vs

-- what turning `count` samples into greys asks: a raster of exactly that many, neither too short (24) nor with bytes behind it (25), and room in the target (27)
pub record UnpackAsks (two : Bool) (count bytes target : ℕ) : Type 0 where
  pub exact : count * sample_bytes two ≡ bytes
  pub room : count ≤ target

-- what laying greys down asks: none above maxval (26), and room for all of them (27)
pub record PackAsks (maxval : ℕ) (greys : List ℕ) (out : ℕ) : Type 0 where
  pub bounded : none_above_of maxval greys ≡ true
  pub room : length greys * sample_bytes (is_wide maxval) ≤ out
