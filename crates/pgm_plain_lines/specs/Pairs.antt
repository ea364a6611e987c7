-- The digits of numbers below 100, two by two, from which a sample is laid down.
-- Assumes nothing.
use Rattle.std.specs.Prelude.{ℕ, ◌+◌, ◌*◌, ◌/◌, ◌%◌, List, [], ◌∷◌}
use Rattle.base_lists.specs.Lists.{tab}

-- the two digits of a number below 100
abbrev pub two_of : ℕ → List ℕ
two_of n = (48 + n / 10) ∷ (48 + n % 10) ∷ []

-- these two bytes as one number
abbrev pub pair_word : ℕ → ℕ
pair_word n = 48 + n / 10 + (48 + n % 10) * 256

-- of each number below 100
unfoldable pub pairs100 : List ℕ
pairs100 = tab 100 pair_word
