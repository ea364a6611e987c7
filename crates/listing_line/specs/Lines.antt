-- Document 01, "Numbers to check by hand": a line of the text that the listing program prints.
-- Assumes nothing.
use Rattle.std.specs.Prelude.{ℕ, List, [], ◌∷◌, ◌++◌}
use Rattle.pgm_header.specs.Header.{decimal_of}

-- "Fields are parted by tabs", "Every line ends in LF"
unfoldable pub line : List ℕ → List ℕ
line [] = 10 ∷ []
line (n ∷ []) = decimal_of 5 n ++ (10 ∷ [])
line (n ∷ k ∷ rest) = decimal_of 5 n ++ ((9 ∷ []) ++ line (k ∷ rest))

-- "A refusal prints `refused`, tab, number"
unfoldable pub refused_text : ℕ → List ℕ
refused_text n = (114 ∷ 101 ∷ 102 ∷ 117 ∷ 115 ∷ 101 ∷ 100 ∷ 9 ∷ []) ++ line (n ∷ [])
