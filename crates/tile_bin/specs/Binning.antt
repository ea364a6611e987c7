-- Document 01, "From pixels to mappings", rule 1, as order 3 has it: the bin of a grey.
-- lo and hi are Min and Max, b the bins B.
-- Assumes nothing.
use Rattle.std.specs.Prelude.{ℕ, ◌+◌, ◌-◌, ◌*◌, ◌/◌}

-- "The bin of grey v shall be floor((v - Min) x B / (R + 1))", with R = Max - Min
unfoldable pub bin_of : (lo hi b v : ℕ) → ℕ
bin_of lo hi b v = (v - lo) * b / (hi - lo + 1)

-- stands for B over R + 1, so that no grey is divided: floor(B x 2^24 / (R + 1)) + 1
unfoldable pub factor_of : (lo hi b : ℕ) → ℕ
factor_of lo hi b = b * 16777216 / (hi - lo + 1) + 1

-- the bin of a grey by that factor: floor((v - Min) x factor / 2^24)
unfoldable pub bin_by_of : (lo factor v : ℕ) → ℕ
bin_by_of lo factor v = (v - lo) * factor / 16777216
