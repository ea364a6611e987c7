-- What a returned number tells of an outcome that is not flattened from a table of refusals.
-- Assumes nothing.
use Prim.Native.Nat.{ℕ, ◌<◌}
use mathlib.Core.Logic.{◌⊎◌, inl, inr}
use mathlib.Core.Path.{◌≡◌, sym, ap, ◌∙◌}
use native.Mathlib.Omega.{arith}

-- of the calls that are not flattened from a table: an outcome that is accepted, or that holds what was lent beside its number
abbrev pub Keeps : {Y : Type 0} → (Y → ℕ) → (ℕ → Y) → Y → Type 0
Keeps number lent z = (number z ≡ 0) ⊎ (z ≡ lent (number z))

-- what stands at the end of a refused call with such an outcome
pub kept : {Y : Type 0} (number : Y → ℕ) (lent : ℕ → Y) {y z : Y} → y ≡ z → Keeps number lent z → 0 < number y → y ≡ lent (number y)
kept number lent {y} e (inl n) l = let k : number y ≡ 0 = ap number e ∙ n in absurd (omega arith)
kept number lent e (inr k) l = e ∙ (k ∙ ap (λ x. lent (number x)) (sym e))
