-- The step, rounded up.
use Prim.Native.Nat.{ℕ, ◌+◌, ◌-◌, ◌/◌, ◌%◌, ◌<◌, min}
use mathlib.Core.Path.{◌≡◌, ap, ◌∙◌}
use native.Mathlib.Omega.{arith}
use Rattle.tile_clip1986.proofs.descend.Goals as goal

rounded_up : (n d : ℕ) → 0 < d → n / d + min 1 (n % d) ≡ (n + d - 1) / d
rounded_up n d some = grind arith

pub returns : goal.returns
returns c =
    let a = c.args in
    ap (λ s. a.level - s) (c.div_ceil-step.ensures ∙ rounded_up (a.over - a.room) (a.bins - a.reached) (omega (arith, c.requires.some)))
