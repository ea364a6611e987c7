-- The entries of a set, of settings that need be nobody's.
-- Assumes nothing.
use Prim.Native.Nat.{ℕ, ◌*◌, ◌/◌, ◌≤◌, ◌<◌}
use mathlib.Core.Bool.{Bool, true, false, cond}
use mathlib.Core.Path.{◌≡◌, refl, sym, ◌∙◌}
use mathlib.Core.Logic.{◌⊎◌, inl, inr}
use native.Mathlib.Nat.{div-lt_iff_lt-mul}
use Rattle.base_lists.proofs.Orders.{lt_or_ge}
use native.Mathlib.Omega.{arith}
use lib.Dec.{ltb, eqb}
use borrow.Author.Tests.{ltb-true, ltb-false, lt-ltb, le-ltb, eqb-false}
use Rattle.film_settings.specs.declared.Settings.{Settings}
use Rattle.film_settings.specs.Settings.{bins_of}

-- bins 0 are read as 128
pub bins_some : (s : Settings) → 0 < bins_of s
unfolding bins_of
bins_some s = go (eqb s.bins 0) refl
  where
    go : (b : Bool) → eqb s.bins 0 ≡ b → 0 < cond (eqb s.bins 0) 128 s.bins
    go true e = rw e (omega arith)
    go false e = rw e (omega (arith, eqb-false s.bins 0 e))

-- a quotient below the tiles is a number below the entries
pub larger_is : (t b n : ℕ) → 0 < b → ltb (n / b) t ≡ ltb n (t * b)
larger_is t b n p = go (ltb n (t * b)) refl
  where
    least : (n / b < t) ⊎ (t ≤ n / b) → t * b ≤ n → t ≤ n / b
    least (inl l) h = absurd (omega (arith, h, (div-lt_iff_lt-mul {x = n} {y = t} p).0 l))
    least (inr l) h = l

    go : (c : Bool) → ltb n (t * b) ≡ c → ltb (n / b) t ≡ ltb n (t * b)
    go true e = lt-ltb (n / b) t ((div-lt_iff_lt-mul {x = n} {y = t} p).1 (ltb-true n (t * b) e)) ∙ sym e
    go false e = le-ltb (n / b) t (least (lt_or_ge (n / b) t) (ltb-false n (t * b) e)) ∙ sym e
