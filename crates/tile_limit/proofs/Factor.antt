-- The code's float tests of a factor are the definitions of `specs/Limit.antt`: `1.0 <= f && f <= 1024.0` is `allowed`, and `f == 1.0` is `is_one`.
-- A literal is the value of its bit pattern. Assumes nothing.
use Prim.Native.Nat.{ℕ, ◌*◌, ◌<◌}
use native.Mathlib.Nat.{one-mul, mul-one}
use native.Mathlib.Omega.{arith}
use mathlib.Core.Bool.{Bool, true, false, not, ◌&&◌, ◌||◌, and-true, and-false}
use mathlib.Core.Path.{◌≡◌, refl, sym, ap, ap₂, ◌∙◌}
use lib.Dec.{leb, ltb, eqb}
use lib.IntN.{ℤ}
use lib.Ieee.{Float, nan, inf, fin, up, down, binary32, of_bits, le, eq}
use lib.Ieee.Fits.{down_pos}
use borrow.Author.Tests.{ltb-true, ltb-false, leb-true, leb-false, eqb-true, eqb-false, ne_eqb}
use Rattle.tile_limit.specs.declared.Clip.{Clip}
use Rattle.tile_limit.specs.declared.Clip.TheVariants.{Factor}
use Rattle.tile_limit.specs.declared.Judged.TheVariants as Judged
use Rattle.tile_limit.specs.Limit.{allowed, is_one, judge_of, judged_by}

-- the literals 1.0 and 1024.0
abbrev pub one : Float
one = of_bits binary32 1065353216

abbrev pub most : Float
most = of_bits binary32 1149239296

-- below or level is at most
le_is : (a b : ℕ) → (ltb a b || (eqb a b && true)) ≡ leb a b
le_is a b = go (ltb a b) refl (eqb a b) refl (leb a b) refl
  where
    go : (l : Bool) → ltb a b ≡ l → (e : Bool) → eqb a b ≡ e → (r : Bool) → leb a b ≡ r → (l || (e && true)) ≡ r
    go true p e q true r = refl
    go true p e q false r = absurd (omega (arith, ltb-true a b p, leb-false a b r))
    go false p true q true r = refl
    go false p true q false r = absurd (omega (arith, eqb-true a b q, leb-false a b r))
    go false p false q true r = absurd (eqb-false a b q (omega (arith, ltb-false a b p, leb-true a b r)))
    go false p false q false r = refl

-- a number above 0 is not level with a negative one
apart : (a d : ℕ) → 0 < d → (eqb d a && (false || eqb d 0)) ≡ false
apart a d h = ap (λ (x : Bool). eqb d a && x) (ne_eqb d 0 (λ (e : d ≡ 0). omega arith)) ∙ and-false (eqb d a)

apart' : (a d : ℕ) → 0 < d → (eqb a d && (false || eqb a 0)) ≡ false
apart' a d h = go (eqb a d) refl (eqb a 0) refl
  where
    go : (x : Bool) → eqb a d ≡ x → (y : Bool) → eqb a 0 ≡ y → (x && (false || y)) ≡ false
    go true p true q = absurd (omega (arith, eqb-true a d p, eqb-true a 0 q))
    go true p false q = refl
    go false p y q = refl

-- `1.0 <= f`
from_one : (s : Bool) (m : ℕ) (e : ℤ) → le one (fin s m e) ≡ (not s && leb (down e) (m * up e))
unfolding of_bits le
from_one false m e =
    le_is (1 * down e) (m * up e * 1) ∙ ap₂ leb (one-mul (down e)) (mul-one (m * up e))
from_one true m e =
    ap (λ (d : ℕ). eqb d (m * up e * 1) && (false || eqb d 0)) (one-mul (down e)) ∙ apart (m * up e * 1) (down e) (down_pos e)

-- `f <= 1024.0`, of a number that is not negative
to_most : (m : ℕ) (e : ℤ) → le (fin false m e) most ≡ leb (m * up e) (1024 * down e)
unfolding of_bits le
to_most m e = le_is (m * up e * 1) (1024 * down e) ∙ ap (λ (a : ℕ). leb a (1024 * down e)) (mul-one (m * up e))

-- the two tests of the code are `allowed`
pub allowed_is : (f : Float) → allowed f ≡ (le one f && le f most)
unfolding allowed
allowed_is nan = unfold le of_bits in refl
allowed_is (inf true) = unfold le of_bits in refl
allowed_is (inf false) = unfold le of_bits in refl
allowed_is (fin true m e) = rw (from_one true m e)
allowed_is (fin false m e) = rw (from_one false m e, to_most m e)

-- the code's `f == 1.0` is `is_one`
pub is_one_is : (f : Float) → is_one f ≡ eq f one
unfolding is_one of_bits eq
is_one_is nan = refl
is_one_is (inf s) = refl
is_one_is (fin true m e) =
    sym (ap₂ (λ (a d : ℕ). eqb a d && (false || eqb a 0)) (mul-one (m * up e)) (one-mul (down e)) ∙ apart' (m * up e) (down e) (down_pos e))
is_one_is (fin false m e) = sym (ap₂ (λ (a d : ℕ). eqb a d && true) (mul-one (m * up e)) (one-mul (down e)) ∙ and-true (eqb (m * up e) (down e)))

module _ (clip : Clip) (f : Float) (e : clip ≡ Factor f) where
  -- both bounds kept, and level with 1.0
  pub judge_one : le one f ≡ true → le f most ≡ true → eq f one ≡ true → judge_of clip ≡ Judged.One
  unfolding judge_of
  judge_one p q r = ap judge_of e ∙ ap₂ (λ (a b : Bool). judged_by a b f) (allowed_is f ∙ ap₂ ◌&&◌ p q) (is_one_is f ∙ r)

  -- both bounds kept, and not level with 1.0
  pub judge_above : le one f ≡ true → le f most ≡ true → eq f one ≡ false → judge_of clip ≡ Judged.Above f
  unfolding judge_of
  judge_above p q r = ap judge_of e ∙ ap₂ (λ (a b : Bool). judged_by a b f) (allowed_is f ∙ ap₂ ◌&&◌ p q) (is_one_is f ∙ r)

  -- above 1024.0
  pub judge_high : le one f ≡ true → le f most ≡ false → judge_of clip ≡ Judged.Refused
  unfolding judge_of
  judge_high p q = ap judge_of e ∙ ap (λ (b : Bool). judged_by b (is_one f) f) (allowed_is f ∙ ap₂ ◌&&◌ p q)

  -- below 1.0, or no number
  pub judge_low : le one f ≡ false → judge_of clip ≡ Judged.Refused
  unfolding judge_of
  judge_low p = ap judge_of e ∙ ap (λ (b : Bool). judged_by b (is_one f) f) (allowed_is f ∙ ap (λ (b : Bool). b && le f most) p)
