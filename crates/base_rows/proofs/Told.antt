-- Laws of what a call says: each refusal has a number of its own, so two calls that say the same answered the same.
-- Assumes nothing.
use Rattle.std.specs.Prelude.{ℕ, cond, eqb, List, [], ◌∷◌, ◌≡◌, Result, Ok, Err}
use mathlib.Core.Path.{refl, sym, ap, ◌∙◌}
use Rattle.base_rows.specs.declared.Refusal.{Refusal}
use Rattle.base_rows.specs.declared.Refusal.TheVariants as Is
use Rattle.base_rows.specs.Refuse.{Says, accepted, refused}
use Rattle.base_rows.specs.Given.{number_of, said}

-- the refusals
refusals : List Refusal
refusals = Is.Sides ∷ Is.PictureLength ∷ Is.GridAcross ∷ Is.GridDown ∷ Is.NarrowerThanGrid ∷ Is.LowerThanGrid ∷ Is.MaxAbove4095 ∷ Is.MinNotBelowMax ∷ Is.Bins ∷ Is.Factor ∷ Is.MapShort ∷ Is.ScratchShort ∷ Is.PixelOutside ∷ Is.Retired ∷ Is.OtherRecord ∷ Is.Window ∷ Is.OutputLength ∷ Is.MappingOutside ∷ Is.Header ∷ Is.Comment ∷ Is.FileSides ∷ Is.Maxval ∷ Is.RasterShort ∷ Is.RasterLong ∷ Is.AboveMaxval ∷ Is.TargetShort ∷ Is.ByteProfile ∷ Is.BinsAboveGreys ∷ Is.ListShort ∷ Is.CountsShort ∷ Is.CountsSum ∷ Is.AlreadyStored ∷ Is.RoomFull ∷ Is.RoomShort ∷ Is.NotStored ∷ Is.RegionSide ∷ Is.RoomRecord ∷ []

-- the first of them that has this number; where none has, some refusal
among : List Refusal → ℕ → Refusal
among [] n = Is.Sides
among (r ∷ rs) n = cond (eqb (number_of r) n) r (among rs n)

-- the refusal of a number
refusal_of : ℕ → Refusal
refusal_of n = among refusals n

-- each refusal is that of its number
refusal_back : (r : Refusal) → refusal_of (number_of r) ≡ r
unfolding refusal_of among refusals
refusal_back Is.Sides = refl
refusal_back Is.PictureLength = refl
refusal_back Is.GridAcross = refl
refusal_back Is.GridDown = refl
refusal_back Is.NarrowerThanGrid = refl
refusal_back Is.LowerThanGrid = refl
refusal_back Is.MaxAbove4095 = refl
refusal_back Is.MinNotBelowMax = refl
refusal_back Is.Bins = refl
refusal_back Is.Factor = refl
refusal_back Is.MapShort = refl
refusal_back Is.ScratchShort = refl
refusal_back Is.PixelOutside = refl
refusal_back Is.Retired = refl
refusal_back Is.OtherRecord = refl
refusal_back Is.Window = refl
refusal_back Is.OutputLength = refl
refusal_back Is.MappingOutside = refl
refusal_back Is.Header = refl
refusal_back Is.Comment = refl
refusal_back Is.FileSides = refl
refusal_back Is.Maxval = refl
refusal_back Is.RasterShort = refl
refusal_back Is.RasterLong = refl
refusal_back Is.AboveMaxval = refl
refusal_back Is.TargetShort = refl
refusal_back Is.ByteProfile = refl
refusal_back Is.BinsAboveGreys = refl
refusal_back Is.ListShort = refl
refusal_back Is.CountsShort = refl
refusal_back Is.CountsSum = refl
refusal_back Is.AlreadyStored = refl
refusal_back Is.RoomFull = refl
refusal_back Is.RoomShort = refl
refusal_back Is.NotStored = refl
refusal_back Is.RegionSide = refl
refusal_back Is.RoomRecord = refl

-- no two refusals have one number
pub number_same : (a b : Refusal) → number_of a ≡ number_of b → a ≡ b
number_same a b e = sym (refusal_back a) ∙ (ap refusal_of e ∙ refusal_back b)

-- the answer that says this
unsaid : {A : Type 0} → Says A → Result A Refusal
unsaid (accepted v) = Ok v
unsaid (refused n) = Err (refusal_of n)

-- each answer is that of what it says
said_back : {A : Type 0} (a : Result A Refusal) → unsaid (said a) ≡ a
unfolding unsaid
said_back (Ok v) = refl
said_back (Err r) = ap Err (refusal_back r)

-- two answers that say the same are the same
pub said_same : {A : Type 0} (a b : Result A Refusal) → said a ≡ said b → a ≡ b
said_same a b e = sym (said_back a) ∙ (ap unsaid e ∙ said_back b)

-- so two answers are the same where what is told of them is
pub told_same : {A : Type 0} {a b : Result A Refusal} {u v : Says A} → u ≡ said a → v ≡ said b → u ≡ v → a ≡ b
told_same {A} {a} {b} p q e = said_same a b (sym p ∙ (e ∙ q))
