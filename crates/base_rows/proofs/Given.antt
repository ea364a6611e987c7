-- Laws of judgements: each refusal has a number above 0, and tables one behind the other are judged one behind the other, as `?` does.
-- Assumes nothing.
use Rattle.std.proofs.Common.{ℕ, ◌<◌, ◌≡◌, List, ◌++◌, Result, Ok, Err}
use Rattle.std.specs.Result.{IsErrAnd}
use mathlib.Core.Path.{sym, ap, ◌∙◌}
use native.Mathlib.Omega.{arith}
use lib.Dec.{lit<}
use Rattle.base_rows.specs.declared.Refusal.{Refusal}
use Rattle.base_rows.specs.declared.Refusal.TheVariants as Is
use Rattle.base_rows.specs.Refuse.{Row, first, Numbered, refused}
use Rattle.base_rows.specs.Given.{number_of, given, said}
use Rattle.base_rows.proofs.Walk.{first_behind, first_front, first_none}

-- each refusal's number is above 0
pub number_above : (r : Refusal) → 0 < number_of r
number_above Is.Sides = lit< tt
number_above Is.PictureLength = lit< tt
number_above Is.GridAcross = lit< tt
number_above Is.GridDown = lit< tt
number_above Is.NarrowerThanGrid = lit< tt
number_above Is.LowerThanGrid = lit< tt
number_above Is.MaxAbove4095 = lit< tt
number_above Is.MinNotBelowMax = lit< tt
number_above Is.Bins = lit< tt
number_above Is.Factor = lit< tt
number_above Is.MapShort = lit< tt
number_above Is.ScratchShort = lit< tt
number_above Is.PixelOutside = lit< tt
number_above Is.Retired = lit< tt
number_above Is.OtherRecord = lit< tt
number_above Is.Window = lit< tt
number_above Is.OutputLength = lit< tt
number_above Is.MappingOutside = lit< tt
number_above Is.Header = lit< tt
number_above Is.Comment = lit< tt
number_above Is.FileSides = lit< tt
number_above Is.Maxval = lit< tt
number_above Is.RasterShort = lit< tt
number_above Is.RasterLong = lit< tt
number_above Is.AboveMaxval = lit< tt
number_above Is.TargetShort = lit< tt
number_above Is.ByteProfile = lit< tt
number_above Is.BinsAboveGreys = lit< tt
number_above Is.ListShort = lit< tt
number_above Is.CountsShort = lit< tt
number_above Is.CountsSum = lit< tt
number_above Is.AlreadyStored = lit< tt
number_above Is.RoomFull = lit< tt
number_above Is.RoomShort = lit< tt
number_above Is.NotStored = lit< tt
number_above Is.RegionSide = lit< tt
number_above Is.RoomRecord = lit< tt

-- a judgement that hands a refusal on gives its number
pub given_err : {A : Type 0} (q : Result A Refusal) (e : Refusal) → IsErrAnd q (λ f. f ≡ e) → given q ≡ number_of e
given_err (Ok v) e h = absurd h
given_err (Err f) e h = ap number_of h

-- where the table in front gives a refusal, the whole one gives it
pub refused_front : (s t : List Row) {A : Type 0} (q : Result A Refusal) (e : Refusal) → number_of e ≡ first s → IsErrAnd q (λ f. f ≡ e) → given q ≡ first (s ++ t)
refused_front s t q e h k =
    given_err q e k ∙ (h ∙ sym (first_front s t (λ z. let l : 0 < number_of e = number_above e in omega (arith, h, z, l))))

-- where it gives none, the whole one gives what the table behind it does
pub passed_front : (s t : List Row) {x : ℕ} → Numbered s → 0 ≡ first s → x ≡ first t → x ≡ first (s ++ t)
passed_front s t n z h = h ∙ sym (first_behind s t (first_none s n (sym z)))

-- a refusal's number is not 0
pub number_some : (e : Refusal) → number_of e ≡ 0 → ⊥
number_some e z = let l : 0 < number_of e = number_above e in omega (arith, z, l)

-- a call that hands a refusal on says its number alone
pub said_err : {A : Type 0} (q : Result A Refusal) (e : Refusal) → IsErrAnd q (λ f. f ≡ e) → said q ≡ refused (number_of e)
said_err (Ok v) e h = absurd h
said_err (Err f) e h = ap (λ r. refused (number_of r)) h
