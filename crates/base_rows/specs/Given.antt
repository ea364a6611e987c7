-- What a judgement and a call give: the refusals by their numbers.
-- Assumes nothing.
use Rattle.std.specs.Prelude.{ℕ, Result, Ok, Err}
use Rattle.base_rows.specs.declared.Refusal.{Refusal}
use Rattle.base_rows.specs.declared.Refusal.TheVariants as Is
use Rattle.base_rows.specs.Refuse.{Says, accepted, refused}

-- "A refusal returns its number alone": the number of each
abbrev pub number_of : Refusal → ℕ
number_of Is.Sides = 1
number_of Is.PictureLength = 2
number_of Is.GridAcross = 3
number_of Is.GridDown = 4
number_of Is.NarrowerThanGrid = 5
number_of Is.LowerThanGrid = 6
number_of Is.MaxAbove4095 = 7
number_of Is.MinNotBelowMax = 8
number_of Is.Bins = 9
number_of Is.Factor = 10
number_of Is.MapShort = 11
number_of Is.ScratchShort = 12
number_of Is.PixelOutside = 13
number_of Is.Retired = 14
number_of Is.OtherRecord = 15
number_of Is.Window = 16
number_of Is.OutputLength = 17
number_of Is.MappingOutside = 18
number_of Is.Header = 20
number_of Is.Comment = 21
number_of Is.FileSides = 22
number_of Is.Maxval = 23
number_of Is.RasterShort = 24
number_of Is.RasterLong = 25
number_of Is.AboveMaxval = 26
number_of Is.TargetShort = 27
number_of Is.ByteProfile = 30
number_of Is.BinsAboveGreys = 31
number_of Is.ListShort = 32
number_of Is.CountsShort = 33
number_of Is.CountsSum = 34
number_of Is.AlreadyStored = 35
number_of Is.RoomFull = 36
number_of Is.RoomShort = 37
number_of Is.NotStored = 38
number_of Is.RegionSide = 39
number_of Is.RoomRecord = 40

-- the number that a judgement gives, and 0 where it gives none: what `first` says of its table
abbrev pub given : {A : Type 0} → Result A Refusal → ℕ
given (Ok v) = 0
given (Err r) = number_of r

-- a call's answer in document 01's terms: its values, or the number of its refusal
abbrev pub said : {A : Type 0} → Result A Refusal → Says A
said (Ok v) = accepted v
said (Err r) = refused (number_of r)
