-- What the header's reader hands back, in the terms of Header.
-- Assumes nothing.
use Rattle.std.specs.Prelude.{Result, Ok, Err}
use Rattle.base_rows.specs.declared.Refusal.{Refusal}
use Rattle.base_rows.specs.Given.{number_of}
use Rattle.pgm_header.specs.declared.Number.{Number as ANumber}
use Rattle.pgm_header.specs.declared.Head.{Head as AHead}
use Rattle.pgm_header.specs.Header.{Number, Read, Misfit, Head, Found, Refused}

-- a number that was read, or the number of its refusal
abbrev pub number_told : Result ANumber Refusal → Number
number_told (Ok n) = Read n.value n.end
number_told (Err r) = Misfit (number_of r)

-- a header that was found, or the number of its refusal
abbrev pub head_told : Result AHead Refusal → Head
head_told (Ok h) = Found h.width h.height h.maxval h.start
head_told (Err r) = Refused (number_of r)
