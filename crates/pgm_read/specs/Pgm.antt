-- Document 01, "What each call hands back" for read, and the refusals 20 to 25.
-- A file is a list of bytes. w, h and m are width, height and maxval.
-- Assumes nothing.
use Rattle.std.specs.Prelude.{ℕ, ◌-◌, List, [], ◌++◌, length, drop, Result, Ok, Err}
use Rattle.base_rows.specs.Refuse.{first, unless, Says, accepted, refused}
use Rattle.base_rows.specs.Given.{number_of}
use Rattle.base_rows.specs.declared.Refusal.{Refusal}
use Rattle.pgm_header.specs.Header.{Head, header_of}
use Rattle.pgm_raster.specs.Raster.{head_rows, raster_rows}
use Rattle.pgm_read.specs.declared.Sizes.{Sizes}

-- "header bytes from the front ..; then 22 to 25": what the header found, in a file of `size` bytes
unfoldable pub judged_head : Head → ℕ → Head
judged_head (Head.Found w h m at) size = unless (first (head_rows w h m ++ raster_rows w h m (size - at))) Head.Refused (Head.Found w h m at)
judged_head (Head.Refused n) size = Head.Refused n

-- the same where a header was found
abbrev pub judged_found : (w h m at size : ℕ) → Head
judged_found w h m at size = judged_head (Head.Found w h m at) size

-- read of a whole file
unfoldable pub read_of : List ℕ → Head
read_of s = judged_head (header_of s) (length s)

-- "for the sizes and maxval": width, height and maxval, or a refusal
abbrev pub sizes_of : Head → Says (ℕ × ℕ × ℕ)
sizes_of (Head.Found w h m at) = accepted (w, h, m)
sizes_of (Head.Refused n) = refused n

-- "and for the raster handed back as that part of the caller's bytes"; "A refusal hands back an empty part."
abbrev pub raster_of : Head → List ℕ → List ℕ
raster_of (Head.Found w h m at) s = drop at s
raster_of (Head.Refused n) s = []

-- where "that part of the caller's bytes" begins: behind the header; the empty part stands at the front
abbrev pub raster_start : Head → ℕ
raster_start (Head.Found w h m at) = at
raster_start (Head.Refused n) = 0

-- document 01's values and number of read's answers: width, height and maxval, or a refusal
unfoldable pub sizes_says : Result Sizes Refusal → Says (ℕ × ℕ × ℕ)
sizes_says (Ok s) = accepted (s.width, s.height, s.maxval)
sizes_says (Err r) = refused (number_of r)
