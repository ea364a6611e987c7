-- Document 01, "What each call hands back" for write, the refusals 22, 23, 2, 26 and 27, and "Raw PGM".
-- A file is a list of bytes. w, h and m are width, height and maxval.
-- Assumes nothing.
use Rattle.std.specs.Prelude.{ℕ, ◌*◌, ◌≤◌, true, List, [], ◌∷◌, ◌++◌, ◌≡◌, length}
use Rattle.base_lists.specs.Lists.{onto}
use Rattle.base_rows.specs.Refuse.{Row, length_row, short_row, first, unless, Says, accepted, refused}
use Rattle.pgm_header.specs.Header.{header_bytes}
use Rattle.pgm_samples.specs.Samples.{is_wide, packed, none_above_of}
use Rattle.pgm_raster.specs.Raster.{head_rows, above_row, RasterLimits}

-- "the raster is written straight behind the header bytes already laid down"
unfoldable pub file_of : (pic : List ℕ) (w h m : ℕ) → List ℕ
file_of pic w h m = header_bytes w h m ++ packed (is_wide m) pic

-- 22, 23, 2 and 26: the refusals of a picture that is to be written, whatever its file's form
unfoldable pub file_picture_rows : (pic : List ℕ) (w h m : ℕ) → List Row
file_picture_rows pic w h m = head_rows w h m ++ (length_row w h (length pic) ∷ above_row m pic ∷ [])

-- "Write: 22, 23, 2, 26, 27.", of the file that is to be written
unfoldable pub written_rows : (pic : List ℕ) (w h m : ℕ) (file : List ℕ) (room : ℕ) → List Row
written_rows pic w h m file room = file_picture_rows pic w h m ++ (short_row room (length file) ∷ [])

-- of the raw one
abbrev pub write_rows : (pic : List ℕ) (w h m room : ℕ) → List Row
write_rows pic w h m room = written_rows pic w h m (file_of pic w h m) room

-- what the rows 22, 23, 2 and 26 tell where none applies: a picture of its size, none of it above maxval
pub record WriteReady (pic : List ℕ) (w h m : ℕ) : Type 0 where
  pub within : RasterLimits w h m
  pub whole : length pic ≡ w * h
  pub bounded : none_above_of m pic ≡ true

-- what 27 tells besides: room for the whole file
pub record WriteAsks (pic : List ℕ) (w h m : ℕ) (file : List ℕ) (room : ℕ) : Type 0 where
  pub film : WriteReady pic w h m
  pub fitting : length file ≤ room

-- what the call leaves: its answer, "the byte count" or a refusal, and the output
pub record WriteOut : Type 0 where
  pub answer : Says ℕ
  pub out : List ℕ

-- an answer and an output as one
abbrev pub write_leaves : Says ℕ → List ℕ → WriteOut
write_leaves answer out = record { answer = answer; out = out }

-- the first row that applies, and the output stays as it was, else bytes at its front: "returns the byte count; bytes behind it keep their contents"
abbrev pub wrote : List Row → List ℕ → List ℕ → WriteOut
wrote rows out bytes = unless (first rows) (λ n. write_leaves (refused n) out) (write_leaves (accepted (length bytes)) (onto out bytes))

-- of the file that is to be written
unfoldable pub written_of : (pic : List ℕ) (w h m : ℕ) (file out : List ℕ) → WriteOut
written_of pic w h m file out = wrote (written_rows pic w h m file (length out)) out file

-- write: of the raw file
abbrev pub write_of : (pic : List ℕ) (w h m : ℕ) (out : List ℕ) → WriteOut
write_of pic w h m out = written_of pic w h m (file_of pic w h m) out
