-- Order 9, the writer: "Write P2 with our three header lines and then one sample and LF per line; refusals as for write."
-- A file is a list of bytes. w, h and m are width, height and maxval.
-- Assumes nothing.
use Rattle.std.specs.Prelude.{ℕ, List, ◌++◌}
use Rattle.base_rows.specs.Refuse.{Row}
use Rattle.pgm_write.specs.Write.{written_rows, WriteOut, written_of}
use Rattle.pgm_plain.specs.Plain.{plain_head_bytes, lines_of}

-- "our three header lines and then one sample and LF per line"
unfoldable pub plain_file_of : (pic : List ℕ) (w h m : ℕ) → List ℕ
plain_file_of pic w h m = plain_head_bytes w h m ++ lines_of pic

-- "refusals as for write": its table, with room for this file
abbrev pub plain_write_rows : (pic : List ℕ) (w h m room : ℕ) → List Row
plain_write_rows pic w h m room = written_rows pic w h m (plain_file_of pic w h m) room

-- "Write P2": what write answers and leaves, with this file
abbrev pub plain_write_of : (pic : List ℕ) (w h m : ℕ) (out : List ℕ) → WriteOut
plain_write_of pic w h m out = written_of pic w h m (plain_file_of pic w h m) out
