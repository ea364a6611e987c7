-- Document 01, "Numbers to check by hand": the text that the listing program prints for a PGM file's bytes, refusals included.
-- Assumes nothing.
use Rattle.std.specs.Prelude.{ℕ, ◌*◌, Bool, false, cond, List, [], ◌∷◌, ltb, length, drop}
use Rattle.base_rows.specs.Refuse.{Row, short_row, first, unless, Says, accepted, refused}
use Rattle.pgm_header.specs.Header.{Head, Found, Refused, header_of}
use Rattle.pgm_samples.specs.Samples.{is_wide, unpacked, none_above_of}
use Rattle.pgm_read.specs.Pgm.{read_of}
use Rattle.pgm_write.specs.Write.{WriteOut, wrote}
use Rattle.film_prepare.specs.Prepare.{prepare_rows}
use Rattle.listing_line.specs.Lines.{refused_text}
use Rattle.listing_film.specs.FilmText.{listing_settings, film_text}

-- "at most 8,192 pixels": "a larger film is 22 where read's own 22 stands"
abbrev pub is_larger_of : Head → Bool
is_larger_of (Found w h m at) = ltb 8192 (w * h)
is_larger_of (Refused n) = false

-- of a film that was read: 26, then prepare's refusals, then the listing
abbrev pub picture_text : (w h maxval : ℕ) (pic : List ℕ) → List ℕ
picture_text w h maxval pic =
    cond (none_above_of maxval pic)
    (unless (first (prepare_rows w h pic (listing_settings maxval) 16 4 8)) refused_text (film_text w h maxval pic))
    (refused_text 26)

-- "reads a PGM": of a file that read accepts its film's text, else read's own refusal
abbrev pub read_text : Head → List ℕ → List ℕ
read_text (Found w h m at) s = picture_text w h m (unpacked (is_wide m) (drop at s) (w * h))
read_text (Refused n) s = refused_text n

-- "a longer input is 22 before all else"
unfoldable pub listing_of : List ℕ → List ℕ
listing_of s =
    cond (ltb 32768 (length s)) (refused_text 22)
    (cond (is_larger_of (header_of s)) (refused_text 22)
    (read_text (read_of s) s))

-- 27, "the caller's target too short": fewer than the 512 bytes that hold every listing
unfoldable pub text_rows : ℕ → List Row
text_rows room = short_row room 512 ∷ []

-- the text at the front of the output, and its length; a film's refusal is part of its text
unfoldable pub list_of : List ℕ → List ℕ → WriteOut
list_of s out = wrote (text_rows (length out)) out (listing_of s)

-- how many bytes an answer says were laid down: none where it is a refusal
abbrev pub laid_of : Says ℕ → ℕ
laid_of (accepted n) = n
laid_of (refused n) = 0
