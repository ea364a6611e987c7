-- What the functions of the film set answer. A row is the list of its numbers, and a number that is not there reads as 0.
-- Assumes nothing.
use Rattle.std.specs.Prelude.{ℕ, ◌+◌, ◌-◌, ◌*◌, ◌/◌, ◌%◌, ◌^◌, Bool, cond, ◌&&◌, List, [], ◌∷◌, length, set, replicate, ◌==◌, from_bits, nat_le, nat_lt, slice_index, slice_set, to_bits, Float, Result, Ok, Err}
use Rattle.std.specs.Float.{nan, binary32, binary64}
use Rattle.test_text.specs.declared.Text.{Text}
use Rattle.test_text.specs.Text.{run, blank_text, field_of, fields_of, hex_field_of, line_start, line_end, line_of, small_of}
use Rattle.tile_limit.specs.declared.Clip.{Clip}
use Rattle.tile_limit.specs.declared.Clip.TheVariants.{Off, Factor}
use Rattle.tile_limit.specs.declared.Edition.{Edition}
use Rattle.tile_limit.specs.declared.Edition.TheVariants.{Ours, Of1986}
use Rattle.pixel_grid.specs.declared.Axis.{Axis}
use Rattle.pixel_grid.specs.Grid.{axis_of, no_axis_of}
use Rattle.film_settings.specs.declared.Settings.{Settings}
use Rattle.film_settings.specs.declared.MapRecord.{MapRecord}
use Rattle.film_settings.specs.declared.Window.{Window}
use Rattle.film_settings.specs.declared.Footer.{Footer}
use Rattle.film_prepare.specs.declared.Prepared.{Prepared}
use Rattle.base_rows.specs.declared.Refusal.{Refusal}
use Rattle.base_rows.specs.Given.{number_of, given}
use Rattle.test_set.specs.declared.row.Line.{Line}
use Rattle.test_set.specs.declared.kept.Eleven.{Eleven}
use Rattle.test_set.specs.declared.kept.Kept.{Kept}
use Rattle.test_set.specs.declared.axes.Axes.{Axes}
use Rattle.test_set.specs.declared.film.Left.{Left}
use Rattle.test_set.specs.declared.film.Shot.{Shot}
use Rattle.test_set.specs.declared.file.Found.{Found}
use Rattle.test_set.specs.declared.file.Laid.{Laid}

-- ---- whole numbers and columns

-- the remainder of a by b, and 0 where b is 0
unfoldable pub rest_of : ℕ → ℕ → ℕ
rest_of a b = cond (b == 0) 0 (a % b)

-- the number in a column of a row as one of 32 bits
abbrev pub word_of : List ℕ → ℕ → ℕ
word_of row column = slice_index row column % 4294967296

-- ---- digests

-- the digest h with one entry more
abbrev pub mixed : ℕ → ℕ → ℕ
mixed h v = (h % 4294967296 * 31 + v % 4294967296 + 1) % 4294967296

-- from 7 on, each entry and last the length
unfoldable pub digest_of : List ℕ → ℕ
digest_of s = mixed (run mixed 7 s) (length s)

-- ---- lines

-- before a line
abbrev pub fresh_line : Line
fresh_line = record { numbers = replicate 49 0; count = 0; base = 10 }

-- the value of a digit; a capital stands for its own code
unfoldable pub digit_of : ℕ → ℕ
digit_of b = cond (nat_lt b 65) (b - 48) (cond (nat_lt b 97) b (b - 87))

-- the line with one digit more of its number
unfoldable pub longer_line : Line → ℕ → Line
longer_line l b =
    record {
      numbers = slice_set l.numbers l.count ((slice_index l.numbers l.count % 4294967296 * (l.base % 4294967296) + digit_of b) % 2 ^ 64);
      count = l.count;
      base = l.base;
    }

-- the line with one byte more: `#` ends it, `x` makes its number hexadecimal, a blank ends the number
unfoldable pub fed_line : Line → ℕ → Line
fed_line l b =
    cond (nat_lt 48 l.count) l
    (cond (b == 35) (record { numbers = l.numbers; count = 49; base = 10 })
    (cond (b == 120) (record { numbers = l.numbers; count = l.count; base = 16 })
    (cond (b == 32) (record { numbers = l.numbers; count = l.count + 1; base = 10 })
    (longer_line l b))))

-- the line with one byte more while film `no` is looked for: its end is passed over where it is that film's
unfoldable pub looked_line : ℕ → Line → ℕ → Line
looked_line n l b =
    cond (b == 10)
    (cond (slice_index l.numbers 0 == 70)
    (cond (slice_index l.numbers 1 == n) (record { numbers = l.numbers; count = 49; base = 10 }) fresh_line) fresh_line)
    (fed_line l b)

-- the row of film `no`, zeros where there is none
abbrev pub found_row : List ℕ → ℕ → List ℕ
found_row text n = (run (looked_line n) fresh_line text).numbers

-- ---- records

-- the f32 of a bit pattern; one NaN stands for all
unfoldable pub float_of : ℕ → Float
float_of bits = cond (nat_lt 2139095040 (bits % 2147483648)) nan (from_bits binary32 bits)

-- the made record of a film's row
unfoldable pub eleven_of_lem : List ℕ → Eleven
eleven_of_lem row =
    record {
      film = word_of row 2;
      width = word_of row 3;
      height = word_of row 4;
      across = word_of row 12;
      down = word_of row 13;
      bins = word_of row 14;
      min = word_of row 15;
      max = word_of row 16;
      clip = word_of row 17;
      factor = float_of (word_of row 18);
      edition = word_of row 24;
    }

-- a clip of 0 is off, any other number is the factor
unfoldable pub clip_of_lem : Eleven → Clip
clip_of_lem t = cond (t.clip == 0) Off (Factor t.factor)

-- an edition of 0 is ours, any other number that of 1986
unfoldable pub edition_of_lem : Eleven → Edition
edition_of_lem t = cond (t.edition == 0) Ours Of1986

-- the settings among the eleven
unfoldable pub settings_of : Eleven → Settings
settings_of t = record { across = t.across; down = t.down; bins = t.bins; min = t.min; max = t.max; clip = clip_of_lem t; edition = edition_of_lem t }

-- the number of a clip setting
abbrev pub clip_number_of : Clip → ℕ
clip_number_of Off = 0
clip_number_of (Factor f) = 1

-- and its factor, 0.0 where it is off
abbrev pub clip_factor_of : Clip → Float
clip_factor_of Off = from_bits binary32 0
clip_factor_of (Factor f) = f

-- the number of an edition
abbrev pub edition_number_of : Edition → ℕ
edition_number_of Ours = 0
edition_number_of Of1986 = 1

-- the eleven numbers of a map record
unfoldable pub flat_of : MapRecord → Eleven
flat_of r =
    record {
      film = r.film;
      width = r.width;
      height = r.height;
      across = r.settings.across;
      down = r.settings.down;
      bins = r.settings.bins;
      min = r.settings.min;
      max = r.settings.max;
      clip = clip_number_of r.settings.clip;
      factor = clip_factor_of r.settings.clip;
      edition = edition_number_of r.settings.edition;
    }

-- ---- axes

-- an axis of a made record: the rule's "where 2 <= grid <= 16 and grid <= side <= 4096 hold on that axis; else that axis is all 0"
unfoldable pub made_axis_of : ℕ → ℕ → Axis
made_axis_of side grid = cond (nat_le 2 grid && nat_le grid 16 && nat_le grid side && nat_le side 4096) (axis_of side grid) no_axis_of

-- "The made record's axes are the rule's for its own width, height, across and down"
unfoldable pub made_axes : Eleven → Axes
made_axes t = record { columns = made_axis_of t.width t.across; rows = made_axis_of t.height t.down }

-- the axes of a map record
unfoldable pub axes_in_of : MapRecord → Axes
axes_in_of r = record { columns = r.columns; rows = r.rows }

-- "the entry value / 65536 becomes value mod 65536, and nothing changes where there is no such entry"
abbrev pub changed_entry : Bool → List ℕ → ℕ → List ℕ
changed_entry asked s value = cond asked (slice_set s (value / 65536) (value % 65536)) s

-- that of an axis whose edges and centres these fields are
unfoldable pub changed_axis_of : (a : Axis) (field edges centres value : ℕ) → Axis
changed_axis_of a field edges centres value =
    record {
      edges = changed_entry (field == edges) a.edges value;
      centres = changed_entry (field == centres) a.centres value;
    }

-- "If field is 20, 21, 22 or 23, one entry is then changed in this record's column edges, column centres, row edges or row centres"
unfoldable pub changed_axes : Axes → ℕ → ℕ → Axes
changed_axes a field value =
    record { columns = changed_axis_of a.columns field 20 21 value; rows = changed_axis_of a.rows field 22 23 value }

-- ---- what is kept

-- the eleven but for the factor and the edition, in the order in which they are printed
abbrev pub printed_numbers : Eleven → List ℕ
printed_numbers t =
    t.film ∷ t.width ∷ t.height ∷ t.across ∷ t.down ∷ t.bins ∷ t.min ∷ t.max ∷ t.clip ∷ []

-- the eleven but for the factor, in the order in which C has them
abbrev pub cell_numbers : Eleven → List ℕ
cell_numbers t =
    t.film ∷ t.width ∷ t.height ∷ t.across ∷ t.down ∷ t.bins ∷ t.min ∷ t.max ∷ t.clip ∷ t.edition ∷ []

-- the eleven of these ten and the factor
unfoldable pub eleven_from : List ℕ → Float → Eleven
eleven_from n f =
    record {
      film = slice_index n 0;
      width = slice_index n 1;
      height = slice_index n 2;
      across = slice_index n 3;
      down = slice_index n 4;
      bins = slice_index n 5;
      min = slice_index n 6;
      max = slice_index n 7;
      clip = slice_index n 8;
      factor = f;
      edition = slice_index n 9;
    }

-- an answer and a record
abbrev pub kept_as : ℕ → Eleven → Axes → Kept
kept_as number t a = record { number = number; eleven = t; axes = a }

-- an answer and the made record
abbrev pub kept_made : ℕ → Eleven → Kept
kept_made number t = kept_as number t (made_axes t)

-- what is kept of prepare's answer: its record, or the made one beside the refusal's number
abbrev pub kept_prepared : Eleven → Result Prepared Refusal → Kept
kept_prepared t (Ok p) = kept_as 0 (flat_of p.kept) (axes_in_of p.kept)
kept_prepared t (Err r) = kept_made (number_of r) t

-- what is kept of enhance's answer
abbrev pub kept_enhanced : Eleven → Result Footer Refusal → Kept
kept_enhanced t (Ok foot) = kept_made 0 t
kept_enhanced t (Err r) = kept_made (number_of r) t

-- what prepare left, with its list's digest and "`x`, no, the list (small)"
abbrev pub left_of : ℕ → Kept → List ℕ → Left
left_of n k s = record { kept = k; list = digest_of s; line = small_of 120 n s }

-- what enhance left, which has no list
abbrev pub left_alone : Kept → Left
left_alone k = record { kept = k; list = 0; line = blank_text }

-- the map record that is kept
unfoldable pub kept_map_record : Kept → MapRecord
kept_map_record k =
    record {
      film = k.eleven.film;
      width = k.eleven.width;
      height = k.eleven.height;
      settings = settings_of k.eleven;
      columns = k.axes.columns;
      rows = k.axes.rows;
    }

-- ---- printed lines

-- the fields of the eleven
unfoldable pub eleven_fields_of : Text → Eleven → Text
eleven_fields_of line t = field_of (hex_field_of (fields_of line (printed_numbers t)) 8 (to_bits binary32 t.factor)) t.edition

-- the digests of an axis: of its edges and of its centres
unfoldable pub axis_fields_of : Text → Axis → Text
axis_fields_of line a = field_of (field_of line (digest_of a.edges)) (digest_of a.centres)

-- "the digests of its column edges, column centres, row edges and row centres"
unfoldable pub axes_fields : Text → Axes → Text
axes_fields line a = axis_fields_of (axis_fields_of line a.columns) a.rows

-- the fields of an accepted call: limit, factor asked for and factor used; under the letter P the record
unfoldable pub done_fields_of : Text → ℕ → Kept → ℕ → Float → Float → Text
done_fields_of line letter k limit asked used =
    let foot = hex_field_of (hex_field_of (field_of line limit) 8 (to_bits binary32 asked)) 16 (to_bits binary64 used) in
    cond (letter == 80) (axes_fields (eleven_fields_of foot k.eleven) k.axes) foot

-- the line of prepare or enhance: the answer, and of an accepted call its fields; none under the letter 0
unfoldable pub answer_line : ℕ → ℕ → Kept → ℕ → Float → Float → Text
answer_line letter n k limit asked used =
    let line = field_of (line_start letter n) k.number in
    cond (letter == 0) blank_text
    (cond (k.number == 0) (line_end (done_fields_of line letter k limit asked used)) (line_end line))

-- the line K, 1 or 0: whether two pictures have the same digest, where all calls accepted
unfoldable pub same_line : ℕ → Shot → Shot → Text
same_line n a b =
    cond (a.number == 0 && b.number == 0) (line_of 75 n (cond (a.digest == b.digest) 1 0 ∷ [])) blank_text

-- the line of the sizes: the refusal, or 0, width, height and maxval
unfoldable pub sizes_line_of : ℕ → Found → Text
sizes_line_of n f =
    cond (f.number == 0) (line_of 83 n (0 ∷ f.width ∷ f.height ∷ f.maxval ∷ [])) (line_of 83 n (f.number ∷ []))

-- the line of write or of the listing: the refusal, or 0 and the byte count
unfoldable pub laid_line_of : ℕ → ℕ → Laid → Text
laid_line_of letter n laid =
    cond (laid.number == 0) (line_of letter n (0 ∷ laid.count ∷ [])) (line_of letter n (laid.number ∷ []))

-- ---- films and draws

-- a row is a film's: its letter is F
abbrev pub is_film_of : List ℕ → Bool
is_film_of row = slice_index row 0 == 70

-- the number in a column that draws alone have, or what stands for it where a film is drawn whole
unfoldable pub own_of : List ℕ → ℕ → ℕ → ℕ
own_of row place whole = cond (is_film_of row) whole (slice_index row place)

-- the window of a row: a film's lies at 0, 0
unfoldable pub window_of : List ℕ → Window
window_of row =
    record {
      left = own_of row 7 0 % 4294967296;
      top = own_of row 8 0 % 4294967296;
      width = word_of row 3;
      height = word_of row 4;
    }

-- draw's number, 0 where it accepted
abbrev pub drawn_number_of : Result (Unit {0}) Refusal → ℕ
drawn_number_of d = given d

-- the column of a record's field in a film's row
unfoldable pub field_column : ℕ → ℕ
field_column field = cond (nat_lt field 3) (field + 2) (cond (field == 10) 24 (field % 16 + 9))

-- the record handed to draw: the kept one, of whose axes an entry may be changed, or the made one "with that field's number set to value,
-- and its axes as they were"
unfoldable pub handed_of : List ℕ → List ℕ → Kept → Kept
handed_of row drawn k =
    cond (nat_le 11 (own_of drawn 9 12))
    (kept_as k.number k.eleven (changed_axes k.axes (own_of drawn 9 12) (slice_index drawn 10)))
    (kept_as k.number (eleven_of_lem (slice_set row (field_column (own_of drawn 9 12)) (slice_index drawn 10))) (made_axes (eleven_of_lem row)))

-- what came of two calls, the second of which rendered
unfoldable pub joined_of : ℕ → Shot → Shot
joined_of number shot = cond (number == 0) shot (record { number = number; digest = 0 })

-- ---- lent memory

-- entry i of a buffer that counts on from base: what is left of first + i * pace by span
unfoldable pub fill_of : (base first pace span i : ℕ) → ℕ
fill_of base first pace span i = (base + rest_of ((i % 4294967296 * (pace % 4294967296) + first) % 2 ^ 64) span) % 2 ^ 64 % 65536

-- entry i of a scratch before a call
unfoldable pub scratch_of : ℕ → ℕ
scratch_of i = i % 1000 * 5 % 1000 + 1

-- entry i of a list before a call: "1099511627776 + (i mod 1000)"
unfoldable pub list_entry : ℕ → ℕ
list_entry i = 1099511627776 + i % 1000
