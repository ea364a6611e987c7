-- The cases of a line that lists a buffer, over plain variables. Assumes nothing.
use Prim.Native.Nat.{ℕ}
use mathlib.Core.Bool.{true, false}
use mathlib.Core.List.{List}
use mathlib.Core.Path.{◌≡◌}
use lib.ListN.{length}
use Rattle.test_text.specs.declared.Text.{Text}
use Rattle.test_text.specs.Text.{blank_text, line_start, fields_of, line_end, line_of, is_small_of, small_of}

pub small_listed : (letter n : ℕ) (s : List ℕ) {r : Text} → is_small_of (length s) ≡ true → r ≡ line_end (fields_of (line_start letter n) s) → r ≡ small_of letter n s
unfolding line_of small_of
small_listed letter n s h e = rw h e

pub small_none : (letter n : ℕ) (s : List ℕ) {r : Text} → is_small_of (length s) ≡ false → r ≡ blank_text → r ≡ small_of letter n s
unfolding small_of
small_none letter n s h e = rw h e
