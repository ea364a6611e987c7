-- `test_text::long_fields` meets its contract: the line holds what has been taken in. Assumes nothing.
use Rattle.std.proofs.Common.{◌≡◌, take}
use Rattle.test_text.specs.Text.{run, field_of}
use Rattle.test_text.proofs.long_fields.Given as goal

abbrev pub invariant-loop-entry : goal.invariant-loop-entry
invariant-loop-entry l = l.line ≡ run field_of l.initial.line (take l.entry-index l.entries)
