-- `test_set::row::found` meets its contract: the line holds what has been looked through. Assumes nothing.
use Rattle.std.proofs.Common.{◌≡◌, take}
use Rattle.test_text.specs.Text.{run}
use Rattle.test_set.specs.Filmset.{looked_line, fresh_line}
use Rattle.test_set.proofs.row.found.Given as goal

abbrev pub invariant-loop-b : goal.invariant-loop-b
invariant-loop-b l = l.line ≡ run (looked_line l.no) fresh_line (take l.b-index l.text)
