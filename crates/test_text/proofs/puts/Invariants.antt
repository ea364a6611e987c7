-- `test_text::puts` meets its contract: the line holds what has been taken in. Assumes nothing.
use Rattle.std.proofs.Common.{◌≡◌, take}
use Rattle.test_text.specs.Text.{run, put_of}
use Rattle.test_text.proofs.puts.Given as goal

abbrev pub invariant-loop-b : goal.invariant-loop-b
invariant-loop-b l = l.line ≡ run put_of l.initial.line (take l.b-index l.bytes)
