-- `test_text::blank` meets its contract: no byte. Assumes nothing.
use mathlib.Core.Path.{refl}
use Rattle.test_text.specs.Text.{blank_text}
use Rattle.test_text.proofs.blank.Goals as goal

pub returns : goal.returns
unfolding blank_text
returns c = refl
