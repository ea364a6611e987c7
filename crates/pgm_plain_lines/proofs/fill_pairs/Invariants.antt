-- The entries so far are filled in.
use mathlib.Core.Path.{◌≡◌}
use Rattle.base_lists.specs.Lists.{filled}
use Rattle.pgm_plain_lines.specs.Pairs.{pair_word}
use Rattle.pgm_plain_lines.proofs.fill_pairs.Given as goal

abbrev pub invariant-loop-i : goal.invariant-loop-i
invariant-loop-i l = l.pairs ≡ filled pair_word l.initial.pairs l.i
