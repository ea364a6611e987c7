-- The word, the tab, and the number behind them. Assumes nothing.
use native.Mathlib.Omega.{arith}
use Rattle.pgm_header.proofs.Writing.{count_most}
use Rattle.listing_line.proofs.Lines.{refused_laid}
use Rattle.listing_line.proofs.refused_line.Goals as goal

pub field-requires : goal.field-requires
field-requires c = (c.requires.0, omega (arith, c.requires.1, c.copy.auto.dst, count_most 5 c.args.number))

pub returns : goal.returns
returns c = refused_laid _ _ c.copy.ensures c.field.ensures.0 c.field.ensures.1
