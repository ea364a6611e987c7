-- The raw header, and then 2 in the place of 5.
use native.Mathlib.Omega.{arith}
use Rattle.pgm_header.proofs.Writing.{length_header}
use Rattle.pgm_plain.proofs.Heads.{head_laid}
use Rattle.pgm_plain.proofs.lay_plain_head.Goals as goal

pub bounds-out-1 : goal.bounds-out-1
bounds-out-1 c =
    let a = c.args in
    omega (arith, c.write_header-count.auto.out, c.requires.3, length_header a.width a.height a.maxval)

pub returns : goal.returns
returns c = (head_laid _ _ _ _ c.write_header-count.ensures.0, c.write_header-count.ensures.1)
