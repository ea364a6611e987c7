-- No byte is above 255.
use mathlib.Core.Bool.{false}
use mathlib.Core.Path.{◌≡◌, sym}
use borrow.Author.Rules.{rules}
use Rattle.pgm_samples.proofs.Bounds.{bytes_bounded}
use Rattle.pgm_samples.proofs.none_above.Goals as goal

pub returns-then-maxval-ge255 : goal.returns-then-maxval-ge255
returns-then-maxval-ge255 c =
    let e : c.args.wide ≡ false = c.if-wide.false in
    rw e (sym (bytes_bounded _ _ _ (λ i. search rules) (search rules)))
