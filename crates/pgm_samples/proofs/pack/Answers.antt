-- The greys' own width.
use mathlib.Core.Path.{sym, ◌∙◌}
use Rattle.pgm_samples.specs.Samples.{is_wide}
use Rattle.pgm_samples.proofs.Bounds.{narrow_asks}
use Rattle.pgm_samples.proofs.pack.Goals as goal

pub pack_samples-requires-else-is_wide : goal.pack_samples-requires-else-is_wide
unfolding is_wide
pack_samples-requires-else-is_wide c =
    let narrow = narrow_asks _ _ (sym c.is_wide.ensures ∙ c.if-is_wide.false) c.requires in
    ((λ e. narrow.bounded), narrow.room)
