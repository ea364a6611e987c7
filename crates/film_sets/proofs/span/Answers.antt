use Rattle.std.proofs.Common.{◌≡◌, length, ap, sym, ◌∙◌, arith}
use lib.Seq.{length-take-le}
use Rattle.film_sets.proofs.Holds.{length_held}
use Rattle.film_sets.proofs.span.Goals as goal

pub slice_bounds-r-items-end : goal.slice_bounds-r-items-end
slice_bounds-r-items-end c =
    let n : length c.stored.result.now ≡ c.args.room.now.count = ap length c.stored.ensures ∙ length_held c.args.room.now in
    sym (length-take-le c.args.n c.stored.result.now (omega arith))
