use Rattle.std.proofs.Common.{rules, ◌-◌, ◌^◌, ◌<◌, ◌≡◌, ◌∙◌, sym, arith}
use Rattle.std.specs.List.{sum_by}
use Rattle.tile_clip.proofs.Shares.{excess_sum, excess_most}
use Rattle.tile_clip.proofs.excess.Goals as goal

pub sum-over-requires-clause-fits : goal.sum-over-requires-clause-fits
sum-over-requires-clause-fits c =
    let a = c.args in
    let h : sum_by (λ n. n - a.limit) a.counts.now < 2 ^ 32 = omega (arith, excess_sum a.limit a.counts.now, excess_most a.limit a.counts.now) in
    search rules

pub returns : goal.returns
returns c =
    let a = c.args in
    let h : c.sum-over.result ≡ sum_by (λ n. n - a.limit) a.counts.now = search rules in
    h ∙ sym (excess_sum a.limit a.counts.now)
