use Prim.Native.Nat.{◌+◌}
use mathlib.Core.List.{◌++◌}
use mathlib.Core.Path.{◌≡◌, ap, ap₂, ◌∙◌}
use lib.ListN.{length, get_or, set, drop}
use lib.Seq.{paste, paste-zero}
use native.Mathlib.Omega.{arith}
use Rattle.std.proofs.lemmas.List.Edits.{paste_more, paste_all}
use Rattle.base_lists.specs.Lists.{onto}
use Rattle.base_lists.proofs.copy.Goals as goal

pub loop-i-init : goal.loop-i-init
loop-i-init g c = paste-zero c.args.dst.now 0 c.args.src.now

pub loop-i-preserved : goal.loop-i-preserved
loop-i-preserved g c =
    let o = c.loop-i in
    let a = c.args in
    let at : o.i ≡ 0 + o.i = omega arith in
    ap₂ (λ t x. set t o.i x) o.invariant c.index-src-i.is
    ∙ (ap (λ n. set (paste a.dst.now 0 a.src.now o.i) n (get_or a.src.now o.i c.index-src-i.result)) at
    ∙ paste_more a.dst.now 0 a.src.now o.i c.index-src-i.result (omega (arith, c.requires, c.loop-i-test.true)) (omega (arith, c.loop-i-test.true)))

pub returns : goal.returns
unfolding onto
returns g c =
    let o = c.loop-i in
    let a = c.args in
    let all : 0 + o.i ≡ length a.src.now = omega (arith, o.auto.i-end, c.loop-i-test.false) in
    o.invariant ∙ (paste_all a.dst.now 0 a.src.now o.i (omega (arith, o.auto.i-end, c.loop-i-test.false)) ∙ ap (λ n. a.src.now ++ drop n a.dst.now) all)
