-- `pixel_bins::bins_row` meets its contract: each of the closures gives a pixel's bin.
use Prim.Native.Nat.{◌+◌, ◌-◌, ◌*◌, ◌^◌, ◌≤◌, ◌<◌}
use mathlib.Core.Path.{◌≡◌, ap, ◌∙◌}
use lib.ListN.{get_or}
use native.Mathlib.Omega.{arith}
use borrow.Author.Rules.{rules}
use Rattle.tile_bin.specs.Binning.{bin_of, bin_by_of}
use Rattle.pixel_bins.proofs.Bins.{bins_asks, grey_low, grey_high, few_asks, by_factor, by_small, bins_are}
use Rattle.pixel_bins.proofs.bins_row.Goals as goal

pub bins_with-requires : goal.bins_with-requires
bins_with-requires c = λ k l.
    let asks = bins_asks c.requires c.bins-bins.ensures c.bin_factor-factor.ensures in
    let low : c.args.s.min ≤ get_or c.args.pixels.now k 0 = grey_low asks l in
    let some : 0 < c.bins-bins.result = omega (arith, c.bins-bins.ensures, c.requires.0.some) in
    let even : c.bins-bins.result * 2 ^ c.in-Some.shift ≡ c.args.s.max - c.args.s.min + 1 = ap (λ b. b * 2 ^ c.in-Some.shift) c.bins-bins.ensures ∙ c.in-Some.ensures.1 in
    search rules

pub bins_with-requires-then-bins-le-FEW : goal.bins_with-requires-then-bins-le-FEW
bins_with-requires-then-bins-le-FEW c = λ k l.
    let asks = bins_asks c.requires c.bins-bins.ensures c.bin_factor-factor.ensures in
    let low : c.args.s.min ≤ get_or c.args.pixels.now k 0 = grey_low asks l in
    let high : get_or c.args.pixels.now k 0 ≤ 4095 = grey_high asks l in
    let room : (get_or c.args.pixels.now k 0 - c.args.s.min) * c.bin_factor-factor.result < 4294967296 = few_asks asks l (omega (arith, c.bins-bins.ensures)) in
    let small : bin_by_of c.args.s.min c.bin_factor-factor.result (get_or c.args.pixels.now k 0) < 4096 = by_small asks l in
    search rules

pub bins_with-requires-else-bins-le-FEW : goal.bins_with-requires-else-bins-le-FEW
bins_with-requires-else-bins-le-FEW c = λ k l.
    let asks = bins_asks c.requires c.bins-bins.ensures c.bin_factor-factor.ensures in
    let low : c.args.s.min ≤ get_or c.args.pixels.now k 0 = grey_low asks l in
    let high : get_or c.args.pixels.now k 0 ≤ 4095 = grey_high asks l in
    let small : bin_by_of c.args.s.min c.bin_factor-factor.result (get_or c.args.pixels.now k 0) < 4096 = by_small asks l in
    search rules

pub returns-in-Some : goal.returns-in-Some
returns-in-Some c = bins_are _ _ (search rules) (λ k l.
    let h = c.bins_with.ensures k l in
    let e : get_or c.bins_with.new.pixels k 0 ≡ bin_of c.args.s.min c.args.s.max c.bins-bins.result (get_or c.args.pixels.now k 0) = search rules in
    e ∙ ap (λ b. bin_of c.args.s.min c.args.s.max b (get_or c.args.pixels.now k 0)) c.bins-bins.ensures)

pub returns-then-bins-le-FEW : goal.returns-then-bins-le-FEW
returns-then-bins-le-FEW c = bins_are _ _ (search rules) (λ k l.
    let asks = bins_asks c.requires c.bins-bins.ensures c.bin_factor-factor.ensures in
    let h = c.bins_with-then-bins-le-FEW.ensures k l in
    let e : get_or c.bins_with-then-bins-le-FEW.new.pixels k 0 ≡ bin_by_of c.args.s.min c.bin_factor-factor.result (get_or c.args.pixels.now k 0) = search rules in
    e ∙ by_factor asks l)

pub returns-else-bins-le-FEW : goal.returns-else-bins-le-FEW
returns-else-bins-le-FEW c = bins_are _ _ (search rules) (λ k l.
    let asks = bins_asks c.requires c.bins-bins.ensures c.bin_factor-factor.ensures in
    let h = c.bins_with-else-bins-le-FEW.ensures k l in
    let e : get_or c.bins_with-else-bins-le-FEW.new.pixels k 0 ≡ bin_by_of c.args.s.min c.bin_factor-factor.result (get_or c.args.pixels.now k 0) = search rules in
    e ∙ by_factor asks l)
