use Prim.Native.Nat.{◌<◌, ◌+◌, ◌-◌}
use mathlib.Core.Path.{◌≡◌, sym, ap, ◌∙◌}
use mathlib.Core.Bool.{true}
use lib.ListN.{length, drop}
use native.Mathlib.Omega.{arith}
use borrow.Author.Rules.{rules}
use Rattle.pgm_header.specs.Header.{Read, digits_of, is_digit_of}
use Rattle.pgm_header.proofs.Reading.{tens_five, digits_small, digits_room, digit_next, digit_stop, digit_none, digit_low, digit_high, digit_within}
use Rattle.pgm_header.proofs.digits.Goals as goal

pub loop-i-init : goal.loop-i-init
loop-i-init c =
    let e : c.args.at + 5 - c.args.at ≡ 5 = omega arith in
    (c.requires, rw e tens_five, ap (λ k. digits_of k (drop c.args.at c.args.s.now) 0 c.args.at) (sym e))

pub returns-then-not-is_digit : goal.returns-then-not-is_digit
returns-then-not-is_digit c =
    sym (c.loop-i.invariant.2 ∙ digit_stop c.args.s.now c.loop-i.i _ _ (ap is_digit_of (sym c.byte-b.ensures) ∙ (sym c.is_digit.ensures ∙ c.if-not-is_digit.true)))

pub overflow_mul-value : goal.overflow_mul-value
overflow_mul-value c = omega (arith, digits_small c.loop-i.value _ c.loop-i.invariant.1)

pub overflow_sub-value : goal.overflow_sub-value
overflow_sub-value c = digit_low _ (sym c.is_digit.ensures ∙ c.if-not-is_digit.false)

pub overflow_add-value : goal.overflow_add-value
overflow_add-value c =
    let d : is_digit_of c.byte-b.result ≡ true = sym c.is_digit.ensures ∙ c.if-not-is_digit.false in
    omega (arith, digits_small c.loop-i.value _ c.loop-i.invariant.1, digit_high _ d)

pub loop-i-preserved : goal.loop-i-preserved
loop-i-preserved c =
    let d : is_digit_of c.byte-b.result ≡ true = sym c.is_digit.ensures ∙ c.if-not-is_digit.false in
    let within : c.loop-i.i < length c.args.s.now = digit_within c.args.s.now _ (ap is_digit_of (sym c.byte-b.ensures) ∙ d) in
    let left : 0 < c.args.at + 5 - c.loop-i.i = search rules in
    let e : c.args.at + 5 - c.loop-i.i - 1 ≡ c.args.at + 5 - (c.loop-i.i + 1) = omega arith in (
      omega (arith, within),
      rw (← e) (digits_room c.loop-i.value _ _ left (omega (arith, digit_high _ d)) c.loop-i.invariant.1),
      rw (← e) (c.loop-i.invariant.2 ∙ digit_next c.args.s.now c.loop-i.i _ _ _ left c.byte-b.ensures d),
    )

pub returns : goal.returns
returns c =
    let e : c.loop-i.i ≡ c.args.at + 5 = search rules in
    let z : c.args.at + 5 - c.loop-i.i ≡ 0 = omega arith in
    sym
    (c.loop-i.invariant.2
    ∙ (ap (λ k. digits_of k (drop c.loop-i.i c.args.s.now) c.loop-i.value c.loop-i.i) z
    ∙ (digit_none _ _ _ ∙ ap (Read c.loop-i.value) e)))
