-- Each turn reads one digit more, and a refusal stands whatever follows.
use Rattle.std.proofs.Common.{◌≡◌, ◌+◌, ◌<◌, ◌≤◌, length, get_or, Some, sym, ap, ◌∙◌, subst, arith}
use Rattle.std.proofs.lemmas.List.{take_all}
use Rattle.std.proofs.lemmas.Bool.Decides.{nat_tests}
use Rattle.std.proofs.lemmas.Int.Digits.{digits_more}
use Rattle.std.proofs.lemmas.Str.Parse.{digits_value-take-le}
use Rattle.std.specs.Str.Parse.{AllDigits, digits_value}
use Rattle.std.specs.Char.{digit_value}
use Rattle.notation.proofs.Values.{value_step, refused_no_digit, refused_large, accepted}
use Rattle.notation.proofs.digits.parse_digits.Goals as goal

pub returns-in_err-digit : goal.returns-in_err-digit
returns-in_err-digit c =
    let h : c.args.radix ≤ digit_value (get_or c.args.text.now c.loop-byte.byte-index 0) =
    omega (arith, c.in_err-digit.ensures.value, ap digit_value c.from.ensures)
    in c.from_residual.ensures ∙ sym (refused_no_digit _ _ _ _ c.loop-byte-test.true h)

pub returns-then-value-from : goal.returns-then-value-from
returns-then-value-from c =
    let e = value_step c.args.radix c.args.text.now c.loop-byte.byte-index _ _ _ c.loop-byte-test.true c.loop-byte.invariant.1 (c.from-in-loop-byte-2.ensures ∙ c.in_ok-digit.ensures.value.1 ∙ ap digit_value c.from.ensures) c.from-in-loop-byte.ensures
    in let large : c.args.limit < digits_value c.args.radix c.args.text.now =
    omega (arith, e, digits_value-take-le c.args.radix c.args.text.now (c.loop-byte.byte-index + 1) (omega arith))
    in sym (refused_large c.args.radix _ c.args.text.now large)

pub loop-byte-preserved : goal.loop-byte-preserved
loop-byte-preserved c =
    let d : c.in_ok-digit.digit ≡ digit_value (get_or c.args.text.now c.loop-byte.byte-index 0) =
    c.in_ok-digit.ensures.value.1 ∙ ap digit_value c.from.ensures
    in (
      digits_more _ _ _ c.loop-byte-test.true c.loop-byte.invariant.0 (omega (arith, c.in_ok-digit.ensures.value.0, ap digit_value c.from.ensures)),
      value_step c.args.radix c.args.text.now c.loop-byte.byte-index _ _ _ c.loop-byte-test.true c.loop-byte.invariant.1 (c.from-in-loop-byte-2.ensures ∙ d) c.from-in-loop-byte.ensures,
      omega arith,
    )

pub returns : goal.returns
returns c =
    let all = take_all c.loop-byte.byte-index c.args.text.now c.loop-byte-test.false
    in let some : 0 < length c.args.text.now = grind (arith, nat_tests)
    in let v : c.loop-byte.value ≡ digits_value c.args.radix c.args.text.now = c.loop-byte.invariant.1 ∙ ap (digits_value c.args.radix) all
    in ap Some v ∙ sym (accepted _ _ _ some (subst (AllDigits c.args.radix) all c.loop-byte.invariant.0) (omega arith))
