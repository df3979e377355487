-- `read_decimal` reads exactly what `{}` writes.
use Rattle.std.proofs.Common.{◌≡◌, ℕ, ◌^◌, ◌<◌, ◌≤◌, false, ◌&&◌, eqb, ltb, leb, ◌⊎◌, List, length, get_or, Some, None, decimal, Option, sym, ap, ◌∙◌, subst, inl, inr, arith, MatchOption}
use Rattle.std.proofs.lemmas.Fmt.{decimal_is_IsNumeral, decimal_digit, decimal-digits_value, first_decimal}
use Rattle.std.proofs.lemmas.Str.Parse.{numerals_by_value, tells_digits}
use Rattle.std.proofs.lemmas.Bool.{and_parts, and_left, and_right, and_cases, ne_eqb, le-ltb, ltb-true, ltb-false, leb-true, eqb-false, cases_lt, cond-false}
use Rattle.std.specs.Str.Parse.{AllDigits, digits_value}
use Rattle.notation.specs.Decimal.{leading_zero, read_decimal}
use Rattle.notation.specs.Digits.{are_digits, read_digits}
use Rattle.notation.proofs.Options.{when_true_some, cond_some, exactly}
use Rattle.notation.proofs.Values.{accepted, digits_from}

no_leading_zero : (n : ℕ) → n < 2 ^ 64 → leading_zero (decimal n) ≡ false
no_leading_zero n h = by (cases_lt 0 n)
  where
    by : (0 < n) ⊎ (n ≤ 0) → leading_zero (decimal n) ≡ false
    by (inl pos) = and_left (eqb (get_or (decimal n) 0 0) 48) _ (ne_eqb _ 48 (λ e. omega (arith, first_decimal n pos h)))
    by (inr low) = and_right (eqb (get_or (decimal n) 0 0) 48) _ (le-ltb 1 _ (omega (arith, ap length (decimal_digit n (omega arith)))))

pub decimal_back : (limit n : ℕ) (text : List ℕ) → limit < 2 ^ 64 → n ≤ limit → decimal n ≡ text → read_decimal limit text ≡ Some n
decimal_back limit n text h k e = subst (λ t. read_decimal limit t ≡ Some n) e
    (let small : n < 2 ^ 64 = omega arith in let reads = decimal_is_IsNumeral n small in
    cond-false _ None (read_digits 10 limit (decimal n)) (no_leading_zero n small)
    ∙ accepted 10 limit (decimal n) reads.0.0 reads.0.1 (omega (arith, reads.1)) ∙ ap Some reads.1)

pub decimal_only : (limit n : ℕ) (text : List ℕ) → limit < 2 ^ 64 → read_decimal limit text ≡ Some n → (n ≤ limit) × (decimal n ≡ text)
decimal_only limit n text h e =
    let p = cond_some (leading_zero text) e in let q = when_true_some (ltb 0 (length text) && (are_digits 10 text && leb (digits_value 10 text) limit)) p.1 in
    let some = and_parts _ _ q.0 in let rest = and_parts _ _ some.1 in
    let low = leb-true _ _ rest.1 in let filled = ltb-true 0 (length text) some.0 in
    (omega (arith, q.1), ap decimal (sym q.1) ∙ decimal-digits_value (numerals_by_value (AllDigits 10) tells_digits) text (digits_from 10 text rest.0) filled (λ z. one (and_cases (eqb (get_or text 0 0) 48) (ltb 1 (length text)) p.0) z filled) (omega arith))
  where
    one : (eqb (get_or text 0 0) 48 ≡ false) ⊎ (ltb 1 (length text) ≡ false) → get_or text 0 0 ≡ 48 → 0 < length text → length text ≡ 1
    one (inl no_zero) z filled = absurd (eqb-false _ _ no_zero z)
    one (inr short) z filled = omega (arith, ltb-false _ _ short)

-- the answer of a reader that answers as `read_decimal` does
pub decimal_exact : (limit : ℕ) (text : List ℕ) (o : Option ℕ) → limit < 2 ^ 64 → o ≡ read_decimal limit text → MatchOption o ((n : ℕ) → n ≤ limit → decimal n ≡ text → ⊥) (λ n. (n ≤ limit) × (decimal n ≡ text))
decimal_exact limit text o h e = exactly (λ n. n ≤ limit) decimal text o (λ n k w. e ∙ decimal_back limit n text h k w) (λ n w. decimal_only limit n text h (sym e ∙ w))
