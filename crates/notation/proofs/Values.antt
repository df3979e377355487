-- What digits write, part by part, and when `read_digits` refuses.
use Rattle.std.proofs.Common.{◌≡◌, ℕ, zero, suc, ◌+◌, ◌*◌, ◌<◌, ◌≤◌, Bool, true, false, ◌&&◌, ltb, leb, List, [], ◌∷◌, length, get_or, take, Some, None, sym, refl, ap, ◌∙◌, arith}
use Rattle.std.proofs.lemmas.Int.Digits.{digits_value_more}
use Rattle.std.proofs.lemmas.Bool.{le-ltb, lt-ltb, lt-leb, le-leb, and_left, and_right, and_from, ltb-true, and_parts}
use Rattle.std.specs.Bool.{then_some}
use Rattle.std.specs.Str.Parse.{AllDigits, digits_value}
use Rattle.std.specs.Char.{digit_value}
use Rattle.notation.specs.Digits.{are_digits, read_digits}

pub are_digits_true : (radix : ℕ) (text : List ℕ) → AllDigits radix text → are_digits radix text ≡ true
are_digits_true radix [] h = refl
are_digits_true radix (c ∷ cs) h = and_from _ _ (lt-ltb _ _ h.0) (are_digits_true radix cs h.1)

pub digits_from : (radix : ℕ) (text : List ℕ) → are_digits radix text ≡ true → AllDigits radix text
digits_from radix [] h = tt
digits_from radix (c ∷ cs) h = let p = and_parts _ _ h in (ltb-true _ _ p.0, digits_from radix cs p.1)

are_digits_false : (radix : ℕ) (text : List ℕ) (i : ℕ) → i < length text → radix ≤ digit_value (get_or text i 0) → are_digits radix text ≡ false
are_digits_false radix [] i h k = absurd (omega arith)
are_digits_false radix (c ∷ cs) zero h k = and_left _ _ (le-ltb _ _ k)
are_digits_false radix (c ∷ cs) (suc i) h k = and_right _ _ (are_digits_false radix cs i (omega arith) k)

when_true_false : {A : Type 0} (b : Bool) (x : A) → b ≡ false → then_some b x ≡ None
when_true_false b x h = ap (λ t. then_some t x) h

when_true_true : {A : Type 0} (b : Bool) (x : A) → b ≡ true → then_some b x ≡ Some x
when_true_true b x h = ap (λ t. then_some t x) h

refused : (radix limit : ℕ) (text : List ℕ) → (are_digits radix text && leb (digits_value radix text) limit) ≡ false → read_digits radix limit text ≡ None
refused radix limit text h = when_true_false _ (digits_value radix text) (and_right (ltb 0 (length text)) _ h)

pub refused_no_digit : (radix limit : ℕ) (text : List ℕ) (i : ℕ) → i < length text → radix ≤ digit_value (get_or text i 0) → read_digits radix limit text ≡ None
refused_no_digit radix limit text i h k = refused radix limit text (and_left _ _ (are_digits_false radix text i h k))

pub refused_large : (radix limit : ℕ) (text : List ℕ) → limit < digits_value radix text → read_digits radix limit text ≡ None
refused_large radix limit text h = refused radix limit text (and_right (are_digits radix text) _ (lt-leb _ _ h))

pub accepted : (radix limit : ℕ) (text : List ℕ) → 0 < length text → AllDigits radix text → digits_value radix text ≤ limit → read_digits radix limit text ≡ Some (digits_value radix text)
accepted radix limit text h k m = when_true_true _ (digits_value radix text) (and_from _ _ (lt-ltb _ _ h) (and_from _ _ (are_digits_true radix text k) (le-leb _ _ m)))

-- one digit more, read as a turn of the loop does
pub value_step : (radix : ℕ) (text : List ℕ) (i v d k : ℕ) → i < length text → v ≡ digits_value radix (take i text) → d ≡ digit_value (get_or text i 0) → k ≡ radix → v * k + d ≡ digits_value radix (take (i + 1) text)
value_step radix text i v d k h e f g = (λ j. e j * g j + f j) ∙ sym (digits_value_more radix text i h)
