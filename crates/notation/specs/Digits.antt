-- Numbers written in digits of a radix.
use Rattle.std.specs.Prelude.{ℕ, Bool, true, ◌&&◌, List, [], ◌∷◌, length, Option, nat_le, nat_lt}
use Rattle.std.specs.Bool.{then_some}
use Rattle.std.specs.Str.Parse.{digits_value}
use Rattle.std.specs.Char.{digit_value}

abbrev pub are_digits : ℕ → List ℕ → Bool
are_digits radix [] = true
are_digits radix (c ∷ cs) = nat_lt (digit_value c) radix && are_digits radix cs

-- the number that one digit or more write, if it is at most `limit`
abbrev pub read_digits : ℕ → ℕ → List ℕ → Option ℕ
read_digits radix limit text = then_some (nat_lt 0 (length text) && (are_digits radix text && nat_le (digits_value radix text) limit)) (digits_value radix text)
