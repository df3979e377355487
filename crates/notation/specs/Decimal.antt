-- Decimal numbers without leading zeros.
use Rattle.std.specs.Prelude.{ℕ, Bool, if◌then◌else◌, ◌&&◌, List, length, None, Option, ◌==◌, nat_lt, slice_index}
use Rattle.notation.specs.Digits.{read_digits}

-- a zero with more after it
abbrev pub leading_zero : List ℕ → Bool
leading_zero text = slice_index text 0 == 48 && nat_lt 1 (length text)

-- the number that digits without a leading zero write, if it is at most `limit`
abbrev pub read_decimal : ℕ → List ℕ → Option ℕ
read_decimal limit text = if leading_zero text then None else read_digits 10 limit text
