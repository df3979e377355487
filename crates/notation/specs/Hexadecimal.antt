-- Numbers in hexadecimal.
use Rattle.std.specs.Prelude.{ℕ, if◌then◌else◌, List, [], ◌∷◌, map, ◌==◌}
use Rattle.std.specs.Int.Digits.{digits_of}
use Rattle.std.specs.Char.{digit_char}

-- digits in lower case without leading zeros
abbrev pub hex : ℕ → List ℕ
hex n = if n == 0 then 48 ∷ [] else map digit_char (digits_of 16 n)
