-- The text forms of IPv6 addresses: what is read (RFC 4291, section 2.2).
use Rattle.std.specs.Prelude.{ℕ, ◌+◌, ◌-◌, ◌^◌, Bool, true, false, List, [], ◌∷◌, ◌++◌, length, replicate, Some, None, Option, ◌==◌, nat_le}
use Rattle.std.specs.Bool.{then_some}
use Rattle.std.specs.Int.Digits.{number_from_digits}
use Rattle.notation.specs.Chain.{and_then}
use Rattle.notation.specs.Cut.{cut}
use Rattle.notation.specs.Groups.{colon, read_groups}

-- eight groups write an address
abbrev pub whole : List ℕ → Option ℕ
whole groups = then_some (length groups == 8) (number_from_digits (2 ^ 16) groups)

-- `::` between groups stands for the zeros that are missing, one group or more
abbrev pub around : List ℕ → List ℕ → Option ℕ
around left right = then_some (nat_le (length left + length right) 7) (number_from_digits (2 ^ 16) (left ++ (replicate (8 - (length left + length right)) 0 ++ right)))

-- the groups on one side of `::`, where there may be none
abbrev pub read_side : Bool → List ℕ → Option (List ℕ)
read_side mixed [] = Some []
read_side mixed (c ∷ cs) = read_groups mixed (c ∷ cs)

abbrev pub read_whole : List ℕ → Option ℕ
read_whole text = and_then (read_groups true text) whole

abbrev pub read_shortened : List ℕ × List ℕ → Option ℕ
read_shortened sides = and_then (read_side false sides.0) (λ left. and_then (read_side true sides.1) (λ right. around left right))

-- a text without `::`, or the two sides of the first `::`
abbrev pub read_sides : List ℕ → Option (List ℕ × List ℕ) → Option ℕ
read_sides text None = read_whole text
read_sides text (Some sides) = read_shortened sides

-- the address that a text writes
abbrev pub read6 : List ℕ → Option ℕ
read6 text = read_sides text (cut (colon ∷ colon ∷ []) text)
