-- The groups of an IPv6 address: eight numbers of 16 bits, the most significant first.
use Rattle.std.specs.Prelude.{ℕ, ◌+◌, ◌/◌, ◌%◌, ◌^◌, Bool, if◌then◌else◌, List, [], ◌∷◌, ◌++◌, length, None, Option, ◌==◌, nat_le}
use Rattle.std.specs.Option.{option_map, option_or}
use Rattle.std.specs.Bool.{then_some}
use Rattle.std.specs.Int.Digits.{number_from_digits_after}
use Rattle.notation.specs.Chain.{and_then}
use Rattle.notation.specs.Digits.{read_digits}
use Rattle.notation.specs.Ipv4.{read4}

-- the code of `:`
abbrev pub colon : ℕ
colon = 58

-- one to four hexadecimal digits, in either case
abbrev pub read_group : List ℕ → Option ℕ
read_group text = if nat_le (length text) 4 then read_digits 16 65535 text else None

-- the last piece is a group or, where the mixed form may stand, two groups in dotted form
abbrev pub read_last : Bool → List ℕ → Option (List ℕ)
read_last mixed piece = option_or (option_map (λ g. g ∷ []) (read_group piece))
    (if mixed then option_map (λ a. a / 2 ^ 16 ∷ a % 2 ^ 16 ∷ []) (read4 piece) else None)

-- the groups of a text, with colons between them, of which `piece` has begun the first
abbrev pub read_after : Bool → List ℕ → List ℕ → Option (List ℕ)
read_after mixed piece [] = read_last mixed piece
read_after mixed piece (c ∷ cs) = if c == colon
    then and_then (read_group piece) (λ g. option_map (λ gs. g ∷ gs) (read_after mixed [] cs))
    else read_after mixed (piece ++ (c ∷ [])) cs

abbrev pub read_groups : Bool → List ℕ → Option (List ℕ)
read_groups mixed text = read_after mixed [] text

-- groups that are given by how many they are and what they write, with more after them: the same of all of them, if they are at most eight
abbrev pub total : ℕ × ℕ → List ℕ → Option (ℕ × ℕ)
total begun groups = then_some (nat_le (begun.0 + length groups) 8) (begun.0 + length groups, number_from_digits_after (2 ^ 16) begun.1 groups)
