-- What a line asks for: ADDRESS/LENGTH TREAD SLOT HOP. Assumes nothing.
use Rattle.std.specs.Prelude.{ℕ, List, [], ◌∷◌, Option}
use Rattle.std.specs.Option.{option_map}
use Rattle.family.specs.declared.ipv4.Ipv4Address.{Ipv4Address}
use Rattle.notation.specs.Chain.{and_then}
use Rattle.notation.specs.Cut.{cut}
use Rattle.notation.specs.Decimal.{read_decimal}
use Rattle.lines.specs.Prefixes.{read_prefix}
use Rattle.placement.specs.declared.placing.Placing.{Placing}

-- a decimal number from 0 to 65,535
abbrev pub read_number : List ℕ → Option ℕ
read_number text = read_decimal 65535 text

-- the number before the first space, and the text after that space
abbrev pub read_number_and_space : List ℕ → Option (ℕ × List ℕ)
read_number_and_space text = and_then (cut (32 ∷ []) text) (λ parts. option_map (λ n. (n, parts.1)) (read_number parts.0))

abbrev pub read_placing : List ℕ → Option (Placing Ipv4Address)
read_placing line =
    and_then (cut (32 ∷ []) line) (λ parts. and_then (read_prefix 32 parts.0) (λ p.
    and_then (read_number_and_space parts.1) (λ l. and_then (read_number_and_space l.1) (λ s.
    option_map (λ h. record { address = record { 0 = p.0 }; length = p.1; tread = l.0; slot = s.0; hop = h }) (read_number s.1)))))
