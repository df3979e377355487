-- How a prefix is written: an address and a length. Assumes nothing.
use Rattle.std.specs.Prelude.{ℕ, if◌then◌else◌, List, [], ◌∷◌, None, Option, ◌==◌, option_and_then}
use Rattle.std.specs.Option.{option_map}
use Rattle.notation.specs.Cut.{cut}
use Rattle.notation.specs.Decimal.{read_decimal}
use Rattle.notation.specs.Ipv4.{read4}
use Rattle.notation.specs.Ipv6.{read6}

-- an address of W bits: in dotted form where they are 32, in the forms of IPv6 where they are 128
abbrev pub read_address : ℕ → List ℕ → Option ℕ
read_address W text = if W == 32 then read4 text else if W == 128 then read6 text else None

-- ADDRESS/LENGTH, cut at the first `/`; a length is a decimal number up to 65,535
abbrev pub read_prefix : ℕ → List ℕ → Option (ℕ × ℕ)
read_prefix W text =
    option_and_then (λ parts. option_and_then (λ a. option_map (λ w. (a, w)) (read_decimal 65535 parts.1)) (read_address W parts.0)) (cut (47 ∷ []) text)
