-- IPv4 addresses in dotted form.
use Rattle.std.specs.Prelude.{ℕ, ◌+◌, ◌*◌, ◌/◌, ◌%◌, ◌^◌, List, [], ◌∷◌, ◌++◌, decimal, Option}
use Rattle.std.specs.Option.{option_map}
use Rattle.notation.specs.Chain.{and_then}
use Rattle.notation.specs.Cut.{cut}
use Rattle.notation.specs.Decimal.{read_decimal}

-- the code of `.`
abbrev pub dot : ℕ
dot = 46

-- the four octets in decimal, the most significant first, with dots between
abbrev pub dotted : ℕ → List ℕ
dotted a = decimal (a / 2 ^ 24 % 2 ^ 8) ++ (dot ∷ (decimal (a / 2 ^ 16 % 2 ^ 8) ++ (dot ∷ (decimal (a / 2 ^ 8 % 2 ^ 8) ++ (dot ∷ decimal (a % 2 ^ 8))))))

abbrev pub read_octet : List ℕ → Option ℕ
read_octet text = read_decimal 255 text

-- the octet before the first dot, and the text after that dot
abbrev pub read_octet_and_dot : List ℕ → Option (ℕ × List ℕ)
read_octet_and_dot text = and_then (cut (dot ∷ []) text) (λ parts. option_map (λ n. (n, parts.1)) (read_octet parts.0))

-- the address that a text writes in dotted form
abbrev pub read4 : List ℕ → Option ℕ
read4 text =
    and_then (read_octet_and_dot text) (λ a. and_then (read_octet_and_dot a.1) (λ b. and_then (read_octet_and_dot b.1) (λ c.
    option_map (λ d. a.0 * 2 ^ 24 + b.0 * 2 ^ 16 + c.0 * 2 ^ 8 + d) (read_octet c.1))))
