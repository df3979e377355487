-- Division by a generator. Assumes nothing.
use Rattle.std.specs.Prelude.{◌≡◌, ℕ, ◌+◌, ◌*◌, ◌/◌, ◌%◌, ◌^◌, ◌<◌, bit_xor}
use Rattle.gf2.specs.Binary.{by_bits}
use Rattle.gf2.specs.Poly.{times}
use Rattle.gf2.specs.declared.generator.Generator.{Generator}

-- p = q · g + r, with r of degree below that of g
pub record Divides (g : Generator) (p q r : ℕ) : Type 0 where
  pub identity : p ≡ bit_xor (times q g.poly) r
  pub bound : r < 2 ^ g.degree

-- long division: the coefficients of p are brought down from the highest on, and g is taken away
-- wherever its degree is reached
unfoldable pub remainder_of : Generator → ℕ → ℕ
unfolding by_bits
remainder_of g p = by_bits 0 (λ n rest. let x = rest * 2 + n % 2 in bit_xor x (x / 2 ^ g.degree * g.poly)) p

-- a coefficient is 1 where g was taken away
unfoldable pub quotient_of : Generator → ℕ → ℕ
unfolding by_bits
quotient_of g p = by_bits 0 (λ n rest. rest * 2 + (remainder_of g (n / 2) * 2 + n % 2) / 2 ^ g.degree) p

-- there is no other pair
abbrev pub OnlyPair : Generator → ℕ → ℕ → ℕ → Type 0
OnlyPair g p q r = (q' r' : ℕ) → Divides g p q' r' → (q' ≡ q) × (r' ≡ r)

-- division respects addition
pub record Additive (g : Generator) : Type 0 where
  pub quotients : (a b : ℕ) → quotient_of g (bit_xor a b) ≡ bit_xor (quotient_of g a) (quotient_of g b)
  pub remainders : (a b : ℕ) → remainder_of g (bit_xor a b) ≡ bit_xor (remainder_of g a) (remainder_of g b)
