-- Polynomials over GF(2) as numbers: bit k is the coefficient of x^k, and the sum is `bit_xor`. Assumes nothing.
use Rattle.std.specs.Prelude.{◌≡◌, ℕ, ◌+◌, ◌*◌, ◌/◌, ◌%◌, ◌^◌, ◌≤◌, bit_xor}
use Rattle.gf2.specs.Binary.{by_bits}

-- the product q · g: the constant term of q times g, plus x times the product of the other terms
unfoldable pub times : ℕ → ℕ → ℕ
unfolding by_bits
times q g = by_bits 0 (λ n rest. bit_xor (n % 2 * g) (rest * 2)) q

-- what makes it the product of polynomials: it respects sums in both factors, and x^i · x^j = x^(i + j)
pub record IsProduct (product : ℕ → ℕ → ℕ) : Type 0 where
  pub left : (a b c : ℕ) → product (bit_xor a b) c ≡ bit_xor (product a c) (product b c)
  pub right : (a b c : ℕ) → product a (bit_xor b c) ≡ bit_xor (product a b) (product a c)
  pub powers : (i j : ℕ) → product (2 ^ i) (2 ^ j) ≡ 2 ^ (i + j)

-- p has degree n
abbrev pub Degree : ℕ → ℕ → Type 0
Degree p n = p / 2 ^ n ≡ 1

-- n is a generator: a polynomial of degree 4 to 16 with constant term 1
pub record IsGenerator (n : ℕ) : Type 0 where
  pub degree : ℕ
  pub leads : Degree n degree
  pub least : 4 ≤ degree
  pub most : degree ≤ 16
  pub constant : n % 2 ≡ 1
