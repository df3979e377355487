-- What holds in an address family of W bits, whose addresses are numbers and are cleared after a length.
-- Assumes nothing.
use Rattle.std.specs.Prelude.{◌≡◌, ℕ, min}
use Rattle.gf2.specs.Division.{Divides, quotient_of, remainder_of}
use Rattle.gf2.specs.declared.generator.Generator.{Generator}
use Rattle.layout.specs.Addresses.{IsWidth, rounded}

pub record Laws {X : Type 0} (W : ℕ) (number : X → ℕ) (cleared : X → ℕ → X) : Type 0 where
  pub width : IsWidth W
  pub rounds : (x : X) (l : ℕ) → number (cleared x l) ≡ rounded W l (number x)
  -- rounding to a and then to b is rounding to the smaller of the two
  pub smaller : (x : X) (a b : ℕ) → cleared (cleared x a) b ≡ cleared x (min a b)
  -- equal bits are equal addresses
  pub equal : (x y : X) → number x ≡ number y → x ≡ y
  -- quotient times generator plus remainder is the address
  pub identity : (g : Generator) (x : X) → Divides g (number x) (quotient_of g (number x)) (remainder_of g (number x))
