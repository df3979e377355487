-- Colonies, digests and admission, over a width W and a generator g, and what it means that admission is exact.
-- A tread is a prefix length at which a route may stand: it then stands in the bucket of its prefix cut to that length.
-- Assumes nothing.
use Rattle.std.specs.Prelude.{◌≡◌, ℕ, ◌+◌, ◌-◌, ◌*◌, ◌^◌, Bool, true, false, ◌&&◌, ◌||◌, ◌≢◌, bit_xor, nat_le}
use Rattle.gf2.specs.Division.{quotient_of, remainder_of}
use Rattle.gf2.specs.declared.generator.Generator.{Generator}
use Rattle.layout.specs.Addresses.{rounded, IsPrefix}

-- the colony of P under the tread l: the bucket whose number is the remainder of P rounded to l
abbrev pub colony : ℕ → Generator → ℕ → ℕ → ℕ
colony W g P l = remainder_of g (rounded W l P)

-- the digest of P under the tread l, which an entry in that bucket holds: quotient and remainder of P, and the colony
abbrev pub digest : ℕ → Generator → ℕ → ℕ → ℕ
digest W g P l = bit_xor (bit_xor (quotient_of g P) (remainder_of g P)) (colony W g P l)

-- the tread is near the end of the address, or the length far from it, or the two are near each other
abbrev pub keeps_apart : ℕ → Generator → ℕ → ℕ → Bool
keeps_apart W g w l = (nat_le (W - l) g.degree || nat_le (g.degree + g.lowest) (W - w)) || nat_le (w - l) (g.degree - g.lowest)

-- the length w is admitted at the tread l
abbrev pub admitted : ℕ → Generator → ℕ → ℕ → Bool
admitted W g w l = nat_le l w && keeps_apart W g w l

-- P and Q leave one digest in one bucket under l
pub record Alike (W : ℕ) (g : Generator) (l P Q : ℕ) : Type 0 where
  pub colonies : colony W g P l ≡ colony W g Q l
  pub digests : digest W g P l ≡ digest W g Q l

-- no two prefixes of length w are confused under l
abbrev pub ToldApart : ℕ → Generator → ℕ → ℕ → Type 0
ToldApart W g w l = (P Q : ℕ) → IsPrefix W P w → IsPrefix W Q w → Alike W g l P Q → P ≡ Q

-- Q is another prefix of length w that is confused with P under l
pub record Confused (W : ℕ) (g : Generator) (w l P Q : ℕ) : Type 0 where
  pub prefix : IsPrefix W Q w
  pub other : P ≢ Q
  pub alike : Alike W g l P Q

-- two prefixes of length w that are confused under l
pub record Clash (W : ℕ) (g : Generator) (w l : ℕ) : Type 0 where
  pub one : ℕ
  pub two : ℕ
  pub first : IsPrefix W one w
  pub second : Confused W g w l one two

-- different prefixes of length w with one colony and one digest under l exist exactly where w is not admitted at l
pub record Exact (W : ℕ) (g : Generator) (w l : ℕ) : Type 0 where
  pub apart : admitted W g w l ≡ true → ToldApart W g w l
  pub clash : admitted W g w l ≡ false → Clash W g w l

-- the prefix of length w that is confused with P where w is not admitted: P plus the shortest multiple of
-- x^(W - w) among the multiples of g + 1 by a power of x
abbrev pub confused_with : ℕ → Generator → ℕ → ℕ → ℕ
confused_with W g w P = bit_xor P (bit_xor g.poly 1 * 2 ^ (W - w - g.lowest))
