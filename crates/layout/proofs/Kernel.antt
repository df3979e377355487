-- What a sum of two confused prefixes is: the polynomials with colony 0 and equal quotient and remainder. Assumes nothing.
use Rattle.std.proofs.Common.{◌≡◌, ℕ, zero, suc, ◌+◌, ◌-◌, ◌*◌, ◌/◌, ◌%◌, ◌^◌, ◌<◌, ◌≤◌, sym, refl, ap, ◌∙◌, mod-lt, arith, pow_pos, pow_mono}
use native.Mathlib.Nat.{mod-one, mul-mod_left, zero-div}
use native.Mathlib.Decide.{dec_le}
use lib.Bits.{bit_xor, xor_lt, xor_zero_r, xor_comm, xor_shifted}
use lib.Pow.{split, shl-shr, mod-pow-add}
use Rattle.gf2.specs.Poly.{times, Degree}
use Rattle.gf2.specs.Division.{quotient_of, remainder_of}
use Rattle.gf2.specs.declared.generator.Generator.{Generator}
use Rattle.gf2.proofs.Digits.{xor_cancel}
use Rattle.gf2.proofs.Products.{times_zero, times_sum_right, times_by_one, times_shl, degree_times, degree_ge, degree_lt, has_degree, divides_out}
use Rattle.gf2.proofs.Quotients.{divides, pair, additive, quotient_lt, pow_below}
use Rattle.gf2.proofs.Exponents.{constant, plus_one, plus_one_degree}
use Rattle.layout.proofs.Rounding.{multiple_below}

module _ (g : Generator) where
  -- E divided with equal quotient and remainder q is q · (g + 1)
  doubled : (E : ℕ) → quotient_of g E ≡ remainder_of g E → E ≡ times (quotient_of g E) (bit_xor g.poly 1)
  doubled E e =
      (divides g E).identity
      ∙ ap (bit_xor (times (quotient_of g E) g.poly)) (sym e ∙ sym (times_by_one (quotient_of g E)))
      ∙ sym (times_sum_right (quotient_of g E) g.poly 1)

  quotient_small : (E : ℕ) → quotient_of g E ≡ remainder_of g E → quotient_of g E < 2 ^ g.degree
  quotient_small E e = rw e (divides g E).bound

  -- it has the factor x^lowest, so a power of x that divides it divides q but for x^lowest
  factor : (E a : ℕ) → quotient_of g E ≡ remainder_of g E → E % 2 ^ a ≡ 0 → quotient_of g E % 2 ^ (a - g.lowest) ≡ 0
  factor E a e h = elim (dec_le a g.lowest) [
    | yes le ↦ let none : a - g.lowest ≡ 0 = omega arith in ap (λ m. quotient_of g E % 2 ^ m) none ∙ mod-one (quotient_of g E)
    | no more ↦ divides_out (a - g.lowest) (quotient_of g E) (g.poly / 2 ^ g.lowest) g.present (halves (omega arith))
  ]
    where
      product : E / 2 ^ g.lowest ≡ times (quotient_of g E) (g.poly / 2 ^ g.lowest)
      product =
          let q = quotient_of g E in
          let h = g.poly / 2 ^ g.lowest in
          ap (λ x. x / 2 ^ g.lowest) (doubled E e ∙ ap (times q) (plus_one g) ∙ times_shl g.lowest q h) ∙ shl-shr (times q h) g.lowest

      halves : g.lowest < a → times (quotient_of g E) (g.poly / 2 ^ g.lowest) % 2 ^ (a - g.lowest) ≡ 0
      halves more =
          let t = g.lowest in
          let high = E / 2 ^ t % 2 ^ (a - t) in
          let sum : (a - t) + t ≡ a = omega arith in
          let digits : high * 2 ^ t + E % 2 ^ t ≡ 0 = sym (mod-pow-add E (a - t) t) ∙ ap (λ m. E % 2 ^ m) sum ∙ h in
          let shifted : high * 2 ^ t ≡ 0 = omega arith in
          ap (λ x. x % 2 ^ (a - t)) (sym product) ∙ sym (shl-shr high t) ∙ ap (λ x. x / 2 ^ t) shifted ∙ zero-div (2 ^ t)

  -- without a quotient there is nothing
  vanishes : (E : ℕ) → quotient_of g E ≡ remainder_of g E → quotient_of g E ≡ 0 → E ≡ 0
  vanishes E e z = doubled E e ∙ ap (λ q. times q (bit_xor g.poly 1)) z ∙ times_zero (bit_xor g.poly 1)

  -- the part of E that colony and quotient see: a multiple u · g, with x^b in u
  module _ (E b : ℕ) (colony : remainder_of g (E / 2 ^ b * 2 ^ b) ≡ 0) where
    upper : E / 2 ^ b * 2 ^ b ≡ times (quotient_of g (E / 2 ^ b * 2 ^ b)) g.poly
    upper = (divides g (E / 2 ^ b * 2 ^ b)).identity ∙ ap (bit_xor _) colony ∙ xor_zero_r _

    upper_multiple : quotient_of g (E / 2 ^ b * 2 ^ b) % 2 ^ b ≡ 0
    upper_multiple = divides_out b (quotient_of g (E / 2 ^ b * 2 ^ b)) g.poly (constant g) (ap (λ x. x % 2 ^ b) (sym upper) ∙ mul-mod_left (E / 2 ^ b) (2 ^ b))

    parts : E ≡ bit_xor (E / 2 ^ b * 2 ^ b) (E % 2 ^ b)
    parts = sym (split E b) ∙ sym (xor_shifted (E / 2 ^ b) b (E % 2 ^ b) (mod-lt E (pow_pos b)))

  -- the tread is so near the end that the rest is the remainder itself
  pub near : (E b : ℕ) → remainder_of g (E / 2 ^ b * 2 ^ b) ≡ 0 → quotient_of g E ≡ remainder_of g E → b ≤ g.degree → E ≡ 0
  near E b s e h =
      let R = E / 2 ^ b * 2 ^ b in
      let L = E % 2 ^ b in
      let low : L < 2 ^ b = mod-lt E (pow_pos b) in
      let row = pair g E (quotient_of g R) L (record {
        identity = parts E b s ∙ ap (λ x. bit_xor x L) (upper E b s);
        bound = omega (arith, low, pow_mono {i = b} {j = g.degree} h);
      }) in
      vanishes E e (multiple_below b (quotient_of g E)
      (ap (λ x. x % 2 ^ b) row.0 ∙ upper_multiple E b s) (rw (e, row.1) low))

  -- the tread is farther away, and nothing stands above it
  above : (E b : ℕ) → remainder_of g (E / 2 ^ b * 2 ^ b) ≡ 0 → quotient_of g E ≡ remainder_of g E → g.degree < b → E < 2 ^ b
  above E b s e h =
      let R = E / 2 ^ b * 2 ^ b in
      let L = E % 2 ^ b in
      let low : L < 2 ^ b = mod-lt E (pow_pos b) in
      let wide : L < 2 ^ ((b - g.degree) + g.degree) = omega (arith, low, pow_mono {i = b} {j = (b - g.degree) + g.degree} (omega arith)) in
      let rest : quotient_of g L < 2 ^ b = omega (arith, quotient_lt g (b - g.degree) L wide, pow_mono {i = b - g.degree} {j = b} (omega arith)) in
      let all : quotient_of g E < 2 ^ b = omega (arith, quotient_small E e, pow_mono {i = g.degree} {j = b} (omega arith)) in
      let sum : bit_xor (quotient_of g L) (quotient_of g E) ≡ quotient_of g R =
      ap (λ x. bit_xor (quotient_of g L) (quotient_of g x)) (parts E b s)
      ∙ ap (bit_xor (quotient_of g L)) ((additive g).quotients R L ∙ xor_comm (quotient_of g R) (quotient_of g L))
      ∙ xor_cancel (quotient_of g L) (quotient_of g R) in
      let none : quotient_of g R ≡ 0 = multiple_below b (quotient_of g R) (upper_multiple E b s) (rw sum at (xor_lt b (quotient_of g L) (quotient_of g E) rest all)) in
      let empty : R ≡ 0 = upper E b s ∙ ap (λ q. times q g.poly) none ∙ times_zero g.poly in
      omega (arith, split E b, empty, low)

  pub far : (E a b : ℕ) → remainder_of g (E / 2 ^ b * 2 ^ b) ≡ 0 → quotient_of g E ≡ remainder_of g E → E % 2 ^ a ≡ 0
      → g.degree < b → a ≤ b → b - a ≤ g.degree - g.lowest → E ≡ 0
  far E a b s e m h le k = go (quotient_of g E) refl
    where
      go : (q : ℕ) → quotient_of g E ≡ q → E ≡ 0
      go zero z = vanishes E e z
      go (suc q) z =
          let n = has_degree (quotient_of g E) (omega arith) in
          let degree : Degree E (n.0 + g.degree) =
          ap (λ x. x / 2 ^ (n.0 + g.degree)) (doubled E e)
          ∙ degree_times n.0 g.degree (quotient_of g E) (bit_xor g.poly 1) n.1 (plus_one_degree g) in
          let top : n.0 + g.degree < b = pow_below (n.0 + g.degree) b (omega (arith, degree_ge E (n.0 + g.degree) degree, above E b s e h)) in
          let bottom : a - g.lowest < suc n.0 = pow_below (a - g.lowest) (suc n.0) (omega (arith, degree_lt (quotient_of g E) n.0 n.1, least (omega arith))) in
          absurd (omega (arith, g.ordered))
        where
          least : 0 < quotient_of g E → 2 ^ (a - g.lowest) ≤ quotient_of g E
          least pos = elim (dec_le (2 ^ (a - g.lowest)) (quotient_of g E)) [
            | yes l ↦ l
            | no n ↦ absurd (omega (arith, multiple_below (a - g.lowest) (quotient_of g E) (factor E a e m) (omega arith)))
          ]

  pub short : (E a : ℕ) → quotient_of g E ≡ remainder_of g E → E % 2 ^ a ≡ 0 → g.degree + g.lowest ≤ a → E ≡ 0
  short E a e m h =
      vanishes E e (multiple_below (a - g.lowest) (quotient_of g E) (factor E a e m)
      (omega (arith, quotient_small E e, pow_mono {i = g.degree} {j = a - g.lowest} (omega arith))))
