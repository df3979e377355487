-- One turn of long division, from the coefficients above x^j to those from x^j on. Assumes nothing.
use Rattle.std.proofs.Common.{◌≡◌, ℕ, suc, ◌+◌, ◌-◌, ◌*◌, ◌/◌, ◌%◌, ◌^◌, ◌<◌, ◌≤◌, sym, ap, ◌∙◌, ap₂, mul-le-mul_right, div-lt_iff_lt-mul, add-one, arith, pow_pos, pow_mono, shr-shr}
use native.Mathlib.Nat.{div-eq_of_lt}
use lib.Bits.{bit_xor}
use lib.Pow.{shr_le}
use Rattle.gf2.specs.Division.{quotient_of, remainder_of}
use Rattle.gf2.specs.declared.generator.Generator.{Generator}
use Rattle.gf2.proofs.Products.{degree_lt}
use Rattle.gf2.proofs.Quotients.{divides, quotient_lt, quotient_step, remainder_step, quotient_zero, remainder_zero}

shr_half : (p j : ℕ) → p / 2 ^ suc j ≡ p / 2 ^ j / 2
shr_half p j = ap (λ m. p / 2 ^ m) (sym (add-one j)) ∙ sym (shr-shr p j 1)

pub remainder_small : (g : Generator) (p : ℕ) → remainder_of g p < 2 ^ 16
remainder_small g p = omega (arith, (divides g p).bound, pow_mono {i = g.degree} {j = 16} g.most)

-- nothing above the highest coefficient
pub none_above : (g : Generator) (p k : ℕ) → p < 2 ^ k → (0 ≡ quotient_of g (p / 2 ^ k)) × (0 ≡ remainder_of g (p / 2 ^ k))
none_above g p k h =
    let none : p / 2 ^ k ≡ 0 = div-eq_of_lt h in
    (sym (ap (quotient_of g) none ∙ quotient_zero g), sym (ap (remainder_of g) none ∙ remainder_zero g))

-- `next` is the remainder with the coefficient of x^j brought down
pub record Turn (g : Generator) (p j q next : ℕ) : Type 0 where
  pub next_small : next < 2 ^ 17
  pub digit : next / 2 ^ g.degree < 2
  pub quotient_fits : q * 2 + next / 2 ^ g.degree < 2 ^ 128
  pub product_small : next / 2 ^ g.degree * g.poly < 2 ^ 18
  pub quotient : q * 2 + next / 2 ^ g.degree ≡ quotient_of g (p / 2 ^ j)
  pub remainder : bit_xor next (next / 2 ^ g.degree * g.poly) ≡ remainder_of g (p / 2 ^ j)

turn_at : (g : Generator) (p j q r : ℕ) → p < 2 ^ 128 → q ≡ quotient_of g (p / 2 ^ suc j) → r ≡ remainder_of g (p / 2 ^ suc j)
    → Turn g p j q (r * 2 + p / 2 ^ j % 2)
turn_at g p j q r h eq er = record {
  next_small = omega (arith, r_small);
  digit = digit;
  quotient_fits = omega (arith, digit, q_small);
  product_small = omega (arith, mul-le-mul_right {m = next / 2 ^ g.degree} {n = 1} g.poly (omega (arith, digit)), poly_small);
  quotient = ap₂ (λ a b. a * 2 + (b * 2 + p / 2 ^ j % 2) / 2 ^ g.degree) q_half r_half ∙ sym (quotient_step g (p / 2 ^ j));
  remainder = ap (λ b. let x = b * 2 + p / 2 ^ j % 2 in bit_xor x (x / 2 ^ g.degree * g.poly)) r_half ∙ sym (remainder_step g (p / 2 ^ j));
}
  where
    q_half : q ≡ quotient_of g (p / 2 ^ j / 2)
    q_half = eq ∙ ap (quotient_of g) (shr_half p j)

    r_half : r ≡ remainder_of g (p / 2 ^ j / 2)
    r_half = er ∙ ap (remainder_of g) (shr_half p j)

    next : ℕ
    next = r * 2 + p / 2 ^ j % 2

    r_bound : r < 2 ^ g.degree
    r_bound = rw er (divides g (p / 2 ^ suc j)).bound

    r_small : r < 2 ^ 16
    r_small = rw er (remainder_small g (p / 2 ^ suc j))

    digit : (r * 2 + p / 2 ^ j % 2) / 2 ^ g.degree < 2
    digit = (div-lt_iff_lt-mul (pow_pos g.degree)).1 (omega (arith, r_bound))

    half_small : p / 2 ^ j / 2 < 2 ^ 127
    half_small = omega (arith, shr_le p j)

    q_small : q < 2 ^ 127
    q_small = rw q_half (quotient_lt g 127 (p / 2 ^ j / 2) (omega (arith, half_small, pow_mono {i = 127} {j = 127 + g.degree} (omega arith))))

    poly_small : g.poly < 2 ^ 17
    poly_small = omega (arith, degree_lt g.poly g.degree g.leads, pow_mono {i = suc g.degree} {j = 17} (omega (arith, g.most)))

-- from the coefficients above x^k, k above 0, to those from x^(k - 1) on
pub turn : (g : Generator) (p bits k q r : ℕ) → p < 2 ^ bits → bits ≤ 128 → 0 < k
    → (q ≡ quotient_of g (p / 2 ^ k)) × (r ≡ remainder_of g (p / 2 ^ k)) → Turn g p (k - 1) q (r * 2 + p / 2 ^ (k - 1) % 2)
turn g p bits k q r h few pos inv =
    let next : k ≡ suc (k - 1) = omega arith in
    turn_at g p (k - 1) q r (omega (arith, pow_mono few)) (inv.0 ∙ ap (λ m. quotient_of g (p / 2 ^ m)) next) (inv.1 ∙ ap (λ m. remainder_of g (p / 2 ^ m)) next)
