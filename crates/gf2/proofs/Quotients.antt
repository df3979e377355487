-- Division by a generator: its pair is a division, there is no other, and what follows from that. Assumes nothing.
use Rattle.std.proofs.Common.{◌≡◌, ℕ, zero, suc, ◌+◌, ◌*◌, ◌/◌, ◌%◌, ◌^◌, ◌<◌, sym, refl, ap, ◌∙◌, ap₂, div-lt_iff_lt-mul, one-mul, pow-suc, div-add-mod', zero-mul, arith, pow_pos, pow_mono}
use native.Mathlib.Nat.{div-eq_of_lt, zero-div}
use native.Mathlib.Decide.{dec_lt}
use lib.Arith.{bin_ind}
use lib.Bits.{bit_xor, xor_shr, xor_assoc, xor_comm, xor_zero_r, xor_lt, xor_self, xor_shifted}
use Rattle.gf2.specs.Binary.{by_bits, by_bits_in}
use Rattle.gf2.specs.Poly.{times, Degree}
use Rattle.gf2.specs.Division.{Divides, remainder_of, quotient_of, OnlyPair, Additive}
use Rattle.gf2.specs.declared.generator.Generator.{Generator}
use Rattle.gf2.proofs.Digits.{by_bits_step, xor_swap, xor_shl, xor_zero, xor_cross}
use Rattle.gf2.proofs.Products.{times_step, times_zero, times_sum, has_degree, degree_times, degree_ge, degree_lt, degree_by, below_of_shr}

-- one more coefficient of p brought down to the remainder of the others
abbrev brought : Generator → ℕ → ℕ
brought g p = remainder_of g (p / 2) * 2 + p % 2

pub remainder_zero : (g : Generator) → remainder_of g 0 ≡ 0
unfolding remainder_of by_bits by_bits_in
remainder_zero g = refl

pub quotient_zero : (g : Generator) → quotient_of g 0 ≡ 0
unfolding quotient_of by_bits by_bits_in
quotient_zero g = refl

pub remainder_step : (g : Generator) (p : ℕ) → remainder_of g p ≡ bit_xor (brought g p) (brought g p / 2 ^ g.degree * g.poly)
unfolding remainder_of
remainder_step g p =
    by_bits_step 0 (λ n rest. let x = rest * 2 + n % 2 in bit_xor x (x / 2 ^ g.degree * g.poly))
    (ap (λ x. x * g.poly) (zero-div (2 ^ g.degree)) ∙ zero-mul g.poly) p

pub quotient_step : (g : Generator) (p : ℕ) → quotient_of g p ≡ quotient_of g (p / 2) * 2 + brought g p / 2 ^ g.degree
unfolding quotient_of
quotient_step g p =
    by_bits_step 0 (λ n rest. rest * 2 + (remainder_of g (n / 2) * 2 + n % 2) / 2 ^ g.degree)
    (ap (λ x. 0 + (x * 2 + 0) / 2 ^ g.degree) (remainder_zero g) ∙ ap (λ x. 0 + x) (zero-div (2 ^ g.degree))) p

times_digit : (q c g : ℕ) → c < 2 → times (q * 2 + c) g ≡ bit_xor (c * g) (times q g * 2)
times_digit q c g h =
    let low : (q * 2 + c) % 2 ≡ c = omega arith in
    let high : (q * 2 + c) / 2 ≡ q = omega arith in
    times_step (q * 2 + c) g ∙ ap₂ (λ x y. bit_xor (x * g) (times y g * 2)) low high

-- g is taken away where its degree is reached, and degree below it is left
taken_lt : (d g x : ℕ) → Degree g d → x < 2 ^ suc d → bit_xor x (x / 2 ^ d * g) < 2 ^ d
taken_lt d g x lead h = elim (dec_lt x (2 ^ d)) [
  | yes low ↦
      let none : bit_xor x (x / 2 ^ d * g) ≡ x = ap (λ c. bit_xor x (c * g)) (div-eq_of_lt low) ∙ ap (bit_xor x) (zero-mul g) ∙ xor_zero_r x in
      rw none low
  | no high ↦
      let top : x / 2 ^ d ≡ 1 = degree_by x d (omega arith) h in
      let gone : bit_xor x (x / 2 ^ d * g) / 2 ^ d ≡ 0 =
      ap (λ c. bit_xor x (c * g) / 2 ^ d) top ∙ xor_shr x (1 * g) d ∙ ap₂ bit_xor top (ap (λ y. y / 2 ^ d) (one-mul g) ∙ lead) in
      below_of_shr (bit_xor x (x / 2 ^ d * g)) d gone
]

-- one row of the division
row : (g : Generator) (p q r : ℕ) → Divides g (p / 2) q r
    → Divides g p (q * 2 + (r * 2 + p % 2) / 2 ^ g.degree) (bit_xor (r * 2 + p % 2) ((r * 2 + p % 2) / 2 ^ g.degree * g.poly))
row g p q r h = record { identity = identity; bound = taken_lt g.degree g.poly next g.leads next_lt }
  where
    next : ℕ
    next = r * 2 + p % 2

    next_lt : r * 2 + p % 2 < 2 ^ suc g.degree
    next_lt = omega (arith, pow-suc 2 g.degree, h.bound)

    digit : (r * 2 + p % 2) / 2 ^ g.degree < 2
    digit = (div-lt_iff_lt-mul (pow_pos g.degree)).1 (omega (arith, next_lt, pow-suc 2 g.degree))

    whole : bit_xor (times q g.poly * 2) (r * 2 + p % 2) ≡ p
    whole =
        ap (bit_xor (times q g.poly * 2)) (sym (xor_shifted r 1 (p % 2) (omega arith)))
        ∙ sym (xor_assoc (times q g.poly * 2) (r * 2) (p % 2))
        ∙ ap (λ x. bit_xor x (p % 2)) (sym (xor_shl 1 (times q g.poly) r) ∙ ap (λ x. x * 2) (sym h.identity))
        ∙ xor_shifted (p / 2) 1 (p % 2) (omega arith)
        ∙ div-add-mod' p 2

    identity : p ≡ bit_xor (times (q * 2 + (r * 2 + p % 2) / 2 ^ g.degree) g.poly) (bit_xor (r * 2 + p % 2) ((r * 2 + p % 2) / 2 ^ g.degree * g.poly))
    identity =
        let c = (r * 2 + p % 2) / 2 ^ g.degree in
        let t = times q g.poly * 2 in
        let x = r * 2 + p % 2 in
        sym (
        ap₂ bit_xor (times_digit q c g.poly digit) (xor_comm x (c * g.poly))
        ∙ xor_swap (c * g.poly) t (c * g.poly) x
        ∙ ap (λ y. bit_xor y (bit_xor t x)) (xor_self (c * g.poly))
        ∙ whole)

pub divides : (g : Generator) (p : ℕ) → Divides g p (quotient_of g p) (remainder_of g p)
divides g = bin_ind (λ p. Divides g p (quotient_of g p) (remainder_of g p)) (rw (quotient_zero g, remainder_zero g) (record { identity = sym (ap (λ x. bit_xor x 0) (times_zero g.poly)); bound = pow_pos g.degree }))
    (λ p ih. rw (quotient_step g p, remainder_step g p) (row g p (quotient_of g (p / 2)) (remainder_of g (p / 2)) ih))

-- only 0 has a multiple of degree below that of g
vanishes : (g : Generator) (e : ℕ) → times e g.poly < 2 ^ g.degree → e ≡ 0
vanishes g zero h = refl
vanishes g (suc e) h =
    let n = has_degree (suc e) (omega arith) in
    let top = degree_ge (times (suc e) g.poly) (n.0 + g.degree) (degree_times n.0 g.degree (suc e) g.poly n.1 g.leads) in
    absurd (omega (arith, pow_mono {i = g.degree} {j = n.0 + g.degree} (omega arith)))

pub only : (g : Generator) (p q r : ℕ) → Divides g p q r → OnlyPair g p q r
only g p q r h q' r' k = (same_q, xor_zero r' r (sym sums ∙ ap (λ x. bit_xor (times x g.poly) (times q g.poly)) same_q ∙ xor_self (times q g.poly)))
  where
    sums : bit_xor (times q' g.poly) (times q g.poly) ≡ bit_xor r' r
    sums = xor_cross (times q' g.poly) r' (times q g.poly) r (sym k.identity ∙ h.identity)

    same_q : q' ≡ q
    same_q = xor_zero q' q (vanishes g (bit_xor q' q) (rw (times_sum q' q g.poly, sums) (xor_lt g.degree r' r k.bound h.bound)))

pub pair : (g : Generator) (p q r : ℕ) → Divides g p q r → (quotient_of g p ≡ q) × (remainder_of g p ≡ r)
pair g p q r h = only g p q r h (quotient_of g p) (remainder_of g p) (divides g p)

sum_divides : (g : Generator) (a b : ℕ)
    → Divides g (bit_xor a b) (bit_xor (quotient_of g a) (quotient_of g b)) (bit_xor (remainder_of g a) (remainder_of g b))
sum_divides g a b =
    let da = divides g a in
    let db = divides g b in
    record {
      identity =
          ap₂ bit_xor da.identity db.identity
          ∙ xor_swap (times (quotient_of g a) g.poly) (remainder_of g a) (times (quotient_of g b) g.poly) (remainder_of g b)
          ∙ ap (λ x. bit_xor x (bit_xor (remainder_of g a) (remainder_of g b))) (sym (times_sum (quotient_of g a) (quotient_of g b) g.poly));
      bound = xor_lt g.degree (remainder_of g a) (remainder_of g b) da.bound db.bound;
    }

pub additive : (g : Generator) → Additive g
additive g = record {
  quotients = λ a b. (pair g (bit_xor a b) _ _ (sum_divides g a b)).0;
  remainders = λ a b. (pair g (bit_xor a b) _ _ (sum_divides g a b)).1;
}

-- 2^i < 2^j only for i < j
pub pow_below : (i j : ℕ) → 2 ^ i < 2 ^ j → i < j
pow_below i j h = elim (dec_lt i j) [ yes l ↦ l | no m ↦ absurd (omega (arith, pow_mono {i = j} {j = i} (omega arith))) ]

-- a dividend of k coefficients more than the degree has a quotient of k
pub quotient_lt : (g : Generator) (k p : ℕ) → p < 2 ^ (k + g.degree) → quotient_of g p < 2 ^ k
quotient_lt g k p h = go (quotient_of g p) refl
  where
    go : (q : ℕ) → quotient_of g p ≡ q → quotient_of g p < 2 ^ k
    go zero e = rw e (pow_pos k)
    go (suc q) e =
        let n = has_degree (quotient_of g p) (omega arith) in
        let m = n.0 + g.degree in
        let d = divides g p in
        let product = degree_times n.0 g.degree (quotient_of g p) g.poly n.1 g.leads in
        let rest : remainder_of g p / 2 ^ m ≡ 0 = div-eq_of_lt (omega (arith, d.bound, pow_mono {i = g.degree} {j = m} (omega arith))) in
        let top : Degree p m = ap (λ x. x / 2 ^ m) d.identity ∙ xor_shr (times (quotient_of g p) g.poly) (remainder_of g p) m ∙ ap₂ bit_xor product rest in
        let less : m < k + g.degree = pow_below m (k + g.degree) (omega (arith, degree_ge p m top)) in
        omega (arith, degree_lt (quotient_of g p) n.0 n.1, pow_mono {i = suc n.0} {j = k} (omega arith))
