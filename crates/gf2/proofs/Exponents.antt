-- A generator's degree and lowest exponent, from the zeros at either end of its number. Assumes nothing.
use Rattle.std.proofs.Common.{◌≡◌, ℕ, zero, suc, ◌+◌, ◌-◌, ◌*◌, ◌/◌, ◌%◌, ◌^◌, ◌<◌, ◌≤◌, sym, ap, ◌∙◌, ap₂, ⊎_elim, add-zero, le_antisymm, pow-suc, div-one, arith, pow_mono, shr-shr}
use native.Mathlib.Nat.{mod-one, div-eq_of_lt}
use lib.Arith.{digits_div, digits_mod}
use lib.Count.{count_leading_zeros, count_trailing_zeros, under, leading_top}
use lib.Pow.{split, mod-mod-pow, field}
use lib.Bits.{bit_xor, xor_shr, xor_block, xor_zero_r}
use native.Mathlib.Decide.{dec_le}
use Rattle.gf2.specs.declared.generator.Generator.{Generator}
use Rattle.gf2.specs.Poly.{Degree, IsGenerator}
use Rattle.gf2.proofs.Digits.{shr_suc, mod_suc, bit_cases}
use Rattle.gf2.proofs.Products.{degree_by, degree_ge, degree_lt}
use Rattle.gf2.proofs.Quotients.{pow_below}

-- what a generator's number is
pub record Range (n : ℕ) : Type 0 where
  pub odd : n % 2 ≡ 1
  pub low : 2 ^ 4 ≤ n
  pub high : n < 2 ^ 17

pub generator_range : (n : ℕ) → IsGenerator n → Range n
generator_range n g = record {
  odd = g.constant;
  low = omega (arith, degree_ge n g.degree g.leads, pow_mono {i = 4} {j = g.degree} g.least);
  high = omega (arith, degree_lt n g.degree g.leads, pow_mono {i = suc g.degree} {j = 17} (omega (arith, g.most)));
}

pub record Leading (n d : ℕ) : Type 0 where
  pub leads : Degree n d
  pub least : 4 ≤ d
  pub most : d ≤ 16

pub leading : (n : ℕ) → Range n → Leading n (31 - count_leading_zeros 32 n)
leading n h =
    let top = leading_top 32 n (omega (arith, h.low)) (omega (arith, h.high)) in
    let is : 31 - count_leading_zeros 32 n ≡ top.0 = omega (arith, top.1) in
    rw is (record {
      leads = degree_by n top.0 top.2 top.3;
      least = omega (arith, pow_below 4 (suc top.0) (omega (arith, h.low, top.3)));
      most = omega (arith, pow_below top.0 17 (omega (arith, h.high, top.2)));
    })

-- the lowest digit that is set
pub record Lowest (m t : ℕ) : Type 0 where
  pub below : m % 2 ^ t ≡ 0
  pub at : m / 2 ^ t % 2 ≡ 1

pub trailing : (k m : ℕ) → 0 < m → m < 2 ^ k → Lowest m (count_trailing_zeros k m)
unfolding count_trailing_zeros
trailing zero m h l = absurd (omega arith)
trailing (suc k) m h l = ⊎_elim (even (trailing k (m / 2))) odd (bit_cases m)
  where
    even : (0 < m / 2 → m / 2 < 2 ^ k → Lowest (m / 2) (count_trailing_zeros k (m / 2))) → m % 2 ≡ 0 → Lowest m (under (m % 2) (count_trailing_zeros k (m / 2)))
    even half e =
        let r = half (omega arith) (omega (arith, pow-suc 2 k)) in
        let t = count_trailing_zeros k (m / 2) in
        rw e (record { below = mod_suc m t ∙ omega (arith, r.below); at = ap (λ x. x % 2) (shr_suc m t) ∙ r.at })

    odd : m % 2 ≡ 1 → Lowest m (under (m % 2) (count_trailing_zeros k (m / 2)))
    odd e = rw e (record { below = mod-one m; at = ap (λ x. x % 2) (div-one m) ∙ e })

-- the smallest exponent above 0 in an odd number is the lowest digit of the number less 1
pub record Low (n t : ℕ) : Type 0 where
  pub positive : 0 < t
  pub apart : n % 2 ^ t ≡ 1
  pub present : n / 2 ^ t % 2 ≡ 1

low : (n t : ℕ) → n % 2 ≡ 1 → Lowest (n - 1) t → Low n t
low n zero odd r = absurd (omega (arith, r.at))
low n (suc t) odd r = record {
  positive = omega arith;
  apart = ap (λ x. x % 2 ^ suc t) parts ∙ digits_mod ((n - 1) / 2 ^ suc t) one;
  present = ap (λ x. x / 2 ^ suc t % 2) parts ∙ ap (λ x. x % 2) (digits_div ((n - 1) / 2 ^ suc t) one) ∙ r.at;
}
  where
    parts : n ≡ (n - 1) / 2 ^ suc t * 2 ^ suc t + 1
    parts = omega (arith, split (n - 1) (suc t), r.below)

    one : 1 < 2 ^ suc t
    one = omega (arith, pow_mono {i = 1} {j = suc t} (omega arith))

pub lowest : (n : ℕ) → Range n → Low n (count_trailing_zeros 32 (n - 1))
lowest n h = low n (count_trailing_zeros 32 (n - 1)) h.odd (trailing 32 (n - 1) (omega (arith, h.low)) (omega (arith, h.high)))

-- no exponent is above the degree
pub ordered : (n d t : ℕ) → Degree n d → n / 2 ^ t % 2 ≡ 1 → t ≤ d
ordered n d t lead set = elim (dec_le t d) [
  | yes h ↦ h
  | no above ↦
      let sum : d + (t - d) ≡ t = omega arith in
      let none : n / 2 ^ t ≡ 0 =
      ap (λ m. n / 2 ^ m) (sym sum) ∙ sym (shr-shr n d (t - d)) ∙ ap (λ x. x / 2 ^ (t - d)) lead
      ∙ div-eq_of_lt (omega (arith, pow_mono {i = 1} {j = t - d} (omega arith))) in
      absurd (omega (arith, none, set))
]

-- what follows of any generator

pub constant : (g : Generator) → g.poly % 2 ≡ 1
constant g =
    let e : g.lowest ≡ (g.lowest - 1) + 1 = omega (arith, g.positive) in
    sym (mod-mod-pow g.poly (g.lowest - 1) 1) ∙ ap (λ m. g.poly % 2 ^ m % 2) (sym e) ∙ ap (λ x. x % 2) g.apart

-- g + 1 has the degree of g
pub plus_one_degree : (g : Generator) → Degree (bit_xor g.poly 1) g.degree
plus_one_degree g =
    let one : 1 / 2 ^ g.degree ≡ 0 = div-eq_of_lt (omega (arith, pow_mono {i = 4} {j = g.degree} g.least)) in
    xor_shr g.poly 1 g.degree ∙ ap₂ bit_xor g.leads one

-- and the factor x^lowest, beside one with constant term 1
pub plus_one : (g : Generator) → bit_xor g.poly 1 ≡ g.poly / 2 ^ g.lowest * 2 ^ g.lowest
plus_one g =
    let t = g.lowest in
    let h = g.poly / 2 ^ t in
    let one : 1 < 2 ^ t = omega (arith, pow_mono {i = 1} {j = t} g.positive) in
    let parts : g.poly ≡ h * 2 ^ t + 1 = sym (split g.poly t) ∙ ap (λ x. h * 2 ^ t + x) g.apart in
    let zero : 1 ≡ 0 * 2 ^ t + 1 = omega arith in
    ap₂ bit_xor parts zero ∙ xor_block t h 0 1 1 one one ∙ ap (λ x. x * 2 ^ t + 0) (xor_zero_r h) ∙ add-zero (h * 2 ^ t)

pub is_generator : (g : Generator) → IsGenerator g.poly
is_generator g = record { degree = g.degree; leads = g.leads; least = g.least; most = g.most; constant = constant g }

-- a generator's number determines its exponents

degree_le : (p n m : ℕ) → Degree p n → Degree p m → n ≤ m
degree_le p n m a b = omega (arith, pow_below n (suc m) (omega (arith, degree_ge p n a, degree_lt p m b)))

lowest_not_lt : (p t s : ℕ) → p / 2 ^ t % 2 ≡ 1 → p % 2 ^ s ≡ 1 → 0 < t → t < s → ⊥
lowest_not_lt p t s set clear pos lt =
    let j = s - t in
    let sum : j + t ≡ s = omega arith in
    let low : p / 2 ^ t % 2 ^ j ≡ 0 =
    sym (field p j t) ∙ ap (λ m. p % 2 ^ m / 2 ^ t) sum ∙ ap (λ x. x / 2 ^ t) clear
    ∙ div-eq_of_lt (omega (arith, pow_mono {i = 1} {j = t} pos)) in
    let split-j : (j - 1) + 1 ≡ j = omega arith in
    let bit : p / 2 ^ t % 2 ≡ 0 =
    sym (mod-mod-pow (p / 2 ^ t) (j - 1) 1) ∙ ap (λ m. p / 2 ^ t % 2 ^ m % 2) split-j ∙ ap (λ x. x % 2) low in
    omega arith

pub same_degree : (g h : Generator) → g.poly ≡ h.poly → g.degree ≡ h.degree
same_degree g h e =
    let lead : Degree g.poly h.degree = ap (λ p. p / 2 ^ h.degree) e ∙ h.leads in
    le_antisymm (degree_le g.poly g.degree h.degree g.leads lead) (degree_le g.poly h.degree g.degree lead g.leads)

pub same_lowest : (g h : Generator) → g.poly ≡ h.poly → g.lowest ≡ h.lowest
same_lowest g h e =
    let apart : g.poly % 2 ^ h.lowest ≡ 1 = ap (λ p. p % 2 ^ h.lowest) e ∙ h.apart in
    let present : g.poly / 2 ^ h.lowest % 2 ≡ 1 = ap (λ p. p / 2 ^ h.lowest % 2) e ∙ h.present in
    let above : g.lowest < h.lowest → ⊥ = lowest_not_lt g.poly g.lowest h.lowest g.present apart g.positive in
    let below : h.lowest < g.lowest → ⊥ = lowest_not_lt g.poly h.lowest g.lowest present g.apart h.positive in
    omega arith
