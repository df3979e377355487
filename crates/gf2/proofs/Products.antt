-- The laws of the product of polynomials. Assumes nothing.
use Rattle.std.proofs.Common.{◌≡◌, ℕ, zero, suc, ◌+◌, ◌*◌, ◌/◌, ◌%◌, ◌^◌, ◌<◌, ◌≤◌, ◌⊎◌, sym, refl, ap, ◌∙◌, ap₂, inl, inr, ⊎_elim, not-suc-le-zero, mod-lt, mul_assoc, mul_comm, add_comm, suc-add, one-mul, pow-suc, div-add-mod', zero-add, zero-mul, mul-one, div-one, arith, pow_pos, pow_mono, pow-add}
use native.Mathlib.Nat.{div-eq_of_lt, mod-one, div-eq_of_lt-le}
use lib.Arith.{bin_ind}
use lib.Bits.{bit_xor, xor_shr, xor_mod, xor_zero_r, xor_self, xor_comm, xor_shifted}
use lib.Pow.{split}
use Rattle.gf2.specs.Binary.{by_bits, by_bits_in}
use Rattle.gf2.specs.Poly.{times, IsProduct, Degree}
use Rattle.gf2.proofs.Digits.{by_bits_step, xor_swap, xor_shl, bit_cases, shr_suc, mod_suc}

-- every law of the product comes from this equation
pub times_step : (q g : ℕ) → times q g ≡ bit_xor (q % 2 * g) (times (q / 2) g * 2)
unfolding times
times_step q g = by_bits_step 0 (λ n rest. bit_xor (n % 2 * g) (rest * 2)) (ap₂ bit_xor (zero-mul g) refl) q

pub times_zero : (g : ℕ) → times 0 g ≡ 0
unfolding times by_bits by_bits_in
times_zero g = refl

pub times_one : (g : ℕ) → times 1 g ≡ g
times_one g = times_step 1 g ∙ ap₂ bit_xor (one-mul g) (ap (λ x. x * 2) (times_zero g)) ∙ xor_zero_r g

-- a coefficient times a sum, and a sum of coefficients times a polynomial
coefficient_sum : (n a b : ℕ) → n % 2 * bit_xor a b ≡ bit_xor (n % 2 * a) (n % 2 * b)
coefficient_sum n a b = ⊎_elim
    (λ e. rw e (zero-mul (bit_xor a b) ∙ sym (ap₂ bit_xor (zero-mul a) (zero-mul b))))
    (λ e. rw e (one-mul (bit_xor a b) ∙ sym (ap₂ bit_xor (one-mul a) (one-mul b))))
    (bit_cases n)

bits_times : (x y g : ℕ) → (x ≡ 0) ⊎ (x ≡ 1) → (y ≡ 0) ⊎ (y ≡ 1) → bit_xor x y * g ≡ bit_xor (x * g) (y * g)
bits_times x y g (inl p) (inl q) = rw (p, q) (zero-mul g ∙ sym (ap₂ bit_xor (zero-mul g) (zero-mul g)))
bits_times x y g (inl p) (inr q) = rw (p, q) (sym (ap (λ z. bit_xor z (1 * g)) (zero-mul g)))
bits_times x y g (inr p) (inl q) = rw (p, q) (sym (ap (bit_xor (1 * g)) (zero-mul g) ∙ xor_zero_r (1 * g)))
bits_times x y g (inr p) (inr q) = rw (p, q) (zero-mul g ∙ sym (xor_self (1 * g)))

sum_coefficient : (a b g : ℕ) → bit_xor a b % 2 * g ≡ bit_xor (a % 2 * g) (b % 2 * g)
sum_coefficient a b g = ap (λ x. x * g) (xor_mod a b 1) ∙ bits_times (a % 2) (b % 2) g (bit_cases a) (bit_cases b)

pub times_sum : (a b g : ℕ) → times (bit_xor a b) g ≡ bit_xor (times a g) (times b g)
times_sum a b g = bin_ind (λ n. (m : ℕ) → times (bit_xor n m) g ≡ bit_xor (times n g) (times m g))
    (λ m. sym (ap (λ x. bit_xor x (times m g)) (times_zero g)))
    (λ n ih m. times_step (bit_xor n m) g
    ∙ ap₂ bit_xor (sum_coefficient n m g)
    (ap (λ x. times x g * 2) (xor_shr n m 1) ∙ ap (λ x. x * 2) (ih (m / 2)) ∙ xor_shl 1 (times (n / 2) g) (times (m / 2) g))
    ∙ xor_swap (n % 2 * g) (m % 2 * g) (times (n / 2) g * 2) (times (m / 2) g * 2)
    ∙ sym (ap₂ bit_xor (times_step n g) (times_step m g)))
    a b

-- and in the second factor
pub times_sum_right : (q a b : ℕ) → times q (bit_xor a b) ≡ bit_xor (times q a) (times q b)
times_sum_right q a b = bin_ind (λ n. times n (bit_xor a b) ≡ bit_xor (times n a) (times n b))
    (times_zero (bit_xor a b) ∙ sym (ap₂ bit_xor (times_zero a) (times_zero b)))
    (λ n ih. times_step n (bit_xor a b)
    ∙ ap₂ bit_xor (coefficient_sum n a b) (ap (λ x. x * 2) ih ∙ xor_shl 1 (times (n / 2) a) (times (n / 2) b))
    ∙ xor_swap (n % 2 * a) (n % 2 * b) (times (n / 2) a * 2) (times (n / 2) b * 2)
    ∙ sym (ap₂ bit_xor (times_step n a) (times_step n b)))
    q

-- times 1, and times x^k
pub times_by_one : (q : ℕ) → times q 1 ≡ q
times_by_one q = bin_ind (λ n. times n 1 ≡ n) (times_zero 1) (λ n ih. times_step n 1
    ∙ ap₂ bit_xor (mul-one (n % 2)) (ap (λ x. x * 2) ih)
    ∙ xor_comm (n % 2) (n / 2 * 2)
    ∙ xor_shifted (n / 2) 1 (n % 2) (omega arith)
    ∙ div-add-mod' n 2)
    q

pub times_shl : (k q g : ℕ) → times q (g * 2 ^ k) ≡ times q g * 2 ^ k
times_shl k q g = bin_ind (λ n. times n (g * 2 ^ k) ≡ times n g * 2 ^ k)
    (times_zero (g * 2 ^ k) ∙ sym (ap (λ x. x * 2 ^ k) (times_zero g) ∙ zero-mul (2 ^ k)))
    (λ n ih. times_step n (g * 2 ^ k)
    ∙ ap₂ bit_xor (sym (mul_assoc (n % 2) g (2 ^ k)))
    (ap (λ x. x * 2) ih ∙ mul_assoc (times (n / 2) g) (2 ^ k) 2
    ∙ ap (λ x. times (n / 2) g * x) (mul_comm (2 ^ k) 2) ∙ sym (mul_assoc (times (n / 2) g) 2 (2 ^ k)))
    ∙ sym (xor_shl k (n % 2 * g) (times (n / 2) g * 2))
    ∙ ap (λ x. x * 2 ^ k) (sym (times_step n g)))
    q

times_double : (q g : ℕ) → times (q * 2) g ≡ times q g * 2
times_double q g =
    let even : q * 2 % 2 ≡ 0 = omega arith in
    let half : q * 2 / 2 ≡ q = omega arith in
    times_step (q * 2) g ∙ ap₂ bit_xor (ap (λ x. x * g) even ∙ zero-mul g) (ap (λ x. times x g * 2) half)

pub times_power : (k g : ℕ) → times (2 ^ k) g ≡ g * 2 ^ k
times_power zero g = times_one g ∙ sym (mul-one g)
times_power (suc k) g =
    ap (λ x. times x g) (pow-suc 2 k) ∙ times_double (2 ^ k) g ∙ ap (λ x. x * 2) (times_power k g)
    ∙ mul_assoc g (2 ^ k) 2 ∙ ap (λ x. g * x) (sym (pow-suc 2 k))

pub is_product : IsProduct times
is_product = record {
  left = times_sum;
  right = times_sum_right;
  powers = λ i j. times_power i (2 ^ j) ∙ sym (pow-add 2 j i) ∙ ap (λ n. 2 ^ n) (add_comm j i);
}

-- ---- degrees

pub degree_ge : (p n : ℕ) → Degree p n → 2 ^ n ≤ p
degree_ge p n h = let e = split p n in let f : 1 * 2 ^ n + p % 2 ^ n ≡ p = rw h at e in omega arith

pub degree_lt : (p n : ℕ) → Degree p n → p < 2 ^ suc n
degree_lt p n h =
    let e = split p n in
    let f : 1 * 2 ^ n + p % 2 ^ n ≡ p = rw h at e in
    let m = mod-lt p (pow_pos n) in
    let s = pow-suc 2 n in
    omega arith

pub degree_by : (p n : ℕ) → 2 ^ n ≤ p → p < 2 ^ suc n → Degree p n
degree_by p n h k =
    let low : 1 * 2 ^ n ≤ p = omega arith in
    let high : p < (1 + 1) * 2 ^ n = omega (arith, pow-suc 2 n) in
    div-eq_of_lt-le (2 ^ n) low high

pub below_of_shr : (p n : ℕ) → p / 2 ^ n ≡ 0 → p < 2 ^ n
below_of_shr p n h =
    let e = split p n in
    let f : 0 * 2 ^ n + p % 2 ^ n ≡ p = rw h at e in
    let m = mod-lt p (pow_pos n) in
    omega arith

pub has_degree : (p : ℕ) → 0 < p → (n : ℕ) × Degree p n
has_degree = bin_ind (λ p. 0 < p → (n : ℕ) × Degree p n) (λ h. absurd (not-suc-le-zero h)) (λ p ih h. go p ih h (p / 2) refl)
  where
    go : (p : ℕ) → (0 < p / 2 → (n : ℕ) × Degree (p / 2) n) → 0 < p → (m : ℕ) → p / 2 ≡ m → (n : ℕ) × Degree p n
    go p ih h zero e = (0, div-one p ∙ omega arith)
    go p ih h (suc m) e = let r = ih (omega arith) in (suc r.0, shr_suc p r.0 ∙ r.1)

coefficient_le : (q g : ℕ) → q % 2 * g ≤ g
coefficient_le q g = ⊎_elim
    (λ e. let z : q % 2 * g ≡ 0 = ap (λ x. x * g) e ∙ zero-mul g in omega arith)
    (λ e. let o : q % 2 * g ≡ g = ap (λ x. x * g) e ∙ one-mul g in omega arith)
    (bit_cases q)

double_half : (x : ℕ) → x * 2 / 2 ≡ x
double_half x = omega arith

-- degrees add
pub degree_times : (n d q g : ℕ) → Degree q n → Degree g d → Degree (times q g) (n + d)
degree_times zero d q g hq hg =
    let one : q ≡ 1 = sym (div-one q) ∙ hq in
    ap₂ (λ x y. x / 2 ^ y) (ap (λ x. times x g) one ∙ times_one g) (zero-add d) ∙ hg
degree_times (suc n) d q g hq hg =
    let low : q % 2 * g / 2 ^ (suc n + d) ≡ 0 =
    div-eq_of_lt (omega (arith, degree_lt g d hg, coefficient_le q g, pow_mono {i = suc d} {j = suc n + d} (omega arith))) in
    let rest : times (q / 2) g * 2 / 2 ^ (suc n + d) ≡ 1 =
    ap (λ m. times (q / 2) g * 2 / 2 ^ m) (suc-add n d) ∙ shr_suc (times (q / 2) g * 2) (n + d)
    ∙ ap (λ x. x / 2 ^ (n + d)) (double_half (times (q / 2) g))
    ∙ degree_times n d (q / 2) g (sym (shr_suc q n) ∙ hq) hg in
    ap (λ x. x / 2 ^ (suc n + d)) (times_step q g) ∙ xor_shr (q % 2 * g) (times (q / 2) g * 2) (suc n + d) ∙ ap₂ bit_xor low rest

-- the constant term of q · g is that of q where g has constant term 1
constant_out : (q g : ℕ) → g % 2 ≡ 1 → times q g % 2 ≡ 0 → q % 2 ≡ 0
constant_out q g odd h = ⊎_elim (λ e. e)
    (λ e. let o : q % 2 * g % 2 ≡ g % 2 = ap (λ x. x % 2) (ap (λ x. x * g) e ∙ one-mul g) in absurd (omega (arith, constant)))
    (bit_cases q)
  where
    constant : times q g % 2 ≡ q % 2 * g % 2
    constant =
        ap (λ x. x % 2) (times_step q g) ∙ xor_mod (q % 2 * g) (times (q / 2) g * 2) 1
        ∙ ap (bit_xor (q % 2 * g % 2)) (omega arith) ∙ xor_zero_r (q % 2 * g % 2)

times_halved : (q g : ℕ) → q % 2 ≡ 0 → times q g / 2 ≡ times (q / 2) g
times_halved q g even =
    ap (λ x. x / 2) (times_step q g ∙ ap (λ x. bit_xor x (times (q / 2) g * 2)) (ap (λ x. x * g) even ∙ zero-mul g))
    ∙ double_half (times (q / 2) g)

-- so x^k divides q · g only if it divides q
pub divides_out : (k q g : ℕ) → g % 2 ≡ 1 → times q g % 2 ^ k ≡ 0 → q % 2 ^ k ≡ 0
divides_out zero q g odd h = mod-one q
divides_out (suc k) q g odd h =
    let digits : (times q g / 2 % 2 ^ k) * 2 + times q g % 2 ≡ 0 = sym (mod_suc (times q g) k) ∙ h in
    let even : q % 2 ≡ 0 = constant_out q g odd (omega arith) in
    let halves : times (q / 2) g % 2 ^ k ≡ 0 = ap (λ x. x % 2 ^ k) (sym (times_halved q g even)) ∙ omega arith in
    let upper = divides_out k (q / 2) g odd halves in
    mod_suc q k ∙ omega arith
