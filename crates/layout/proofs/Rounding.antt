-- Rounding and multiples of powers of x. Assumes nothing.
use Rattle.std.proofs.Common.{◌≡◌, ℕ, ◌+◌, ◌-◌, ◌*◌, ◌/◌, ◌%◌, ◌^◌, ◌<◌, ◌≤◌, sym, ap, ◌∙◌, ap₂, mod-eq_of_lt, mul_assoc, arith, pow-add}
use native.Mathlib.Nat.{mul-mod_left}
use lib.Bits.{bit_xor, xor_shr, xor_mod}
use Rattle.layout.specs.Addresses.{rounded}
use Rattle.gf2.proofs.Digits.{xor_shl}

pub rounded_sum : (W l a b : ℕ) → rounded W l (bit_xor a b) ≡ bit_xor (rounded W l a) (rounded W l b)
rounded_sum W l a b =
    ap (λ x. x * 2 ^ (W - l)) (xor_shr a b (W - l)) ∙ xor_shl (W - l) (a / 2 ^ (W - l)) (b / 2 ^ (W - l))

pub multiple_sum : (k a b : ℕ) → a % 2 ^ k ≡ 0 → b % 2 ^ k ≡ 0 → bit_xor a b % 2 ^ k ≡ 0
multiple_sum k a b p q = xor_mod a b k ∙ ap₂ bit_xor p q

pub multiple_of : (x i j : ℕ) → j ≤ i → x * 2 ^ i % 2 ^ j ≡ 0
multiple_of x i j h =
    let e : i ≡ (i - j) + j = omega arith in
    ap (λ m. x * 2 ^ m % 2 ^ j) e ∙ ap (λ m. x * m % 2 ^ j) (pow-add 2 (i - j) j)
    ∙ ap (λ m. m % 2 ^ j) (sym (mul_assoc x (2 ^ (i - j)) (2 ^ j))) ∙ mul-mod_left (x * 2 ^ (i - j)) (2 ^ j)

-- a multiple of x^k of degree below k is 0
pub multiple_below : (k x : ℕ) → x % 2 ^ k ≡ 0 → x < 2 ^ k → x ≡ 0
multiple_below k x h l = sym (mod-eq_of_lt l) ∙ h
