-- The step of a recursion on binary digits, and what sums of polynomials need of `bit_xor`. Assumes nothing.
use Rattle.std.proofs.Common.{◌≡◌, ℕ, zero, suc, ◌+◌, ◌*◌, ◌/◌, ◌%◌, ◌^◌, ◌<◌, ◌≤◌, ◌⊎◌, sym, refl, ap, ◌∙◌, ap₂, inl, inr, le_refl, not-suc-le-zero, add-zero, mod-lt, add-one, one-add, arith, pow_pos, shr-shr}
use native.Mathlib.Decide.{le_ind}
use lib.Arith.{half_le}
use lib.Bits.{bit_xor, xor_block, xor_assoc, xor_comm, xor_self, xor_zero_r}
use lib.Pow.{mod-pow-add}
use Rattle.gf2.specs.Binary.{by_bits, by_bits_in}

module _ {A : Type 0} (base : A) (step : ℕ → A → A) where
  more : (f n : ℕ) → n ≤ f → by_bits_in base step (suc f) n ≡ by_bits_in base step f n
  unfolding by_bits_in
  more zero zero h = refl
  more zero (suc n) h = absurd (not-suc-le-zero h)
  more (suc f) zero h = refl
  more (suc f) (suc n) h = ap (step (suc n)) (more f (suc n / 2) (half_le h))

  enough : (f n : ℕ) → n ≤ f → by_bits_in base step f n ≡ by_bits_in base step n n
  enough f n h = le_ind (λ m. by_bits_in base step m n ≡ by_bits_in base step n n) refl (λ m k e. more m n k ∙ e) f h

  pub by_bits_step : step 0 base ≡ base → (n : ℕ) → by_bits base step n ≡ step n (by_bits base step (n / 2))
  unfolding by_bits by_bits_in
  by_bits_step rest zero = sym rest
  by_bits_step rest (suc n) = ap (step (suc n)) (enough n (suc n / 2) (half_le (le_refl (suc n))))

-- the lowest binary digit apart from the others
pub shr_suc : (p n : ℕ) → p / 2 ^ suc n ≡ p / 2 / 2 ^ n
shr_suc p n = ap (λ m. p / 2 ^ m) (sym (one-add n)) ∙ sym (shr-shr p 1 n)

pub mod_suc : (p n : ℕ) → p % 2 ^ suc n ≡ (p / 2 % 2 ^ n) * 2 + p % 2
mod_suc p n = ap (λ m. p % 2 ^ m) (sym (add-one n)) ∙ mod-pow-add p n 1

-- sums

pub xor_cancel : (a b : ℕ) → bit_xor a (bit_xor a b) ≡ b
xor_cancel a b = sym (xor_assoc a a b) ∙ ap (λ x. bit_xor x b) (xor_self a)

-- (a + b) + (c + d) = (a + c) + (b + d)
pub xor_swap : (a b c d : ℕ) → bit_xor (bit_xor a b) (bit_xor c d) ≡ bit_xor (bit_xor a c) (bit_xor b d)
xor_swap a b c d =
    xor_assoc a b (bit_xor c d)
    ∙ ap (bit_xor a) (sym (xor_assoc b c d) ∙ ap (λ x. bit_xor x d) (xor_comm b c) ∙ xor_assoc c b d)
    ∙ sym (xor_assoc a c (bit_xor b d))

-- equal polynomials are those whose sum is 0
pub xor_zero : (a b : ℕ) → bit_xor a b ≡ 0 → a ≡ b
xor_zero a b e = sym (xor_zero_r a) ∙ ap (bit_xor a) (sym e) ∙ xor_cancel a b

-- a term goes to the other side
pub xor_cross : (a r b s : ℕ) → bit_xor a r ≡ bit_xor b s → bit_xor a b ≡ bit_xor r s
xor_cross a r b s e =
    xor_zero (bit_xor a b) (bit_xor r s)
    (sym (xor_swap a r b s) ∙ ap (λ x. bit_xor x (bit_xor b s)) e ∙ xor_self (bit_xor b s))

pub xor_shl : (k a b : ℕ) → bit_xor a b * 2 ^ k ≡ bit_xor (a * 2 ^ k) (b * 2 ^ k)
xor_shl k a b =
    sym (add-zero _)
    ∙ sym (xor_block k a b 0 0 (pow_pos k) (pow_pos k))
    ∙ ap₂ bit_xor (add-zero (a * 2 ^ k)) (add-zero (b * 2 ^ k))

-- a coefficient is 0 or 1
pub bit_cases : (n : ℕ) → (n % 2 ≡ 0) ⊎ (n % 2 ≡ 1)
bit_cases n = go (n % 2) (mod-lt n (le_refl_2))
  where
    le_refl_2 : 0 < 2
    le_refl_2 = omega arith

    go : (m : ℕ) → m < 2 → (m ≡ 0) ⊎ (m ≡ 1)
    go zero h = inl refl
    go (suc zero) h = inr refl
    go (suc (suc m)) h = absurd (omega arith)
