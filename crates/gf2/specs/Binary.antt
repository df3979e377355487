-- Recursion on a number's binary digits. Assumes nothing.
use Rattle.std.specs.Prelude.{ℕ, zero, suc, ◌/◌}

unfoldable pub by_bits_in : {A : Type 0} → A → (ℕ → A → A) → ℕ → ℕ → A
by_bits_in base step zero n = base
by_bits_in base step (suc fuel) zero = base
by_bits_in base step (suc fuel) (suc n) = step (suc n) (by_bits_in base step fuel (suc n / 2))

-- `base` at 0, and at any other n `step n` of what n / 2 has; n itself is fuel enough
unfoldable pub by_bits : {A : Type 0} → A → (ℕ → A → A) → ℕ → A
unfolding by_bits_in
by_bits base step n = by_bits_in base step n n
