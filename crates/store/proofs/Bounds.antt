-- Whether a digest fits some number of bits. Assumes nothing.
use Rattle.std.proofs.Common.{◌≡◌, ℕ, ◌/◌, ◌^◌, ◌<◌, arith}
use Rattle.std.proofs.lemmas.Nat.{shr_split, mod_below, pow_pos}

-- a shift leaves nothing exactly of the numbers below a power of 2
pub shr_none : (d k : ℕ) → d / 2 ^ k ≡ 0 → d < 2 ^ k
shr_none d k e = omega (arith, rw e at (shr_split d k), mod_below d (2 ^ k) (pow_pos k))
