-- Rounding makes no number longer. Assumes nothing.
use Rattle.std.proofs.Common.{◌≡◌, ℕ, ◌-◌, ◌%◌, ◌^◌, ◌<◌, mod-eq_of_lt, arith}
use Rattle.std.proofs.Math.Pow.{split}
use Rattle.layout.specs.Addresses.{rounded}

pub rounded_fits : (W l x : ℕ) → x < 2 ^ W → rounded W l x % 2 ^ W ≡ rounded W l x
rounded_fits W l x fits = mod-eq_of_lt (omega (arith, split x (W - l)))
