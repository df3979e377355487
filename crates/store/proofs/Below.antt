-- Numbers below one of two. Assumes nothing.
use Rattle.std.proofs.Common.{◌≡◌, ℕ, ◌<◌, Bool, true, false, cond, refl, arith}

-- what lies below a number or 0 lies below the number
pub below_cond : (t : Bool) (x y : ℕ) → y < cond t x 0 → (t ≡ true) × (y < x)
below_cond true x y h = (refl, h)
below_cond false x y h = absurd (omega arith)
