-- Values in a run of bits of a word. Assumes nothing.
use Rattle.std.proofs.Common.{◌≡◌, ℕ, ◌+◌, ◌*◌, ◌%◌, ◌^◌, ◌<◌, ◌≤◌, ap, ◌∙◌, arith, pow_mono}
use Rattle.std.proofs.Math.Nat.{one-mul, mod-eq_of_lt, mul-lt-mul_of_pos_right}
use Rattle.std.proofs.Math.Pow.{pow-lt}
use Rattle.std.proofs.lemmas.Nat.{mod_below, pow_pos, pow-add}

-- a value cut to the bits of a field loses nothing where it is put
pub cut_value : (value bits at : ℕ) → bits < 64 → at + bits ≤ 64 → value % (1 * 2 ^ bits % 2 ^ 64) * 2 ^ at % 2 ^ 64 ≡ value % 2 ^ bits * 2 ^ at
cut_value value bits at proper inside =
    let mask : 1 * 2 ^ bits % 2 ^ 64 ≡ 2 ^ bits = ap (λ n. n % 2 ^ 64) (one-mul (2 ^ bits)) ∙ mod-eq_of_lt (pow-lt proper) in
    let below : value % 2 ^ bits * 2 ^ at < 2 ^ bits * 2 ^ at = mul-lt-mul_of_pos_right (mod_below value (2 ^ bits) (pow_pos bits)) (pow_pos at) in
    let within : bits + at ≤ 64 = omega arith in
    let most : 2 ^ (bits + at) ≤ 2 ^ 64 = pow_mono within in
    ap (λ n. value % n * 2 ^ at % 2 ^ 64) mask ∙ mod-eq_of_lt (omega (arith, pow-add 2 bits at))
