-- The number that groups write, part by part.
use Rattle.std.proofs.Common.{◌≡◌, ℕ, zero, suc, ◌+◌, ◌-◌, ◌*◌, ◌^◌, ◌<◌, ◌≤◌, List, [], ◌∷◌, ◌++◌, length, replicate, sym, ap, ◌∙◌, mul_assoc, add-mul, pow-suc, add-one, arith, pow-add}
use native.Mathlib.Nat.{pow-zero, pow-succ', pow-le-pow_right}
use lib.Arith.{digits_lt}
use Rattle.std.proofs.lemmas.Int.Digits.{number_after_append}
use Rattle.std.specs.Int.Digits.{number_from_digits, number_from_digits_after}

-- one group more fits
pub group_lt : (count value g : ℕ) → value < 65536 ^ count → g < 65536 → value * 65536 + g < 65536 ^ (count + 1)
group_lt count value g h k = rw (add-one, pow-suc) (digits_lt h k)

pub address_lt : (count value : ℕ) → count ≤ 8 → value < 65536 ^ count → value < 2 ^ 128
address_lt count value h k = let p : 65536 ^ count ≤ 65536 ^ 8 = pow-le-pow_right (omega arith) h in omega arith

-- what groups write after others
pub number_after_is : (b n : ℕ) (gs : List ℕ) → number_from_digits_after b n gs ≡ n * b ^ length gs + number_from_digits b gs
number_after_is b n [] = rw (pow-zero) (omega arith)
number_after_is b n (g ∷ gs) =
    let e = number_after_is b (n * b + g) gs in let f = number_after_is b (0 * b + g) gs in
    let x : (n * b + g) * b ^ length gs ≡ n * b * b ^ length gs + g * b ^ length gs = add-mul (n * b) g (b ^ length gs) in
    let y : (0 * b + g) * b ^ length gs ≡ g * b ^ length gs = ap (λ m. m * b ^ length gs) (omega arith) in
    let z : n * b * b ^ length gs ≡ n * b ^ suc (length gs) = mul_assoc n b (b ^ length gs) ∙ ap (λ m. n * m) (sym (pow-succ' b (length gs))) in
    omega arith

pub number_after_zeros : (b n k : ℕ) → number_from_digits_after b n (replicate k 0) ≡ n * b ^ k
number_after_zeros b n zero = rw (pow-zero) (omega arith)
number_after_zeros b n (suc k) = number_after_zeros b (n * b + 0) k ∙ ap (λ m. m * b ^ k) (omega arith) ∙ mul_assoc n b (b ^ k) ∙ ap (λ m. n * m) (sym (pow-succ' b k))

-- groups, zeros and groups
pub number_around : (b : ℕ) (ls rs : List ℕ) (k : ℕ) → number_from_digits b (ls ++ (replicate k 0 ++ rs)) ≡ number_from_digits b ls * b ^ (k + length rs) + number_from_digits b rs
number_around b ls rs k =
    number_after_append b 0 ls (replicate k 0 ++ rs) ∙ number_after_append b (number_from_digits b ls) (replicate k 0) rs
    ∙ number_after_is b _ rs ∙ ap (λ m. m * b ^ length rs + number_from_digits b rs) (number_after_zeros b (number_from_digits b ls) k)
    ∙ ap (λ m. m + number_from_digits b rs) (mul_assoc (number_from_digits b ls) (b ^ k) (b ^ length rs) ∙ ap (λ m. number_from_digits b ls * m) (sym (pow-add b k (length rs))))

-- groups on both sides of `::` fit
pub around_lt : (cl cr vl vr : ℕ) → cl + cr ≤ 7 → vl < 65536 ^ cl → vr < 65536 ^ cr → vl * 65536 ^ (8 - cl) + vr < 2 ^ 128
around_lt cl cr vl vr h k l =
    let p : 65536 ^ cr ≤ 65536 ^ (8 - cl) = pow-le-pow_right (omega arith) (omega arith) in
    let e : 65536 ^ cl * 65536 ^ (8 - cl) ≡ 2 ^ 128 = sym (pow-add 65536 cl (8 - cl)) ∙ ap (λ n. 65536 ^ n) {x = cl + (8 - cl)} {y = 8} (omega arith) in
    let d : vl * 65536 ^ (8 - cl) + vr < 65536 ^ cl * 65536 ^ (8 - cl) = digits_lt k (omega arith) in
    omega arith

pub power_lt : (n : ℕ) → n ≤ 7 → 65536 ^ n < 2 ^ 128
power_lt n h = let p : 65536 ^ n ≤ 65536 ^ 7 = pow-le-pow_right (omega arith) {i = n} {j = 7} h in omega arith
