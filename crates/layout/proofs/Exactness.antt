-- Admission is exact: under an admitted tread no two prefixes are confused, under any other each prefix is. Assumes nothing.
use Rattle.std.proofs.Common.{◌≡◌, ℕ, suc, ◌+◌, ◌-◌, ◌*◌, ◌/◌, ◌%◌, ◌^◌, ◌<◌, ◌≤◌, true, false, ◌||◌, leb, ◌⊎◌, sym, ap, ◌∙◌, subst, ap₂, inl, inr, ⊎_elim, mul-le-mul_right, mod-eq_of_lt, mul_assoc, one-mul, zero-mul, arith, pow_pos, pow_mono, pow-add, shl_lt}
use native.Mathlib.Nat.{div-eq_of_lt, zero-mod}
use native.Mathlib.Decide.{dec_le}
use lib.Bits.{bit_xor, xor_lt, xor_zero_r, xor_self}
use lib.Pow.{pow-lt}
use Rattle.std.proofs.lemmas.Bool.{leb-true, leb-false, and_parts, and_cases, or_cases, or_parts}
use Rattle.gf2.specs.Division.{Divides, quotient_of, remainder_of}
use Rattle.gf2.specs.declared.generator.Generator.{Generator}
use Rattle.gf2.proofs.Digits.{xor_cross, xor_cancel, xor_swap, xor_shl, xor_zero}
use Rattle.gf2.proofs.Products.{times_power, degree_lt, degree_ge}
use Rattle.gf2.proofs.Quotients.{divides, pair, additive, quotient_lt, remainder_zero}
use Rattle.gf2.proofs.Exponents.{plus_one, plus_one_degree}
use Rattle.layout.specs.Addresses.{rounded, IsPrefix}
use Rattle.layout.specs.Admission.{colony, digest, admitted, Alike, ToldApart, Confused, Exact, confused_with}
use Rattle.layout.proofs.Rounding.{rounded_sum, multiple_sum, multiple_of}
use Rattle.layout.proofs.Kernel.{near, far, short}

-- the three parts of the rule
pub record Refused (W : ℕ) (g : Generator) (w l : ℕ) : Type 0 where
  pub far : g.degree < W - l
  pub long : W - w < g.degree + g.lowest
  pub apart : g.degree - g.lowest < w - l

module _ (W : ℕ) (g : Generator) (w l : ℕ) (lw : l ≤ w) (wW : w ≤ W) where
  pub refused : admitted W g w l ≡ false → Refused W g w l
  refused e =
      let rest = ⊎_elim (λ f. absurd (omega (arith, leb-false l w f))) (λ f. f) (and_cases (leb l w) _ e) in
      let three = or_parts (leb (W - l) g.degree || leb (g.degree + g.lowest) (W - w)) (leb (w - l) (g.degree - g.lowest)) rest in
      let two = or_parts (leb (W - l) g.degree) (leb (g.degree + g.lowest) (W - w)) three.0 in
      record {
        far = leb-false (W - l) g.degree two.0;
        long = leb-false (g.degree + g.lowest) (W - w) two.1;
        apart = leb-false (w - l) (g.degree - g.lowest) three.1;
      }

  allowed : admitted W g w l ≡ true → (W - l ≤ g.degree) ⊎ ((g.degree + g.lowest ≤ W - w) ⊎ (w - l ≤ g.degree - g.lowest))
  allowed e = ⊎_elim
      (λ f. ⊎_elim (λ k. inl (leb-true (W - l) g.degree k)) (λ k. inr (inl (leb-true (g.degree + g.lowest) (W - w) k)))
      (or_cases (leb (W - l) g.degree) (leb (g.degree + g.lowest) (W - w)) f))
      (λ f. inr (inr (leb-true (w - l) (g.degree - g.lowest) f)))
      (or_cases (leb (W - l) g.degree || leb (g.degree + g.lowest) (W - w)) (leb (w - l) (g.degree - g.lowest)) (and_parts (leb l w) _ e).1)

  -- the sum of two prefixes that are alike
  module _ (P Q : ℕ) (alike : Alike W g l P Q) where
    sum_colony : remainder_of g (rounded W l (bit_xor P Q)) ≡ 0
    sum_colony =
        ap (remainder_of g) (rounded_sum W l P Q) ∙ (additive g).remainders (rounded W l P) (rounded W l Q)
        ∙ ap (λ x. bit_xor x (colony W g Q l)) alike.colonies ∙ xor_self (colony W g Q l)

    sum_digest : quotient_of g (bit_xor P Q) ≡ remainder_of g (bit_xor P Q)
    sum_digest = xor_zero (quotient_of g (bit_xor P Q)) (remainder_of g (bit_xor P Q)) (
        ap₂ bit_xor ((additive g).quotients P Q) ((additive g).remainders P Q)
        ∙ xor_swap (quotient_of g P) (quotient_of g Q) (remainder_of g P) (remainder_of g Q)
        ∙ xor_cross (bit_xor (quotient_of g P) (remainder_of g P)) (colony W g P l) (bit_xor (quotient_of g Q) (remainder_of g Q)) (colony W g Q l) alike.digests
        ∙ ap (λ x. bit_xor x (colony W g Q l)) alike.colonies ∙ xor_self (colony W g Q l))

  pub told_apart : admitted W g w l ≡ true → ToldApart W g w l
  told_apart e P Q p q alike = xor_zero P Q (⊎_elim
      (λ h. near g E (W - l) s d h)
      (⊎_elim (λ h. short g E (W - w) d m h) (λ h. elim (dec_le (W - l) g.degree) [
        | yes le ↦ near g E (W - l) s d le
        | no gt ↦ far g E (W - w) (W - l) s d m (omega arith) (omega arith) (omega arith)
      ]))
      (allowed e))
    where
      E : ℕ
      E = bit_xor P Q

      s : remainder_of g (rounded W l (bit_xor P Q)) ≡ 0
      s = sum_colony P Q alike

      d : quotient_of g (bit_xor P Q) ≡ remainder_of g (bit_xor P Q)
      d = sum_digest P Q alike

      m : bit_xor P Q % 2 ^ (W - w) ≡ 0
      m = multiple_sum (W - w) P Q p.clear q.clear

  -- the polynomial that a refused length lets pass unseen
  module _ (rule : Refused W g w l) where
    unseen_small : bit_xor g.poly 1 * 2 ^ (W - w - g.lowest) < 2 ^ (W - l)
    unseen_small =
        let k = W - w - g.lowest in
        omega (
          arith,
          shl_lt (suc g.degree) k (degree_lt (bit_xor g.poly 1) g.degree (plus_one_degree g)),
          pow_mono {i = suc g.degree + k} {j = W - l} (omega (arith, rule.far, rule.apart, g.ordered)),
        )

    unseen_multiple : bit_xor g.poly 1 * 2 ^ (W - w - g.lowest) % 2 ^ (W - w) ≡ 0
    unseen_multiple =
        let t = g.lowest in
        let k = W - w - t in
        let h = g.poly / 2 ^ t in
        ap (λ x. x * 2 ^ k % 2 ^ (W - w)) (plus_one g)
        ∙ ap (λ x. x % 2 ^ (W - w)) (mul_assoc h (2 ^ t) (2 ^ k) ∙ ap (λ x. h * x) (sym (pow-add 2 t k)))
        ∙ multiple_of h (t + k) (W - w) (omega arith)

    unseen_some : 0 < bit_xor g.poly 1 * 2 ^ (W - w - g.lowest)
    unseen_some =
        let k = W - w - g.lowest in
        let one : 1 ≤ bit_xor g.poly 1 = omega (arith, degree_ge (bit_xor g.poly 1) g.degree (plus_one_degree g), pow_pos g.degree) in
        omega (arith, mul-le-mul_right (2 ^ k) one, pow_pos k)

    unseen_pair : Divides g (bit_xor g.poly 1 * 2 ^ (W - w - g.lowest)) (2 ^ (W - w - g.lowest)) (2 ^ (W - w - g.lowest))
    unseen_pair =
        let k = W - w - g.lowest in
        record {
          identity = xor_shl k g.poly 1 ∙ ap₂ bit_xor (sym (times_power k g.poly)) (one-mul (2 ^ k));
          bound = pow-lt {i = k} {j = g.degree} (omega (arith, rule.long, g.least));
        }

    unseen_colony : remainder_of g (rounded W l (bit_xor g.poly 1 * 2 ^ (W - w - g.lowest))) ≡ 0
    unseen_colony =
        ap (λ x. remainder_of g (x * 2 ^ (W - l))) (div-eq_of_lt unseen_small)
        ∙ ap (remainder_of g) (zero-mul (2 ^ (W - l))) ∙ remainder_zero g

    -- no bit of it is lost in 128 bits
    pub unseen_whole : W ≤ 128 → bit_xor g.poly 1 * 2 ^ (W - w - g.lowest) % 2 ^ 128 ≡ bit_xor g.poly 1 * 2 ^ (W - w - g.lowest)
    unseen_whole fits = mod-eq_of_lt (omega (arith, unseen_small, pow_mono {i = W - l} {j = 128} (omega arith)))

    pub confused : (P : ℕ) → IsPrefix W P w → Confused W g w l P (confused_with W g w P)
    confused P p = record {
      prefix = record {
        within = wW;
        fits = xor_lt W P C p.fits (omega (arith, unseen_small, pow_mono {i = W - l} {j = W} (omega arith)));
        clear = multiple_sum (W - w) P C p.clear unseen_multiple;
      };
      other = λ e. let none : C ≡ 0 = sym (xor_cancel P C) ∙ ap (bit_xor P) (sym e) ∙ xor_self P in absurd (omega (arith, unseen_some));
      alike = record { colonies = same_colony; digests = ap₂ bit_xor same_sum same_colony };
    }
      where
        C : ℕ
        C = bit_xor g.poly 1 * 2 ^ (W - w - g.lowest)

        z : ℕ
        z = 2 ^ (W - w - g.lowest)

        same_colony : colony W g P l ≡ colony W g (bit_xor P C) l
        same_colony = sym (
            ap (remainder_of g) (rounded_sum W l P C) ∙ (additive g).remainders (rounded W l P) (rounded W l C)
            ∙ ap (bit_xor (colony W g P l)) unseen_colony ∙ xor_zero_r (colony W g P l))

        same_sum : bit_xor (quotient_of g P) (remainder_of g P) ≡ bit_xor (quotient_of g (bit_xor P C)) (remainder_of g (bit_xor P C))
        same_sum =
            let row = pair g C z z unseen_pair in
            sym (
            ap₂ bit_xor ((additive g).quotients P C ∙ ap (bit_xor (quotient_of g P)) row.0) ((additive g).remainders P C ∙ ap (bit_xor (remainder_of g P)) row.1)
            ∙ xor_swap (quotient_of g P) z (remainder_of g P) z
            ∙ ap (bit_xor (bit_xor (quotient_of g P) (remainder_of g P))) (xor_self z)
            ∙ xor_zero_r (bit_xor (quotient_of g P) (remainder_of g P)))

  pub exact : Exact W g w l
  exact = record {
    apart = told_apart;
    clash = λ e. record { one = 0; two = confused_with W g w 0; first = none; second = confused (refused e) 0 none };
  }
    where
      none : IsPrefix W 0 w
      none = record { within = wW; fits = pow_pos W; clear = zero-mod (2 ^ (W - w)) }

-- a digest has at most W - degree bits
pub digest_lt : (W : ℕ) (g : Generator) (P l : ℕ) → 2 * g.degree ≤ W → P < 2 ^ W → digest W g P l < 2 ^ (W - g.degree)
digest_lt W g P l h p =
    let k = W - g.degree in
    let wide : W ≡ k + g.degree = omega arith in
    let low = pow_mono {i = g.degree} {j = k} (omega arith) in
    xor_lt k (bit_xor (quotient_of g P) (remainder_of g P)) (colony W g P l)
    (xor_lt k (quotient_of g P) (remainder_of g P) (quotient_lt g k P (subst (λ m. P < 2 ^ m) wide p)) (omega (arith, (divides g P).bound)))
    (omega (arith, (divides g (rounded W l P)).bound))
