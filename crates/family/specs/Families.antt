-- The laws of a family whose addresses are the numbers of their bits. Assumes nothing.
use Rattle.std.specs.Prelude.{◌≡◌, ℕ, ◌+◌, ◌-◌, ◌*◌, ◌/◌, ◌^◌, min}
use Rattle.std.proofs.Common.{sym, ap, ◌∙◌, arith, shr-shr}
use Rattle.std.proofs.Math.Decide.{dec_le}
use Rattle.std.proofs.lemmas.Nat.{shl-shr}
use Rattle.std.proofs.Math.Pow.{split}
use Rattle.gf2.proofs.Quotients.{divides}
use Rattle.layout.specs.Addresses.{IsWidth, rounded}
use Rattle.layout.proofs.Rounding.{multiple_of}
use Rattle.family.specs.Laws.{Laws}

-- rounding to a and then to b is rounding to the smaller of the two
pub round_twice : (W a b x : ℕ) → rounded W b (rounded W a x) ≡ rounded W (min a b) x
round_twice W a b x = elim (dec_le a b) [
  | yes le ↦
      let e : min a b ≡ a = omega arith in
      let clear = multiple_of (x / 2 ^ (W - a)) (W - a) (W - b) (omega arith) in
      let same : rounded W b (rounded W a x) ≡ rounded W a x = omega (arith, split (rounded W a x) (W - b)) in
      same ∙ ap (λ l. rounded W l x) (sym e)
  | no gt ↦
      let e : min a b ≡ b = omega arith in
      let k = (W - b) - (W - a) in
      let sum : (W - a) + k ≡ W - b = omega arith in
      let cut =
      sym (shr-shr (rounded W a x) (W - a) k) ∙ ap (λ y. y / 2 ^ k) (shl-shr (x / 2 ^ (W - a)) (W - a))
      ∙ shr-shr x (W - a) k in
      ap (λ y. y * 2 ^ (W - b)) (rw sum at cut) ∙ ap (λ l. rounded W l x) (sym e)
]

-- an address is made of its number, and rounds as the number does
pub laws_of : {X : Type 0} (W : ℕ) (number : X → ℕ) (make : ℕ → X) → IsWidth W
    → ((n : ℕ) → number (make n) ≡ n) → ((x : X) → make (number x) ≡ x)
    → Laws W number (λ x l. make (rounded W l (number x)))
laws_of W number make width made whole = record {
  width = width;
  rounds = λ x l. made (rounded W l (number x));
  smaller = λ x a b. ap make (ap (rounded W b) (made (rounded W a (number x))) ∙ round_twice W a b (number x));
  equal = λ x y e. sym (whole x) ∙ ap make e ∙ whole y;
  identity = λ g x. divides g (number x);
}
