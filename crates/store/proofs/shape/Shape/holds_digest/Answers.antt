use Rattle.std.proofs.Common.{◌^◌, ◌≤◌, arith, pow_mono}
use native.Mathlib.Nat.{div-eq_of_lt}
use Rattle.std.proofs.lemmas.Bool.{le-leb, eq-eqb, eqb-true}
use Rattle.store.proofs.Bounds.{shr_none}
use Rattle.store.proofs.shape.Shape.holds_digest.Goals as goal

pub returns-then-self-ge128 : goal.returns-then-self-ge128
returns-then-self-ge128 c =
    let large : 128 ≤ c.args.self.now.digest_bits = omega arith in
    let larger : 2 ^ 128 ≤ 2 ^ c.args.self.now.digest_bits = pow_mono large in
    (λ _. omega arith, λ _. le-leb _ _ large)

pub returns-else-self-ge128 : goal.returns-else-self-ge128
returns-else-self-ge128 c = (λ none. shr_none _ _ (eqb-true _ _ none), λ fits. eq-eqb _ _ (div-eq_of_lt fits))
