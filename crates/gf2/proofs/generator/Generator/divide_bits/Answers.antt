use Rattle.std.proofs.Common.{◌+◌, ◌-◌, ◌*◌, ◌/◌, ◌%◌, ◌^◌, ap, ◌∙◌, ap₂, arith}
use lib.Bits.{bit_xor}
use Rattle.gf2.proofs.Rows.{Turn, turn, none_above}
use Rattle.gf2.proofs.generator.Generator.divide_bits.Goals as goal
use Rattle.gf2.proofs.generator.Generator.divide_bits.Goals.{After-goes_into-digit, In-loop-k}

pub loop-k-init : goal.loop-k-init
loop-k-init c = none_above c.args.self.now c.args.dividend c.args.bits c.requires.within

-- the turn at which the coefficient of x^(k - 1) is brought down
before : (c : In-loop-k)
    → Turn c.args.self.now c.args.dividend (c.loop-k.k - 1) c.loop-k.quotient (c.loop-k.remainder * 2 + c.args.dividend / 2 ^ (c.loop-k.k - 1) % 2)
before c =
    turn c.args.self.now c.args.dividend c.args.bits c.loop-k.k c.loop-k.quotient c.loop-k.remainder
    c.requires.within c.requires.few (omega arith) c.loop-k.invariant

pub overflow_mul-next : goal.overflow_mul-next
overflow_mul-next c = omega (arith, (before c).next_small)

pub overflow_add-next : goal.overflow_add-next
overflow_add-next c = omega (arith, (before c).next_small)

-- the same, once the generator's digit is known
after : (c : After-goes_into-digit)
    → Turn c.args.self.now c.args.dividend (c.loop-k.k - 1) c.loop-k.quotient (c.loop-k.remainder * 2 + c.args.dividend / 2 ^ (c.loop-k.k - 1) % 2)
after c =
    turn c.args.self.now c.args.dividend c.args.bits c.loop-k.k c.loop-k.quotient c.loop-k.remainder
    c.requires.within c.requires.few (omega arith) c.loop-k.invariant

pub overflow_mul-quotient : goal.overflow_mul-quotient
overflow_mul-quotient c = omega (arith, (after c).quotient_fits)

pub overflow_add-quotient : goal.overflow_add-quotient
overflow_add-quotient c = omega (arith, (after c).quotient_fits, c.goes_into-digit.ensures)

pub overflow_mul-remainder : goal.overflow_mul-remainder
overflow_mul-remainder c = omega (arith, (after c).product_small, ap₂ ◌*◌ c.goes_into-digit.ensures c.poly-poly.ensures)

pub loop-k-preserved : goal.loop-k-preserved
loop-k-preserved c =
    let digit = c.goes_into-digit.ensures in
    let next = c.loop-k.remainder * 2 + c.args.dividend / 2 ^ (c.loop-k.k - 1) % 2 in (
      ap (λ d. c.loop-k.quotient * 2 + d) digit ∙ (after c).quotient,
      ap (bit_xor next) (ap₂ ◌*◌ digit c.poly-poly.ensures) ∙ (after c).remainder,
    )
