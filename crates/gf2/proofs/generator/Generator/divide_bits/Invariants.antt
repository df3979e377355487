use Rattle.std.proofs.Common.{◌≡◌, ◌/◌, ◌^◌}
use Rattle.gf2.specs.Division.{quotient_of, remainder_of}
use Rattle.gf2.proofs.generator.Generator.divide_bits.Given as goal

-- the coefficients from x^k on have been divided
abbrev pub invariant-loop-k : goal.invariant-loop-k
invariant-loop-k l = (l.quotient ≡ quotient_of l.self (l.dividend / 2 ^ l.k)) × (l.remainder ≡ remainder_of l.self (l.dividend / 2 ^ l.k))
