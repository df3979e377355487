-- No number is written with a leading zero.
use Rattle.std.proofs.Common.{None, arith, rules}
use Rattle.notation.proofs.Decimals.{decimal_exact}
use Rattle.notation.proofs.decimal.parse_decimal.Goals as goal

pub returns-then-has_leading_zero-clause-written :
    goal.returns-then-has_leading_zero-clause-written
returns-then-has_leading_zero-clause-written c = decimal_exact c.args.limit c.args.text.now None (omega arith) (search rules)
