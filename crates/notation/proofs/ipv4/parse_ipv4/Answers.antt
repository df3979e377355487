-- The value is `read4`, which is exact.
use Rattle.std.proofs.Common.{Some, rules}
use Rattle.notation.proofs.Dotted.{dotted_exact}
use Rattle.notation.proofs.ipv4.parse_ipv4.Goals as goal

pub returns-clause-written : goal.returns-clause-written
returns-clause-written c = dotted_exact c.args.text.now (Some c.from_be_bytes.result) (search rules)
