use Rattle.std.proofs.Common.{rules, arith}
use Rattle.notation.proofs.HexText.{digits_hex}
use Rattle.explanation.proofs.text.PlaceDisplay.fmt.Goals as goal

-- `{:x}` writes the digits that notation does
pub returns-clause-writes : goal.returns-clause-writes
returns-clause-writes g c = rw (← digits_hex c.args.self.now.bucket (omega arith)) (search rules)
