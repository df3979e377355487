-- Where the groups but the last can't be read, there is nothing.
use Rattle.std.proofs.Common.{false, sym, ap, ◌∙◌}
use Rattle.notation.specs.Chain.{and_then}
use Rattle.notation.specs.Groups.{total}
use Rattle.notation.proofs.ReadGroups.{side_groups}
use Rattle.notation.proofs.ipv6_read.parse_left.Goals as goal

pub returns-in_default : goal.returns-in_default
returns-in_default c = c.in_default.ensures false ∙ ap (λ o. and_then o (total (0, 0))) (side_groups false c.args.text.now (sym c.is_empty.ensures ∙ c.if-is_empty.false))
