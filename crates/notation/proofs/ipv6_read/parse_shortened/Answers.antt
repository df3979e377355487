-- The sides of `::` are joined as `around` says.
use Rattle.std.proofs.Common.{true, false, ◌∙◌}
use Rattle.notation.specs.Ipv6.{read_side}
use Rattle.notation.proofs.Joining.{joined_is}
use Rattle.notation.proofs.ipv6_read.parse_shortened.Goals as goal

pub returns : goal.returns
returns c = c.join_around_zeros.ensures ∙ joined_is (read_side false c.args.left.now) (read_side true c.args.right.now) _ _ c.in_ok-left.ensures c.in_ok-right.ensures
